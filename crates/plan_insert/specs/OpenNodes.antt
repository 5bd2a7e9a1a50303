-- How many nodes are open, that is, of rank 0: all of them at first, and one fewer once an open node is ranked. Assumes nothing.
use Rattle.std.specs.Prelude.{List, ◌≡◌, ℕ, suc, ◌+◌, ◌≤◌, ◌<◌, eqb, length, set}
use Rattle.std.proofs.Math.Logic.{⊎_elim}
use Rattle.std.proofs.Math.Path.{refl}
use native.Mathlib.Omega.{arith}
use Rattle.base_sums.specs.At.{Stored, store}
use Rattle.base_sums.specs.Each.{same_or_not}
use Rattle.base_sums.specs.Sums.{Σ, Σ-ext, Σ-add, Σ-only, Σ-most, bit_le, same, same_one, same_none}
use Rattle.base_sums.specs.Pigeons.{Σ-least}
use Rattle.plan_insert.specs.State.{at}

unfoldable pub open_nodes : ℕ → List ℕ → ℕ
open_nodes cells rank = Σ (suc cells) (λ v. same (at rank v) 0)

pub open_all : (cells : ℕ) (rank : List ℕ) → ((v : ℕ) → v ≤ cells → at rank v ≡ 0) → open_nodes cells rank ≡ suc cells
unfolding open_nodes
open_all cells rank none =
    omega (
      arith,
      Σ-most (suc cells) (λ v. same (at rank v) 0) 1 (λ v l. bit_le (eqb (at rank v) 0)),
      Σ-least (suc cells) (λ v. same (at rank v) 0) (λ v l. omega (arith, same_one (at rank v) 0 (none v (omega arith)))),
    )

-- node u is ranked: node by node, what was open is what is open now and u
module _ (cells : ℕ) (rank : List ℕ) (u clock : ℕ) (inside : u ≤ cells) (long : u < length rank) (fresh : at rank u ≡ 0) (ticks : 1 ≤ clock) where
  ranked : Stored 0 rank u clock (set rank u clock)
  ranked = store 0 rank u clock long

  here : (v : ℕ) → v ≡ u → same (at rank v) 0 ≡ same (at (set rank u clock) v) 0 + same v u
  here v q =
      rw q
      (omega (arith, same_one (at rank u) 0 fresh, same_none (at (set rank u clock) u) 0 (λ z. omega (arith, ranked.here u refl)), same_one u u refl))

  there : (v : ℕ) → (v ≡ u → ⊥) → same (at rank v) 0 ≡ same (at (set rank u clock) v) 0 + same v u
  there v n = rw (ranked.elsewhere v n) (omega (arith, same_none v u n))

  pub open_less : open_nodes cells (set rank u clock) + 1 ≡ open_nodes cells rank
  unfolding open_nodes
  open_less =
      omega (
        arith,
        Σ-ext (suc cells) (λ v. same (at rank v) 0) (λ v. same (at (set rank u clock) v) 0 + same v u) (λ v l. ⊎_elim (here v) (there v) (same_or_not v u)),
        Σ-add (suc cells) (λ v. same (at (set rank u clock) v) 0) (λ v. same v u),
        Σ-only (suc cells) u (λ v. same v u) (omega arith) (λ v l. same_none v u),
        same_one u u refl,
      )
