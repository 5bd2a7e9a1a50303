-- A new candidate, number t, is inserted: kept at once where every cell of it has room, dropped where it gains nothing or no way back is
-- short enough, or kept, and the walk back begins. Assumes nothing.
use Rattle.std.specs.Prelude.{◌≡◌, Bool, true, false, ℕ, zero, suc, ◌+◌, ◌≤◌, ◌<◌}
use Rattle.std.proofs.Math.Path.{refl}
use Rattle.std.proofs.Common.{sym, ap, ◌∙◌, arith, ⊎_elim, eq-or-lt_of_le}
use Rattle.base_sums.specs.Between.{between}
use Rattle.base_sums.specs.Each.{of_yes}
use Rattle.law_row.specs.Row.{Row}
use Rattle.law_flow.specs.Balanced.{Proper, Balanced}
use Rattle.law_flow.specs.Certificate.{deep_more, dropped_at_once}
use Rattle.law_flow.specs.Searching.{Ground}
use Rattle.law_flow.specs.Raise.{raised}
use Rattle.law_flow.specs.Walking.{Walking}
use Rattle.law_flow.specs.WalkSteps.{walk_start, load_new}
use Rattle.law_flow.specs.Ends.{Reached, Unreached}

module _ {g : Ground} {most : ℕ} {d : ℕ → ℕ} {x' : ℕ → Bool}
    (proper : Proper g.row (suc g.t)) (balanced : Balanced g.row g.t g.x g.s g.N)
    (gain : most + g.N (g.row.hi g.t) ≡ g.N (g.row.lo g.t) + g.row.profit g.t) (same : (i : ℕ) → i < g.t → x' i ≡ g.x i)
  where
    pub insert_dropped : Unreached g (g.row.lo g.t) (g.row.hi g.t) most d → x' g.t ≡ false → Balanced g.row (suc g.t) x' g.s (raised most g.N d)
    unfolding raised
    insert_dropped u left = dropped_at_once (record { room = balanced.room; deep = u.deep }) same left (omega (arith, u.far, u.root))

    pub insert_walks : {rank by from : ℕ → ℕ} → Reached g (g.row.lo g.t) (g.row.hi g.t) most d rank by from → x' g.t ≡ true →
        Walking g.row (suc g.t) x' g.s (raised (d (g.row.lo g.t)) g.N d) (g.row.hi g.t) rank by from (g.row.lo g.t)
    unfolding raised
    insert_walks r kept =
        walk_start balanced
        (deep_more r.deep same (λ e. omega (arith, r.shorter, r.root)) (λ left. absurd (of_yes (sym left ∙ kept))))
        same kept proper refl refl r.trail

-- cells with room are level, so the row does not deepen from a to b
run_level : {N : ℕ → ℕ} (a b : ℕ) → a ≤ b → ((j : ℕ) → a ≤ j → j < b → N (suc j) ≤ N j) → N b ≤ N a
run_level {N} a zero h level = let q : a ≡ 0 = omega arith in omega (arith, ap N q)
run_level {N} a (suc b) h level =
    ⊎_elim (λ (q : a ≡ suc b). omega (arith, ap N q)) (λ (l : a < suc b). omega (arith, level b (omega arith) (omega arith), run_level {N = N} a b (omega arith) (λ j f k. level j f (omega arith)))) (eq-or-lt_of_le h)

-- every cell of it has room: it is kept at once, and takes one of room on each
pub insert_free : {row : Row} {t : ℕ} {x x' : ℕ → Bool} {s s' N : ℕ → ℕ} → Proper row (suc t) → Balanced row t x s N →
    ((i : ℕ) → i < t → x' i ≡ x i) → x' t ≡ true → ((j : ℕ) → row.lo t ≤ j → j < row.hi t → 0 < s j) → ((j : ℕ) → j < row.cells → s' j + between (row.lo t) (row.hi t) j ≡ s j) →
    Balanced row (suc t) x' s' N
insert_free {row} {t} {x} {x'} {s} {s'} {N} proper balanced same kept free taken =
    record {
      room = λ j l. omega (arith, load_new row x x' t j same kept, taken j l, balanced.room j l);
      deep = deep_more (record { rises = balanced.deep.rises; level = λ j l r. balanced.deep.level j l (omega (arith, taken j l)); paid = balanced.deep.paid; dropped = balanced.deep.dropped })
          same (λ e. omega (arith, level_all)) (λ left. absurd (of_yes (sym left ∙ kept)));
    }
  where
    level_all : N (row.hi t) ≤ N (row.lo t)
    level_all =
        let some = proper.some_cell t (omega arith) in
        run_level {N = N} (row.lo t) (row.hi t) (omega (arith, some)) (λ j f l. balanced.deep.level j (omega (arith, proper.in_row t (omega arith))) (free j f l))
