-- Prices that go to their places through a map: one store a turn, and a one-to-one map's stores do not disturb each other. Assumes nothing.
use Rattle.std.specs.Prelude.{◌≡◌, refl, true, false, List, ◌++◌, ℕ, ◌+◌, ◌≤◌, ◌<◌, length, set, ℤ, eqb}
use Rattle.std.proofs.Common.{sym, subst, ◌∙◌, ⊎_elim, arith, below_more, eqb-true, eq-eqb, length-set}
use Rattle.std.proofs.Math.ListN.{get_or-append}
use Rattle.base_sums.specs.At.{at, Stored, store}
use Rattle.base_sums.specs.Each.{some, some_at, some_of, of_yes, decided}
use Rattle.base_sums.specs.Filled.{Filled}
use Rattle.plan_row.specs.Steps.{Falling}

-- each cell has a place in the list, and no two have the same one
pub record OneToOne (cells : ℕ) (place : List ℕ) (list : List ℕ) : Type 0 where
  pub in_list : (j : ℕ) → j < cells → at place j < length list
  pub own : (i j : ℕ) → i < cells → j < cells → at place i ≡ at place j → i ≡ j

-- what pricing asks: distances that fall along the row, and a place for each cell
pub record CanPrice (cells : ℕ) (dist : List ℤ) (place prices : List ℕ) : Type 0 where
  pub falling : Falling cells dist
  pub places : OneToOne cells place prices

-- the place of each of the first n cells has what f says of the cell, and a place that is none of theirs has what it had
pub record Placed (f : ℕ → ℕ) (place : List ℕ) (n : ℕ) (before after : List ℕ) : Type 0 where
  pub as_long : length after ≡ length before
  pub is : (j : ℕ) → j < n → at after (at place j) ≡ f j
  pub others : (p : ℕ) → ((j : ℕ) → j < n → at place j ≡ p → ⊥) → at after p ≡ at before p

pub placed_none : (f : ℕ → ℕ) (place list : List ℕ) → Placed f place 0 list list
placed_none f place list = record { as_long = refl; is = λ j l. absurd (omega arith); others = λ p h. refl }

-- a store for one cell more leaves the places of the others as they were
pub placed_more :
    {f : ℕ → ℕ} {cells n : ℕ} {place before now : List ℕ} (v : ℕ)
    → OneToOne cells place before → Placed f place n before now → n < cells → v ≡ f n → Placed f place (n + 1) before (set now (at place n) v)
placed_more {f} {cells} {n} {place} {before} {now} v to was l e = record {
  as_long = length-set now (at place n) v ∙ was.as_long;
  is =
      below_more (λ (j : ℕ). at (set now (at place n) v) (at place j) ≡ f j) n
      (λ j h. more.elsewhere (at place j) (λ q. omega (arith, to.own j n (omega arith) l q)) ∙ was.is j h)
      (more.here (at place n) refl ∙ e);
  others = λ p h. more.elsewhere p (λ q. h n (omega arith) (sym q)) ∙ was.others p (λ j k. h j (omega arith));
}
  where
    more : Stored 0 now (at place n) v (set now (at place n) v)
    more = store 0 now (at place n) v (omega (arith, to.in_list n l, was.as_long))

-- ---- prices that are not too high

-- no price is above 1,000,000 (a list has 0 past its end)
pub record LowPrices (prices : List ℕ) : Type 0 where
  pub upto : (s : ℕ) → at prices s ≤ 1000000

-- a place is that of some cell, or has what it had
pub placed_low :
    {f : ℕ → ℕ} {place before after : List ℕ} {n : ℕ} → ((j : ℕ) → f j ≤ 1000000) → Placed f place n before after → LowPrices before → LowPrices after
placed_low {f} {place} {before} {after} {n} low p was = record { upto = λ s. ⊎_elim (of_cell s) (of_none s) (decided (some n (λ j. eqb (at place j) s))) }
  where
    of_cell : (s : ℕ) → some n (λ j. eqb (at place j) s) ≡ true → at after s ≤ 1000000
    of_cell s e =
        let (j, l, q) = some_at n _ e in
        rw (← eqb-true (at place j) s q, p.is j l) (low j)

    of_none : (s : ℕ) → some n (λ j. eqb (at place j) s) ≡ false → at after s ≤ 1000000
    of_none s e = rw (p.others s (λ j l q. of_yes (sym e ∙ some_of n _ j l (eq-eqb (at place j) s q)))) (was.upto s)

-- ---- a line's own map, where cell j goes to place j of a part with as many places as there are cells

pub line_places : {cells : ℕ} {place part : List ℕ} → Filled (λ j. j) cells place → length part ≡ cells → OneToOne cells place part
line_places map e = record {
  in_list = λ j l. omega (arith, map.is j l);
  own = λ i j l h q. omega (arith, map.is i l, map.is j h);
}

-- prices placed so in the first part of a list fill its first places, whatever follows
pub line_placed :
    {f : ℕ → ℕ} {cells : ℕ} {place before part : List ℕ}
    → Filled (λ j. j) cells place → length before ≡ cells → Placed f place cells before part → (rest : List ℕ) → Filled f cells (part ++ rest)
line_placed {f} {part} map e p rest = record {
  is = λ j l. get_or-append part rest 0 j (omega (arith, p.as_long)) ∙ subst (λ (k : ℕ). at part k ≡ f j) (map.is j l) (p.is j l);
}
