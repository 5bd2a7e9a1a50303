-- A row whose candidates stand in another order is planned as well as the row itself: a load is a sum over the candidates, which no order changes, and
-- all else that is said of the planner's state is said of one candidate at a time. Assumes nothing.
use Rattle.std.specs.Prelude.{◌≡◌, Bool, false, ◌&&◌, List, get_or, take, ℤ, pos}
use Rattle.std.proofs.Common.{sym, ap, ◌∙◌, arith, get_or-take}
use Prim.Native.Nat.{ℕ, ◌<◌}
use Rattle.base_sums.specs.At.{at, flag}
use Rattle.base_sums.specs.Between.{is_between}
use Rattle.base_sums.specs.Sums.{bit, Σ-ext}
use Rattle.base_sums.specs.Filled.{FilledBy, Filled}
use Rattle.base_sums.specs.Permuted.{Back, Σ-permuted}
use Rattle.base_signed.specs.Parts.{up, dn}
use Rattle.law_row.specs.Row.{covers}
use Rattle.law_flow.specs.Balanced.{load_to}
use Rattle.plan_insert.specs.State.{depth, row_in, CanPlan, Standing}
use Rattle.plan_order.specs.Order.{Order}

-- the candidates in an order
pub record Arranged (count : ℕ) (order lo hi : List ℕ) (cost : List ℤ) (los his : List ℕ) (costs : List ℤ) : Type 0 where
  pub lower : Filled (λ i. at lo (at order i)) count los
  pub upper : Filled (λ i. at hi (at order i)) count his
  pub paid : FilledBy (pos 0) (λ i. get_or cost (at order i) (pos 0)) count costs

-- which are kept, by number
abbrev pub PutBack : ℕ → List ℕ → List Bool → List Bool → Type 0
PutBack count place keeps kept = FilledBy false (λ r. flag keeps (at place r)) count kept

module _
    {count : ℕ} {order place lo hi : List ℕ} {cost : List ℤ} {los his : List ℕ} {costs : List ℤ}
    (o : Order count order place) (a : Arranged count order lo hi cost los his costs)
  where
    pub can_arranged : {cells : ℕ} {room : List ℕ} → CanPlan cells count lo hi cost room → CanPlan cells count los his costs room
    can_arranged can = record {
      cells_upto = can.cells_upto;
      count_upto = can.count_upto;
      proper = record {
        some_cell = λ i l. omega (arith, a.lower.is i l, a.upper.is i l, can.proper.some_cell (at order i) (o.there.below i l));
        in_row = λ i l. omega (arith, a.upper.is i l, can.proper.in_row (at order i) (o.there.below i l));
      };
      costs = record {
        not_above = λ i l. ap up (a.paid.is i l) ∙ can.costs.not_above (at order i) (o.there.below i l);
        upto = λ i l. rw (a.paid.is i l) (can.costs.upto (at order i) (o.there.below i l));
      };
      limits = can.limits;
    }

    -- at the place of request r stands what it is over and what it costs
    module _ (r : ℕ) (l : r < count) where
      inside : at place r < count
      inside = o.back.below r l

      lower_is : at los (at place r) ≡ at lo r
      lower_is = a.lower.is (at place r) inside ∙ ap (at lo) (o.back.leads r l)

      upper_is : at his (at place r) ≡ at hi r
      upper_is = a.upper.is (at place r) inside ∙ ap (at hi) (o.back.leads r l)

      paid_is : depth costs (at place r) ≡ depth cost r
      paid_is = ap dn (a.paid.is (at place r) inside) ∙ ap (depth cost) (o.back.leads r l)

    module _ {keeps kept : List Bool} (p : PutBack count place keeps kept) where
      pub reordered : {limit : ℕ → ℕ} {cells : ℕ} {room : List ℕ} {dist : List ℤ} → Standing limit count cells count los his costs keeps room dist → Standing limit count cells count lo hi cost kept room dist
      unfolding load_to covers
      reordered {limit} {cells} s =
          let b = s.balanced in
          record {
            balanced = record {
              room = λ j l. omega (arith, b.room j l, load_is j);
              deep = record {
                rises = b.deep.rises;
                level = b.deep.level;
                paid = λ r l e. rw (lower_is r l, upper_is r l, paid_is r l) at (b.deep.paid (at place r) (inside r l) (sym (p.is r l) ∙ e));
                dropped = λ r l e. rw (lower_is r l, upper_is r l, paid_is r l) at (b.deep.dropped (at place r) (inside r l) (sym (p.is r l) ∙ e));
              };
            };
            dists = s.dists;
          }
        where
          -- what request r counts for on cell j
          over : ℕ → ℕ → ℕ
          over j r = bit (flag kept r && is_between (at lo r) (at hi r) j)

          load_is : (j : ℕ) → load_to (row_in limit count cells los his costs) count (flag keeps) j ≡ load_to (row_in limit count cells lo hi cost) count (flag kept) j
          load_is j =
              Σ-ext count _ (λ i. over j (at order i)) (λ i l. rw (a.lower.is i l, a.upper.is i l, p.is (at order i) (o.there.below i l), o.there.leads i l))
              ∙ Σ-permuted o.there o.back (over j)

-- ---- an order speaks of its first places only, so it stays one where it is lent as a slice

first_back : {n : ℕ} (to back : List ℕ) → Back n n (at to) (at back) → Back n n (at (take n to)) (at (take n back))
first_back {n} to back b = record {
  below = λ k l. rw (get_or-take n to k 0 l) (b.below k l);
  leads = λ k l. rw (get_or-take n to k 0 l, get_or-take n back (at to k) 0 (b.below k l)) (b.leads k l);
}

pub order_first : {count : ℕ} {order place : List ℕ} → Order count order place → Order count (take count order) (take count place)
order_first {order} {place} o = record { there = first_back order place o.there; back = first_back place order o.back }
