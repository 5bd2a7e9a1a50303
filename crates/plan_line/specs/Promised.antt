-- How planning a line meets its promise: from the columns of a line's book to a row that can be solved, from what solves it to channels and prices,
-- and from these to a best plan that the checker accepts. Every step is a law of the crates below. Assumes nothing.
use Rattle.std.specs.Prelude.{◌≡◌, refl, Bool, true, List, ◌++◌, ℕ, suc, ◌≤◌, ◌<◌, length, drop, replicate, ℤ, Result, ⊤}
use Rattle.std.proofs.Common.{sym, ◌∙◌}
use Rattle.std.proofs.Math.Path.{ap, subst}
use native.Mathlib.Omega.{arith}
use Rattle.base_sums.specs.At.{flag, NumbersUpto}
use Rattle.base_sums.specs.Sums.{when, Σ-ext}
use Rattle.base_sums.specs.Filled.{Filled}
use Rattle.base_sums.specs.Vacant.{Vacant, vacant_new, vacant_part}
use Rattle.paper_book.specs.Book as Books
use Rattle.paper_book.specs.Columns.{at}
use Rattle.paper_rules.specs.Plans.{kept, channel, obeys}
use Rattle.paper_rules.specs.Channels.{by_rule}
use Rattle.paper_rules.specs.Prices.{Prices}
use Rattle.paper_rules.specs.Best.{best}
use Rattle.law_row.specs.Row.{worth}
use Rattle.law_row.specs.Clamp.{clamp}
use Rattle.law_row.specs.Channels.{Ruled}
use Rattle.law_row.specs.Same.{SameIntervals, SameKept, Same, load_same, ruled_same}
use Rattle.law_line.specs.RowOf.{row_of}
use Rattle.law_line.specs.Ways.{line_spans}
use Rattle.law_line.specs.HeldLine.{few_spans, a_in, b_in, ends_differ, profits_in, limit_in}
use Rattle.law_line.specs.Laid.{Laid, load_row, ruled_rule}
use Rattle.law_line.specs.Found.{rule_obeys}
use Rattle.law_line.specs.Ceiling.{yes_best}
use Rattle.plan_insert.specs.State.{row_in}
use Rattle.plan_channels.specs.HandOut.{row_on, CanHandOut, HandedOut}
use Rattle.plan_channels.specs.declared.NoneLeft.{NoneLeft}
use Rattle.plan_row.specs.Steps.{CanSolve, Solves, Falling, prices_of}
use Rattle.plan_row.specs.Solving.{real_intervals}
use Rattle.plan_row.specs.Placing.{Placed}
use Rattle.plan_line.specs.Promise.{LineColumns, LinePlanned}
use Rattle.plan_line.specs.Steps.{Entered, sum_of, number_of}
use Rattle.plan_line.specs.AsRow.{same_intervals, same_row}
use Rattle.plan_line.specs.Certified.{Certified, certified, certified_yes, earns_best}
use Rattle.plan_line.specs.Written.{keeps_are, goes_its_way, channels_are, sum_is, number_is}

-- prices that are placed in the first n places of a new list leave the others as they were
pub placed_end : {f : ℕ → ℕ} {n : ℕ} {place before part : List ℕ} → Placed f place n before part → length before ≡ n → n ≤ 64 → Vacant 0 n 64 (part ++ drop n (replicate 64 0))
placed_end {n} {part} p e l = vacant_part (vacant_new 0 n 64) part (p.as_long ∙ e) l

module _ {spans count : ℕ} {limits a b profits : List ℕ} (w : LineColumns spans count limits a b profits) where
  cells_are : spans ≡ Books.spans w.book
  cells_are = w.held.spans_is

  pub some_span : 1 ≤ spans
  some_span = omega (arith, cells_are, line_spans w.held.line, w.held.line.sound.nodes_from)

  pub can_solve : CanSolve spans count limits a b profits
  can_solve =
      let h = w.held in
      record {
        cells_upto = few_spans h;
        profits_in = profits_in h;
        a_node = a_in h;
        b_node = b_in h;
        ends_differ = ends_differ h;
        limits_upto = λ j l. omega (arith, limit_in h j l);
      }

  module _
      {lo hi : List ℕ} {keeps : List Bool} {dist : List ℤ} (s : Solves spans count limits a b profits lo hi keeps dist)
    where
      over : SameIntervals (row_on spans count lo hi) (row_of w.book)
      over = same_intervals w.held.holds s.candidates cells_are

      same : Same (row_in (at s.free) count spans lo hi s.cost) (row_of w.book)
      same = same_row w.held.holds s.candidates cells_are s.free s.free_is

      -- the kept set is certified by the prices, whatever plan and price list they stand in
      stands : {x : ℕ → Bool} {y : Prices} → SameKept count (flag keeps) x → ((j : ℕ) → j < spans → prices_of dist j ≡ y j) → Certified w.book x y
      stands = certified w.held.line same s.standing.balanced

      pub sum_best : sum_of count keeps profits ≡ best w.book
      unfolding worth row_of
      sum_best = Σ-ext count _ _ (λ i l. ap (when (flag keeps i)) (w.held.holds.profit_is i l)) ∙ rw w.held.holds.counted (earns_best w.held.line (stands {y = prices_of dist} (λ i l. refl) (λ j l. refl)))

      pub falling : Falling spans dist
      falling = record {
        cells_upto = can_solve.cells_upto;
        at_cell = λ j l. record {
          near_not_above = s.standing.dists.not_above j (omega arith);
          far_not_above = s.standing.dists.not_above (suc j) (omega arith);
          far_low = omega (arith, s.standing.dists.upto (suc j) (omega arith), can_solve.cells_upto, can_solve.profits_in.few);
          falls = s.standing.balanced.deep.rises j l;
        };
      }

      pub can_hand_out : {k : ℕ} → k ≡ w.book.channels → CanHandOut spans count k lo hi keeps
      unfolding row_of
      can_hand_out its =
          let real = real_intervals can_solve s.candidates in
          record {
            cells_upto = omega (arith, can_solve.cells_upto);
            count_upto = can_solve.profits_in.few;
            k_upto = omega (arith, its, w.held.line.sound.channels_upto);
            proper = record { some_cell = real.some_cell; in_row = real.in_row };
            fits = λ j l.
                let h : j < Books.spans w.book = omega (arith, cells_are) in
                omega (
                  arith,
                  its,
                  load_same over {x = flag keeps} {x' = flag keeps} (λ i l. refl) j,
                  (stands {x = flag keeps} {y = prices_of dist} (λ i l. refl) (λ i l. refl)).within.holds j h,
                  w.held.line.sound.limit_upto j h,
                );
          }

      module _ {k : ℕ} (its : k ≡ w.book.channels) {given : Result ⊤ NoneLeft} {channels : List ℕ} (h : HandedOut spans count k lo hi keeps given channels) where
        pub channels_small : NumbersUpto 96 count channels
        channels_small = record { few = can_solve.profits_in.few; upto = λ i l. omega (arith, h.upto i l, (can_hand_out its).k_upto) }

        -- ---- entries and prices as they are written

        module _
            {entries prices : List ℕ} (e : Entered count a b keeps channels entries) (p : Filled (prices_of dist) spans prices)
            (no-entry : Vacant 0 count 256 entries) (no-price : Vacant 0 spans 64 prices)
          where
            same_set : SameKept count (flag keeps) (kept (at entries))
            same_set = keeps_are w.held.holds channels_small e

            laid : Laid w.book (at entries)
            laid = goes_its_way w.held.holds channels_small e

            certificate : Certified w.book (kept (at entries)) (at prices)
            certificate = stands same_set (λ j l. sym (p.is j l))

            rule : by_rule w.book (at entries) ≡ true
            rule =
                ruled_rule w.held.line laid
                (subst (λ (n : ℕ). Ruled (row_of w.book) n (kept (at entries)) (channel (at entries))) its
                (ruled_same over same_set k (channels_are w.held.holds channels_small e) h.ruled))

            fair : obeys w.book (at entries) ≡ true
            unfolding row_of
            fair = rule_obeys w.held.line laid (λ j l. rw (load_row w.held.line laid j) (certificate.within.holds j l)) rule

            pub planned :
                {earned number : ℕ} → earned ≡ sum_of count keeps profits → number ≡ number_of count keeps
                → LinePlanned w.book (record { earned = earned; number = number; entries = entries; prices = prices })
            unfolding clamp
            planned earns counts =
                let accepted = certified_yes w.held.line (at entries) fair certificate in
                record {
                  earned_is = earns ∙ sum_is w.held.holds channels_small e;
                  number_is = counts ∙ number_is w.held.holds channels_small e;
                  best_plan = yes_best w.held.line (at entries) (at prices) accepted;
                  by_rule = rule;
                  priced = record { small = λ j l. omega (arith, p.is j (omega (arith, cells_are))); accepted = accepted };
                  entries_end = subst (λ (n : ℕ). Vacant 0 n 256 entries) w.held.holds.counted no-entry;
                  prices_end = subst (λ (n : ℕ). Vacant 0 n 64 prices) cells_are no-price;
                }
