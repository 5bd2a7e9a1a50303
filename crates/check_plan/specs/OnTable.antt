-- An accepted book on the checker's table: what its numbers say is what the ways out ask. A book that is no ring is a line; where the lists
-- are long enough and no price is too high, everything stands that yes or no is said of. Assumes nothing.
use Rattle.std.specs.Prelude.{◌≡◌, Bool, false, List, ℕ, ◌/◌, ◌≤◌, ◌<◌, length, ltb}
use Rattle.std.proofs.Common.{sym, ◌∙◌, ⊎_elim, arith}
use Rattle.std.proofs.Math.Path.{ap}
use Rattle.base_sums.specs.Each.{first}
use Rattle.paper_book.specs.Bytes.{entry_places, price_places, entry_in, price_in}
use Rattle.base_columns.specs.declared.Columns.{Columns}
use Rattle.paper_book.specs.Book.{Book, spans}
use Rattle.paper_book.specs.Refusals.{short_of}
use Rattle.paper_book.specs.InWords.{long_lists}
use Rattle.paper_book.specs.Reading.{done, refused}
use Rattle.paper_rules.specs.Prices.{verdict}
use Rattle.paper_rules.specs.Operations.{places_short, too_short, too_dear, checking}
use Rattle.law_line.specs.Line.{Line}
use Rattle.law_line.specs.HeldLine.{HeldLine}
use Rattle.read_record.specs.declared.Network.{Network}
use Rattle.read_record.specs.declared.shape.Shape.TheVariants.{Ring}
use Rattle.read_record.specs.Shapes.{code_of, same_shape}
use Rattle.work_columns.specs.Seam.{HeldColumns}
use Rattle.check_plan.specs.CanCheck.{CheckableColumns}
use Rattle.check_plan.specs.WaysOut.{dear_refused, verdict_given, all_low}

module _ {book : Book} {network : Network} {c : Columns} (h : HeldColumns book network c) (straight : network.shape ≡ Ring → ⊥) where
  pub line : Line book
  line = record {
    line = ⊎_elim (λ e. e) (λ e. absurd (straight (same_shape _ Ring (sym h.shape_is ∙ e)))) h.sound.shaped;
    sound = h.sound;
  }

  on_line : HeldLine book (length c.limits.now) (length c.a.now) c.limits.now c.a.now c.b.now c.profit.now
  on_line = record { line = line; spans_is = h.spans_is; holds = h.holds }

  -- the lists, measured in whole places
  module _ (entries prices : List ℕ) {lacks : Bool} (measured : lacks ≡ short_of (code_of network.shape) (length c.limits.now) (length c.a.now) (length entries / 2) (length prices / 4)) where
    pub short_is : too_short book entries prices ≡ lacks
    unfolding too_short places_short entry_places price_places
    short_is = rw (← h.spans_is, ← h.holds.counted, h.shape_is) (sym measured)

    module _ (long : lacks ≡ false) where
      entries_reach : length c.a.now ≤ length entries / 2
      entries_reach = (long_lists.0 (sym measured ∙ long)).0

      pub prices_reach : length c.limits.now ≤ length prices / 4
      prices_reach = (long_lists.0 (sym measured ∙ long)).1 (sym h.shape_is ∙ line.line)

      -- what the search for too high a price found
      module _ {dear : ℕ} (found : dear ≡ first (length c.limits.now) (λ s. ltb 1000000 (price_in prices s))) where
        dear_is : too_dear book (price_in prices) ≡ dear
        unfolding too_dear
        dear_is = rw (← h.spans_is) (sym found)

        pub refused_there : dear < length c.limits.now → refused 13 dear ≡ checking book entries prices
        refused_there l = ap (refused 13) (sym dear_is) ∙ dear_refused line entries prices (short_is ∙ long) (omega (arith, dear_is, h.spans_is))

        module _ (none : length c.limits.now ≤ dear) where
          no_dear : spans book ≤ too_dear book (price_in prices)
          no_dear = omega (arith, dear_is, h.spans_is)

          pub can_check : CheckableColumns c entries prices
          can_check = record {
            book = book;
            held = on_line;
            entries_enough = omega (arith, entries_reach);
            prices_enough = omega (arith, prices_reach);
            price_upto = λ s l. all_low book prices no_dear s (omega (arith, h.spans_is));
          }

          pub weighed :
              {answer : Bool}
              → ((w : CheckableColumns c entries prices) → network.channels ≡ w.book.channels → answer ≡ verdict w.book (entry_in entries) (price_in prices))
              → done answer ≡ checking book entries prices
          unfolding can_check
          weighed said = ap done (said can_check (sym h.channels_is)) ∙ verdict_given line entries prices (short_is ∙ long) no_dear
