-- The columns of a line, laid as candidates, are the line's row: the same cells, limits, intervals and profits. Assumes nothing.
use Rattle.std.specs.Prelude.{◌≡◌, List, ℤ}
use Rattle.std.proofs.Math.Path.{ap₂}
use Rattle.std.proofs.Common.{◌∙◌, arith}
use Prim.Native.Nat.{ℕ, min, max}
use Rattle.base_sums.specs.Filled.{Filled}
use Rattle.paper_book.specs.Book.{Book, spans}
use Rattle.paper_book.specs.Columns.{at, Holds}
use Rattle.law_row.specs.Same.{SameIntervals, Same}
use Rattle.law_line.specs.RowOf.{row_of}
use Rattle.plan_insert.specs.State.{row_in}
use Rattle.plan_channels.specs.HandOut.{row_on}
use Rattle.plan_row.specs.Steps.{Candidates}

module _
    {book : Book} {cells count : ℕ} {limits a b profits lo hi : List ℕ} {cost : List ℤ}
    (holds : Holds book count limits a b profits) (laid : Candidates count a b profits lo hi cost) (all : cells ≡ spans book)
  where
    -- what the channel rule looks at
    pub same_intervals : SameIntervals (row_on cells count lo hi) (row_of book)
    unfolding row_of
    same_intervals = record {
      cells = all;
      count = holds.counted;
      lo = λ i l. laid.lower.is i l ∙ ap₂ min (holds.a_is i l) (holds.b_is i l);
      hi = λ i l. laid.upper.is i l ∙ ap₂ max (holds.a_is i l) (holds.b_is i l);
    }

    pub same_row : (free : List ℕ) → Filled (at limits) cells free → Same (row_in (at free) count cells lo hi cost) (row_of book)
    unfolding row_of
    same_row free f = record {
      intervals = record { cells = all; count = holds.counted; lo = same_intervals.lo; hi = same_intervals.hi };
      limit = λ j l. f.is j l ∙ holds.limit_is j (omega arith);
      profit = λ i l. laid.profit i l ∙ holds.profit_is i l;
    }
