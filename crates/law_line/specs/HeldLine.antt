-- The columns hold an accepted line's book. Such columns keep every number within the bounds of 01. Assumes nothing.
use Rattle.std.specs.Prelude.{◌≡◌, List, ℕ, ◌-◌, ◌≤◌, ◌<◌}
use Rattle.std.proofs.Common.{arith}
use Rattle.base_sums.specs.At.{NumbersUpto}
use Rattle.paper_book.specs.Book as Books
use Rattle.paper_book.specs.Book.{Book}
use Rattle.paper_book.specs.Columns as Columns
use Rattle.paper_book.specs.Columns.{at, Holds, a_node, b_node, profit_upto}
use Rattle.law_line.specs.Line.{Line}
use Rattle.law_line.specs.Ways.{line_spans}

pub record HeldLine (book : Book) (spans count : ℕ) (limits a b profits : List ℕ) : Type 0 where
  pub line : Line book
  pub spans_is : spans ≡ Books.spans book
  pub holds : Holds book count limits a b profits

-- a line has a span less than nodes
pub line_held :
    {book : Book} {nodes count : ℕ} {limits a b profits : List ℕ} → Line book → nodes ≡ book.nodes → Holds book count limits a b profits
    → HeldLine book (nodes - 1) count limits a b profits
line_held on nodes_is holds = record { line = on; spans_is = omega (arith, nodes_is, line_spans on); holds = holds }

module _ {book : Book} {spans count : ℕ} {limits a b profits : List ℕ} (h : HeldLine book spans count limits a b profits) where
  pub few_spans : spans ≤ 63
  few_spans = omega (arith, h.spans_is, line_spans h.line, h.line.sound.nodes_upto)

  pub few : count ≤ 256
  few = Columns.few h.line.sound h.holds

  -- both ends are nodes, and the spans lie between nodes 0 and `spans`
  pub a_in : (i : ℕ) → i < count → at a i ≤ spans
  a_in i l = omega (arith, a_node h.line.sound h.holds i l, h.spans_is, line_spans h.line)

  pub b_in : (i : ℕ) → i < count → at b i ≤ spans
  b_in i l = omega (arith, b_node h.line.sound h.holds i l, h.spans_is, line_spans h.line)

  pub ends_differ : (i : ℕ) → i < count → at a i ≡ at b i → ⊥
  ends_differ = Columns.ends_differ h.line.sound h.holds

  pub profits_in : NumbersUpto 1000000 count profits
  profits_in = record { few = few; upto = profit_upto h.line.sound h.holds }

  pub limit_in : (s : ℕ) → s < spans → at limits s ≤ 96
  limit_in s l =
      omega (
        arith,
        h.holds.limit_is s (omega (arith, h.spans_is)),
        h.line.sound.limit_upto s (omega (arith, h.spans_is)),
        h.line.sound.channels_upto,
      )
