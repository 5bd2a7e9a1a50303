-- Every plan that obeys the rules can be printed: its entries are 0 or of way 1 or 2 and a channel of at most 96, and the ends of an accepted
-- book's requests are nodes. Assumes nothing.
use Rattle.std.specs.Prelude.{Bool, true, ◌&&◌, ◌||◌, List, ◌≡◌, ℕ, ◌+◌, ◌*◌, ◌≤◌, ◌<◌, ltb, eqb}
use Rattle.std.proofs.Common.{⊎_elim, arith, eqb-true}
use Rattle.base_sums.specs.Each.{decided, either, left_of}
use Rattle.paper_book.specs.Book as Books
use Rattle.paper_book.specs.Book.{Book, is_ring, end_a, end_b}
use Rattle.paper_book.specs.Sound.{Sound}
use Rattle.paper_book.specs.Columns.{at, Holds, few, a_below, b_below}
use Rattle.paper_rules.specs.Ways.{way_exists}
use Rattle.paper_rules.specs.Plans.{Plan, kept, way, channel, obeys}
use Rattle.law_line.specs.Entries.{not_kept_zero}
use Rattle.law_line.specs.Obeys.{Fair, obeys_fair}
use Rattle.page_plan.specs.Promise.{Printable}

one_or_two : (w : ℕ) (s t : Bool) → ((eqb w 1 && s) || (eqb w 2 && t)) ≡ true → w ≤ 2
one_or_two w s t e =
    ⊎_elim (λ p. omega (arith, eqb-true w 1 (left_of (eqb w 1) s p))) (λ p. omega (arith, eqb-true w 2 (left_of (eqb w 2) t p)))
    (either (eqb w 1 && s) (eqb w 2 && t) e)

two_ways : (book : Book) (i w : ℕ) → way_exists book i w ≡ true → w ≤ 2
unfolding way_exists
two_ways book i w e = one_or_two w (is_ring book || ltb (end_a book i) (end_b book i)) (is_ring book || ltb (end_b book i) (end_a book i)) e

entry_small : (book : Book) (plan : Plan) (i : ℕ) → Sound book → Fair book plan → i < Books.count book → plan i ≤ 2 * 256 + 96
unfolding kept way channel
entry_small book plan i sound fair h =
    ⊎_elim (λ k. omega (arith, two_ways book i (way plan i) (fair.has_way i h k), fair.channel_upto i h k, sound.channels_upto))
    (λ k. omega (arith, not_kept_zero plan i k))
    (decided (kept plan i))

pub fair_printable :
    {book : Book} {count : ℕ} {limits a b profits entries : List ℕ}
    → Sound book → Holds book count limits a b profits → obeys book (at entries) ≡ true → Printable count a b entries
fair_printable {book} {entries} sound holds e =
    record {
      a_in = a_below sound holds;
      b_in = b_below sound holds;
      entries_in = record { few = few sound holds; upto = λ i h. entry_small book (at entries) i sound (obeys_fair book (at entries) e) (omega (arith, holds.counted)) };
    }
