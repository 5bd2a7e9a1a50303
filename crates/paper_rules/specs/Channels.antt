-- The channel rule (01, "What the planner hands back", line). Assumes nothing.
use Rattle.std.specs.Prelude.{Bool, not, ◌&&◌, ◌||◌, ℕ, min, ltb, eqb}
use Rattle.base_sums.specs.Each.{each, some}
use Rattle.base_sums.specs.Lowest.{lowest_free}
use Rattle.paper_book.specs.Book.{Book, count, end_a, end_b}
use Rattle.paper_rules.specs.Plans.{Plan, kept, channel, share}

-- the lower-numbered end
unfoldable pub lower_end : Book → ℕ → ℕ
lower_end book i = min (end_a book i) (end_b book i)

-- kept requests are taken by lower-numbered end, then by request number: j comes before i
unfoldable pub earlier : Book → ℕ → ℕ → Bool
earlier book j i = ltb (lower_end book j) (lower_end book i) || (eqb (lower_end book j) (lower_end book i) && ltb j i)

-- channel c is held by an earlier one that shares a span with i
unfoldable pub held_before : Book → Plan → ℕ → ℕ → Bool
held_before book plan i c = some (count book) (λ j. earlier book j i && (share book plan j i && eqb (channel plan j) c))

-- the channels are fixed by the kept set: each has the lowest one that is not held so
unfoldable pub by_rule : Book → Plan → Bool
by_rule book plan = each (count book) (λ i. not (kept plan i) || eqb (channel plan i) (lowest_free book.channels (held_before book plan i)))
