-- Rings (01, "What the planner hands back", ring): the line that a cut leaves, and the choice of the cut. Assumes nothing.
use Rattle.std.specs.Prelude.{cond, map, ℕ, ◌+◌, ◌-◌, leb}
use Rattle.base_sums.specs.Each.{each, first}
use Rattle.base_sums.specs.Table.{table}
use Rattle.paper_book.specs.Book.{Book, Request, is_ring, spans, limit}
use Rattle.paper_rules.specs.Best.{best}

-- how many spans there are from node u up to node v, passing from node n − 1 to 0 where v is the lower; u = n is node 0
unfoldable pub steps : ℕ → ℕ → ℕ → ℕ
steps n u v = cond (leb u v) (v - u) (v + n - u)

-- the span that stands at place t of the line which cut j leaves: the line runs from node j + 1 round to node j
unfoldable pub span_at : ℕ → ℕ → ℕ → ℕ
span_at n j t = cond (leb n (j + 1 + t)) (j + 1 + t - n) (j + 1 + t)

unfoldable pub moved : ℕ → ℕ → Request → Request
moved n j q = record { a = steps n (j + 1) q.a; b = steps n (j + 1) q.b; profit = q.profit }

-- The line which cut j leaves of a ring: nodes and spans counted from node j + 1. On it a request has one way, the one that avoids j,
-- and that way has the same number as on the ring.
unfoldable pub cut_line : Book → ℕ → Book
cut_line book j =
    record {
      shape = 1;
      nodes = book.nodes;
      channels = book.channels;
      limits = table (book.nodes - 1) (λ t. limit book (span_at book.nodes j t));
      requests = map (moved book.nodes j) book.requests;
    }

-- the best earnings of the line that cut j leaves
unfoldable pub cut_best : Book → ℕ → ℕ
cut_best book j = best (cut_line book j)

-- the lowest-numbered span whose line has the greatest best earnings
unfoldable pub cut : Book → ℕ
cut book = first (spans book) (λ j. each (spans book) (λ i. leb (cut_best book i) (cut_best book j)))

-- the line on which a plan has to be best: a line itself, and of a ring what the cut leaves
unfoldable pub plan_line : Book → Book
plan_line book = cond (is_ring book) (cut_line book (cut book)) book

-- the cut that is handed back: 65,535 for a line
unfoldable pub cut_shown : Book → ℕ
cut_shown book = cond (is_ring book) (cut book) 65535
