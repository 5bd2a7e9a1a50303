-- An accepted order book (01, "What the desk plans"). Assumes nothing.
use Rattle.std.specs.Prelude.{Bool, cond, List, ℕ, ◌-◌, length, get_or, eqb}

-- two different nodes and a profit
pub record Request : Type 0 where
  pub a : ℕ
  pub b : ℕ
  pub profit : ℕ

-- shape 1 is a line, 2 a ring; one limit a span; the requests in number order
pub record Book : Type 0 where
  pub shape : ℕ
  pub nodes : ℕ
  pub channels : ℕ
  pub limits : List ℕ
  pub requests : List Request

abbrev pub is_line : Book → Bool
is_line book = eqb book.shape 1

abbrev pub is_ring : Book → Bool
is_ring book = eqb book.shape 2

-- a line of n nodes has n − 1 spans, a ring n
unfoldable pub spans_of : ℕ → ℕ → ℕ
spans_of shape nodes = cond (eqb shape 2) nodes (nodes - 1)

unfoldable pub spans : Book → ℕ
spans book = spans_of book.shape book.nodes

-- the limit of span s
unfoldable pub limit : Book → ℕ → ℕ
limit book s = get_or book.limits s 0

-- how many requests there are, and the fields of request i
unfoldable pub count : Book → ℕ
count book = length book.requests

abbrev pub request : Book → ℕ → Request
request book i = get_or book.requests i (record { a = 0; b = 0; profit = 0 })

unfoldable pub end_a : Book → ℕ → ℕ
end_a book i = (request book i).a

unfoldable pub end_b : Book → ℕ → ℕ
end_b book i = (request book i).b

unfoldable pub profit : Book → ℕ → ℕ
profit book i = (request book i).profit
