-- Ways and the spans that they cross (01, "Routes and a plan that obeys the rules"). Assumes nothing.
use Rattle.std.specs.Prelude.{Bool, ◌&&◌, ◌||◌, cond, ℕ, leb, ltb, eqb}
use Rattle.paper_book.specs.Book.{Book, is_ring, end_a, end_b}

-- The spans from node u up to node v: u, u + 1 and so on. Where v does not come after u they pass from the last node to node 0.
-- A connection that ends at node v does not cross span v.
unfoldable pub upward : ℕ → ℕ → ℕ → Bool
upward u v s = cond (ltb u v) (leb u s && ltb s v) (leb u s || ltb s v)

-- way 1 of request i goes up from a to b, way 2 is the other way round, which is up from b to a
unfoldable pub crosses : Book → ℕ → ℕ → ℕ → Bool
crosses book i way s = (eqb way 1 && upward (end_a book i) (end_b book i) s) || (eqb way 2 && upward (end_b book i) (end_a book i) s)

-- on a line way 1 is right exactly when a < b, and way 2 exactly when a > b; on a ring both exist
unfoldable pub way_exists : Book → ℕ → ℕ → Bool
way_exists book i way =
    (eqb way 1 && (is_ring book || ltb (end_a book i) (end_b book i))) || (eqb way 2 && (is_ring book || ltb (end_b book i) (end_a book i)))

-- on a line, the way that exists from node a to node b
unfoldable pub way_from : ℕ → ℕ → ℕ
way_from a b = cond (ltb a b) 1 2

-- on a line, the way that exists for request i, and the spans which that way crosses
unfoldable pub line_way : Book → ℕ → ℕ
line_way book i = way_from (end_a book i) (end_b book i)

unfoldable pub crossed : Book → ℕ → ℕ → Bool
crossed book i s = crosses book i (line_way book i) s
