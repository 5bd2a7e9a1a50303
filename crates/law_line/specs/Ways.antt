-- On a line a request has one way, and it crosses the spans between the two ends, which are the cells that the request is over in the row.
-- Way 1 goes up from a and way 2 up from b, and the one that exists is the one that begins at the lower end. Assumes nothing.
use Rattle.std.specs.Prelude.{◌≡◌, Bool, true, false, cond, ltb, eqb}
use Rattle.std.proofs.Math.Bool.{and-true, and-false, or-false}
use Rattle.std.proofs.Math.Logic.{⊎_elim}
use Prim.Native.Nat.{ℕ, ◌-◌, ◌≤◌, ◌<◌}
use Rattle.std.proofs.Common.{arith, lt-ltb, le-ltb}
use Rattle.base_sums.specs.Between.{is_between}
use Rattle.base_sums.specs.Each.{less_or_not}
use Rattle.paper_book.specs.Book.{Book, is_ring, spans_of, spans, count, end_a, end_b}
use Rattle.paper_rules.specs.Ways.{upward, crosses, way_exists, way_from, line_way, crossed}
use Rattle.law_row.specs.Row.{Proper, covers}
use Rattle.law_line.specs.RowOf.{row_of}
use Rattle.law_line.specs.Line.{Line}

-- a way is never 0, so the entry of a kept request is not
pub way_from_lem : (a b : ℕ) → 1 ≤ way_from a b
unfolding way_from
way_from_lem a b = least (ltb a b)
  where
    least : (t : Bool) → 1 ≤ cond {A = ℕ} t 1 2
    least true = omega arith
    least false = omega arith

module _ {book : Book} (on : Line book) where
  pub no_ring : is_ring book ≡ false
  no_ring = rw on.line

  pub line_spans : spans book ≡ book.nodes - 1
  unfolding spans spans_of
  line_spans = rw on.line

  -- where a is not the lower end, b is
  pub b_lower : (i : ℕ) → i < count book → end_b book i ≤ end_a book i → end_b book i < end_a book i
  b_lower i l h = omega (arith, on.sound.ends_differ i l)

  pub line_way_lem : (i w : ℕ) → i < count book → way_exists book i w ≡ eqb w (line_way book i)
  unfolding way_exists way_from line_way
  line_way_lem i w l = ⊎_elim up down (less_or_not a b)
    where
      a : ℕ
      a = end_a book i

      b : ℕ
      b = end_b book i

      up : a < b → way_exists book i w ≡ eqb w (line_way book i)
      up h = simp (no_ring, lt-ltb a b h, le-ltb b a (omega arith), and-true, and-false, or-false)

      down : b ≤ a → way_exists book i w ≡ eqb w (line_way book i)
      down h = simp (no_ring, le-ltb a b h, lt-ltb b a (b_lower i l h), and-true, and-false)

  pub crossed_covers : (i s : ℕ) → i < count book → crossed book i s ≡ covers (row_of book) i s
  unfolding crossed crosses way_from line_way upward row_of covers
  crossed_covers i s l = ⊎_elim up down (less_or_not (end_a book i) (end_b book i))
    where
      -- the spans from u up to v
      same_ends : (u v u' v' : ℕ) → u ≡ u' → v ≡ v' → is_between u v s ≡ is_between u' v' s
      same_ends u v u' v' p q = rw (p, q)

      up : end_a book i < end_b book i → crossed book i s ≡ covers (row_of book) i s
      up h = rw (lt-ltb _ _ h, or-false) (same_ends _ _ _ _ (omega arith) (omega arith))

      down : end_b book i ≤ end_a book i → crossed book i s ≡ covers (row_of book) i s
      down h = rw (le-ltb _ _ h, lt-ltb _ _ (b_lower i l h)) (same_ends _ _ _ _ (omega arith) (omega arith))

  -- every candidate is a real interval of the row
  pub proper : Proper (row_of book) (row_of book).count
  unfolding row_of
  proper = record {
    some_cell = λ i l. omega (arith, on.sound.ends_differ i l);
    in_row = λ i l. omega (arith, line_spans, on.sound.a_node i l, on.sound.b_node i l);
  }
