-- A way crosses a span of the ring, the cut apart, exactly when it crosses that span's place on the line which the cut leaves, and it never crosses the cut.
-- Going up the ring from u to v without passing the cut is going up the line between their places. Assumes nothing.
use Rattle.std.specs.Prelude.{◌≡◌, refl, true, false, ◌&&◌, ◌||◌, ◌⊎◌, leb, ltb}
use Rattle.std.proofs.Common.{sym, ◌∙◌, arith, lt-ltb, le-ltb, eqb-true}
use Rattle.std.proofs.Math.Path.{ap}
use Rattle.std.proofs.Math.Bool.{cond, or-false}
use Rattle.std.proofs.Math.Logic.{inl, inr, ⊎_elim}
use Prim.Native.Nat.{ℕ, ◌+◌, ◌≤◌, ◌<◌}
use Rattle.base_sums.specs.Each.{less_or_not, fails, same_test}
use Rattle.paper_book.specs.Means.{less, at_most, and, or}
use Rattle.paper_book.specs.Book.{Book, spans, count, end_a, end_b}
use Rattle.paper_rules.specs.Ways.{upward, crosses, way_exists, way_from, line_way}
use Rattle.paper_rules.specs.Cuts.{steps, span_at, cut_line}
use Rattle.law_line.specs.Ways.{b_lower, line_way_lem}
use Rattle.law_ring.specs.Ring.{Ring}
use Rattle.law_ring.specs.Turn.{StepsTo, steps_lead, place_below, span_below, place_of_span}
use Rattle.law_ring.specs.CutLine.{inside, cut_count, cut_a, cut_b, cut_line_lem}

-- ---- what `upward` means

upward_ahead : (u v s : ℕ) → u < v → upward u v s ≡ (leb u s && ltb s v)
unfolding upward
upward_ahead u v s l = ap (λ t. cond t (leb u s && ltb s v) (leb u s || ltb s v)) (lt-ltb u v l)

upward_round : (u v s : ℕ) → v ≤ u → upward u v s ≡ (leb u s || ltb s v)
unfolding upward
upward_round u v s l = ap (λ t. cond t (leb u s && ltb s v) (leb u s || ltb s v)) (le-ltb u v l)

abbrev Up : ℕ → ℕ → ℕ → Type 0
Up u v s = ((u < v) × (u ≤ s) × (s < v)) ⊎ ((v ≤ u) × ((u ≤ s) ⊎ (s < v)))

upward_is : (u v s : ℕ) → upward u v s ≡ true → Up u v s
upward_is u v s e = ⊎_elim ahead round (less_or_not u v)
  where
    ahead : u < v → Up u v s
    ahead l = let w = (and at_most less).0 (sym (upward_ahead u v s l) ∙ e) in inl (l, w.0, w.1)

    round : v ≤ u → Up u v s
    round l = inr (l, (or at_most less).0 (sym (upward_round u v s l) ∙ e))

is_upward : (u v s : ℕ) → Up u v s → upward u v s ≡ true
is_upward u v s (inl w) = upward_ahead u v s w.0 ∙ (and at_most less).1 (w.1, w.2)
is_upward u v s (inr w) = upward_round u v s w.0 ∙ (or at_most less).1 w.1

-- ---- going up the ring and up the line, by places p, q and r of u, v and s

module _ (n j u v s p q r : ℕ) (cut : j < n) (hu : u < n) (hv : v < n) (hs : s < n)
    (pu : StepsTo n (j + 1) u p) (pv : StepsTo n (j + 1) v q) (ps : StepsTo n (j + 1) s r) (ahead : p < q)
  where
    turn_in : Up u v s → (p ≤ r) × (r < q)
    turn_in up = go pu.case pv.case ps.case up
      where
        go : ((j + 1 ≤ u) × (p + (j + 1) ≡ u)) ⊎ ((u < j + 1) × (p + (j + 1) ≡ u + n))
            → ((j + 1 ≤ v) × (q + (j + 1) ≡ v)) ⊎ ((v < j + 1) × (q + (j + 1) ≡ v + n))
            → ((j + 1 ≤ s) × (r + (j + 1) ≡ s)) ⊎ ((s < j + 1) × (r + (j + 1) ≡ s + n))
            → Up u v s → (p ≤ r) × (r < q)
        go (inl x) (inl y) (inl z) (inl w) = omega arith
        go (inl x) (inl y) (inl z) (inr w) = absurd (omega arith)
        go (inl x) (inl y) (inr z) (inl w) = omega arith
        go (inl x) (inl y) (inr z) (inr w) = absurd (omega arith)
        go (inl x) (inr y) (inl z) (inl w) = absurd (omega arith)
        go (inl x) (inr y) (inl z) (inr w) = ⊎_elim (λ l. omega arith) (λ l. absurd (omega arith)) w.1
        go (inl x) (inr y) (inr z) (inl w) = absurd (omega arith)
        go (inl x) (inr y) (inr z) (inr w) = (omega arith, ⊎_elim (λ l. absurd (omega arith)) (λ l. omega arith) w.1)
        go (inr x) (inl y) (inl z) up = absurd (omega arith)
        go (inr x) (inl y) (inr z) up = absurd (omega arith)
        go (inr x) (inr y) (inl z) (inl w) = absurd (omega arith)
        go (inr x) (inr y) (inl z) (inr w) = absurd (omega arith)
        go (inr x) (inr y) (inr z) (inl w) = omega arith
        go (inr x) (inr y) (inr z) (inr w) = absurd (omega arith)

    -- and back again
    turn_out : p ≤ r → r < q → Up u v s
    turn_out f l = ⊎_elim (λ (h : u < v). inl (h, (between h).0, (between h).1)) (λ (h : v ≤ u). inr (h, ⊎_elim (λ (k : s < u). inr (low h k)) (λ (k : u ≤ s). inl k) (less_or_not s u))) (less_or_not u v)
      where
        between : u < v → (u ≤ s) × (s < v)
        between h = ⊎_elim (λ x. ⊎_elim (λ y. ⊎_elim (λ z. omega arith) (λ z. omega arith) ps.case) (λ y. absurd (omega arith)) pv.case) (λ x. ⊎_elim (λ y. absurd (omega arith)) (λ y. ⊎_elim (λ z. omega arith) (λ z. omega arith) ps.case) pv.case) pu.case

        low : v ≤ u → s < u → s < v
        low h k = ⊎_elim (λ x. ⊎_elim (λ y. absurd (omega arith)) (λ y. ⊎_elim (λ z. omega arith) (λ z. omega arith) ps.case) pv.case) (λ x. absurd (⊎_elim (λ y. omega arith) (λ y. omega arith) pv.case)) pu.case

-- ---- ways

module _ (n j u v : ℕ) (cut : j < n) (hu : u < n) (hv : v < n) (ahead : steps n (j + 1) u < steps n (j + 1) v) where
  placed : (x : ℕ) → StepsTo n (j + 1) x (steps n (j + 1) x)
  placed x = steps_lead n (j + 1) x (omega arith)

  up_the_line : (t : ℕ) → t + 1 < n → upward u v (span_at n j t) ≡ upward (steps n (j + 1) u) (steps n (j + 1) v) t
  up_the_line t h =
      same_test
      (λ e. let w = turn_in n j u v (span_at n j t) (steps n (j + 1) u) (steps n (j + 1) v) (steps n (j + 1) (span_at n j t)) cut hu hv (span_below n j cut t h) (placed u) (placed v) (placed (span_at n j t)) ahead (upward_is u v (span_at n j t) e) in is_upward _ _ t (inl (ahead, omega (arith, w.0, place_of_span n j cut t h), omega (arith, w.1, place_of_span n j cut t h))))
      (λ e. is_upward u v (span_at n j t) (back (upward_is _ _ t e)))
    where
      back : Up (steps n (j + 1) u) (steps n (j + 1) v) t → Up u v (span_at n j t)
      back (inl w) = turn_out n j u v (span_at n j t) (steps n (j + 1) u) (steps n (j + 1) v) (steps n (j + 1) (span_at n j t)) cut hu hv (span_below n j cut t h) (placed u) (placed v) (placed (span_at n j t)) ahead (omega (arith, place_of_span n j cut t h)) (omega (arith, place_of_span n j cut t h))
      back (inr w) = absurd (omega arith)

  not_over_the_cut : upward u v j ≡ false
  not_over_the_cut =
      fails
      (λ e. let w = turn_in n j u v j (steps n (j + 1) u) (steps n (j + 1) v) (steps n (j + 1) j) cut hu hv cut (placed u) (placed v) (placed j) ahead (upward_is u v j e) in ⊎_elim (λ x. omega arith) (λ x. omega (arith, w, place_below n j cut v hv)) (placed j).case)

-- way 1 goes up from a to b, way 2 up from b to a
crosses_1 : (book : Book) (i s : ℕ) → crosses book i 1 s ≡ upward (end_a book i) (end_b book i) s
unfolding crosses
crosses_1 book i s = or-false (upward (end_a book i) (end_b book i) s)

crosses_2 : (book : Book) (i s : ℕ) → crosses book i 2 s ≡ upward (end_b book i) (end_a book i) s
unfolding crosses
crosses_2 book i s = refl

module _ {book : Book} (on : Ring book) (j : ℕ) (cut : j < spans book) (i w : ℕ) (below : i < count book) (exists : way_exists (cut_line book j) i w ≡ true) where
  -- the way that exists on the line goes up from the end that comes first on it
  which : ((w ≡ 1) × (end_a (cut_line book j) i < end_b (cut_line book j) i)) ⊎ ((w ≡ 2) × (end_b (cut_line book j) i < end_a (cut_line book j) i))
  unfolding way_from line_way
  which = ⊎_elim (λ (l : a' < b'). inl (is ∙ ap (λ t. cond t 1 2) (lt-ltb a' b' l), l)) (λ (l : b' ≤ a'). inr (is ∙ ap (λ t. cond t 1 2) (le-ltb a' b' l), b_lower (cut_line_lem on j cut) i known l)) (less_or_not a' b')
    where
      a' : ℕ
      a' = end_a (cut_line book j) i

      b' : ℕ
      b' = end_b (cut_line book j) i

      known : i < count (cut_line book j)
      known = omega (arith, cut_count on j)

      is : w ≡ line_way (cut_line book j) i
      is = eqb-true _ _ (sym (line_way_lem (cut_line_lem on j cut) i w known) ∙ exists)

  pub crosses_place : (t : ℕ) → t + 1 < book.nodes → crosses book i w (span_at book.nodes j t) ≡ crosses (cut_line book j) i w t
  crosses_place t h = ⊎_elim one two which
    where
      one : (w ≡ 1) × (end_a (cut_line book j) i < end_b (cut_line book j) i) → crosses book i w (span_at book.nodes j t) ≡ crosses (cut_line book j) i w t
      one x = rw (x.0, crosses_1 book i (span_at book.nodes j t), crosses_1 (cut_line book j) i t, cut_a on j i below, cut_b on j i below) (up_the_line book.nodes j (end_a book i) (end_b book i) (inside on j cut) (on.sound.a_node i below) (on.sound.b_node i below) (rw (cut_a on j i below, cut_b on j i below) at x.1) t h)

      two : (w ≡ 2) × (end_b (cut_line book j) i < end_a (cut_line book j) i) → crosses book i w (span_at book.nodes j t) ≡ crosses (cut_line book j) i w t
      two x = rw (x.0, crosses_2 book i (span_at book.nodes j t), crosses_2 (cut_line book j) i t, cut_a on j i below, cut_b on j i below) (up_the_line book.nodes j (end_b book i) (end_a book i) (inside on j cut) (on.sound.b_node i below) (on.sound.a_node i below) (rw (cut_a on j i below, cut_b on j i below) at x.1) t h)

  pub not_across_cut : crosses book i w j ≡ false
  not_across_cut =
      ⊎_elim
      (λ x. rw (x.0, crosses_1 book i j) (not_over_the_cut book.nodes j (end_a book i) (end_b book i) (inside on j cut) (on.sound.a_node i below) (on.sound.b_node i below) (rw (cut_a on j i below, cut_b on j i below) at x.1)))
      (λ x. rw (x.0, crosses_2 book i j) (not_over_the_cut book.nodes j (end_b book i) (end_a book i) (inside on j cut) (on.sound.b_node i below) (on.sound.a_node i below) (rw (cut_a on j i below, cut_b on j i below) at x.1)))
      which
