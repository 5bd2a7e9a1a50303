-- The loads along a line, by counting ends. How many begin and how many end at each node is counted once; then on the way from span to span those that begin
-- are added and those that end taken off, and what is left is the number that cross the span. Assumes nothing.
use Rattle.std.specs.Prelude.{List, ◌≡◌, refl, ℕ, ◌+◌, ◌-◌, ◌≤◌, ◌<◌, set, replicate, length, take, leb, ltb, eqb}
use Rattle.std.proofs.Common.{⊎_elim, sym, ap, ◌∙◌, arith, below_more, lt-ltb, le-ltb, le-leb, eq-eqb, ne_eqb, length-set, length-take-le, get_or-take}
use Rattle.std.proofs.lemmas.Bool.{lt-leb}
use Rattle.base_sums.specs.At.{zeros, Stored, store}
use Rattle.base_sums.specs.Between.{is_between}
use Rattle.base_sums.specs.Each.{less_or_not, same_or_not}
use Rattle.base_sums.specs.Sums.{Σ, bit, bit_le, Σ-ext, Σ-add, Σ-most, Σ-zero, same_one, same_none}
use Rattle.base_sums.specs.Turns.{Σ-more}
use Rattle.paper_book.specs.Columns.{at}
use Rattle.check_rules.specs.Spans.{on_span, WithinSpans}

-- the first `count` of a column of nodes, counted by node
pub record Tallied (count : ℕ) (nodes tally : List ℕ) : Type 0 where
  pub long : length tally ≡ 64
  pub is : (v : ℕ) → v < 64 → at tally v ≡ Σ count (λ i. bit (eqb (at nodes i) v))

module _ {nodes : List ℕ} where
  pub tallied_none : Tallied 0 nodes (replicate 64 0)
  unfolding Σ
  tallied_none = record { long = refl; is = λ v l. zeros 64 v }

  module _ {i : ℕ} {tally : List ℕ} (was : Tallied i nodes tally) where
    -- no count passes the number counted
    pub tally_upto : (v : ℕ) → v < 64 → at tally v ≤ i
    tally_upto v l = omega (arith, was.is v l, Σ-most i (λ j. bit (eqb (at nodes j) v)) 1 (λ j h. bit_le (eqb (at nodes j) v)))

    pub tallied_more : at nodes i < 64 → Tallied (i + 1) nodes (set tally (at nodes i) (at tally (at nodes i) + 1))
    tallied_more small = record { long = length-set tally (at nodes i) (at tally (at nodes i) + 1) ∙ was.long; is = is }
      where
        counted : Stored 0 tally (at nodes i) (at tally (at nodes i) + 1) (set tally (at nodes i) (at tally (at nodes i) + 1))
        counted = store 0 tally (at nodes i) (at tally (at nodes i) + 1) (omega (arith, was.long))

        is : (v : ℕ) → v < 64 → at (set tally (at nodes i) (at tally (at nodes i) + 1)) v ≡ Σ (i + 1) (λ j. bit (eqb (at nodes j) v))
        is v l = ⊎_elim here elsewhere (same_or_not v (at nodes i))
          where
            here : v ≡ at nodes i → at (set tally (at nodes i) (at tally (at nodes i) + 1)) v ≡ Σ (i + 1) (λ j. bit (eqb (at nodes j) v))
            here q =
                rw (counted.here v q, q)
                (omega (arith, was.is (at nodes i) small, Σ-more i (λ j. bit (eqb (at nodes j) (at nodes i))), same_one (at nodes i) (at nodes i) refl))

            elsewhere : (v ≡ at nodes i → ⊥) → at (set tally (at nodes i) (at tally (at nodes i) + 1)) v ≡ Σ (i + 1) (λ j. bit (eqb (at nodes j) v))
            elsewhere ne =
                rw (counted.elsewhere v ne) (omega (arith, was.is v l, Σ-more i (λ j. bit (eqb (at nodes j) v)), same_none (at nodes i) v (λ q. ne (sym q))))

-- the first part of a column, lent, is counted as the column is
pub tallied_part :
    {count : ℕ} {nodes tally : List ℕ} → count ≤ length nodes → Tallied (length (take count nodes)) (take count nodes) tally → Tallied count nodes tally
tallied_part {count} {nodes} l t = record {
  long = t.long;
  is = λ v h. (rw (length-take-le count nodes l) at t.is v h) ∙ Σ-ext count _ _ (λ i k. ap (λ (n : ℕ). bit (eqb n v)) (get_or-take count nodes i 0 k));
}

-- ---- from span to span

-- what is before node s or at it is up to it, and before the next node
before_at : (x s : ℕ) → bit (ltb x s) + bit (eqb x s) ≡ bit (leb x s)
before_at x s = ⊎_elim (λ (h : s < x). rw (le-ltb x s (omega arith), ne_eqb x s (λ q. omega arith), lt-leb x s h)) upto (less_or_not s x)
  where
    upto : x ≤ s → bit (ltb x s) + bit (eqb x s) ≡ bit (leb x s)
    upto h =
        ⊎_elim (λ (g : x < s). rw (lt-ltb x s g, ne_eqb x s (λ q. omega arith), le-leb x s h))
        (λ (g : s ≤ x). rw (le-ltb x s g, eq-eqb x s (omega arith), le-leb x s h)) (less_or_not x s)

before_next : (x s : ℕ) → bit (leb x s) ≡ bit (ltb x (s + 1))
before_next x s =
    ⊎_elim (λ (h : s < x). rw (lt-leb x s h, le-ltb x (s + 1) (omega arith))) (λ (h : x ≤ s). rw (le-leb x s h, lt-ltb x (s + 1) (omega arith)))
    (less_or_not s x)

-- what begins by node s crosses the span after it, or has ended
crosses_or_ended : (x y s : ℕ) → x ≤ y → bit (is_between x y s) + bit (leb y s) ≡ bit (leb x s)
crosses_or_ended x y s up = ⊎_elim (λ (h : s < x). rw (lt-leb x s h, lt-leb y s (omega arith))) begun (less_or_not s x)
  where
    begun : x ≤ s → bit (is_between x y s) + bit (leb y s) ≡ bit (leb x s)
    begun h =
        ⊎_elim (λ (g : s < y). rw (le-leb x s h, lt-ltb s y g, lt-leb y s g)) (λ (g : y ≤ s). rw (le-leb x s h, le-ltb s y g, le-leb y s g))
        (less_or_not s y)

-- those of a column that are before node s, and up to it
abbrev before : ℕ → List ℕ → ℕ → ℕ
before count nodes s = Σ count (λ i. bit (ltb (at nodes i) s))

abbrev up_to : ℕ → List ℕ → ℕ → ℕ
up_to count nodes s = Σ count (λ i. bit (leb (at nodes i) s))

tally_steps : {count s : ℕ} {nodes tally : List ℕ} → Tallied count nodes tally → s < 64 → before count nodes s + at tally s ≡ up_to count nodes s
tally_steps {count} {s} {nodes} t small =
    rw (t.is s small)
    (sym (Σ-add count (λ i. bit (ltb (at nodes i) s)) (λ i. bit (eqb (at nodes i) s))) ∙ Σ-ext count _ _ (λ i l. before_at (at nodes i) s))

-- the spans below s are within their limits, and `load` is how many begin before node s less how many end before it
pub record Loaded (limits : List ℕ) (count : ℕ) (lo hi : List ℕ) (s load : ℕ) : Type 0 where
  pub load_is : load + Σ count (λ i. bit (ltb (at hi i) s)) ≡ Σ count (λ i. bit (ltb (at lo i) s))
  pub few : load ≤ count
  pub within : WithinSpans s limits count lo hi

pub loaded_none : (limits : List ℕ) (count : ℕ) (lo hi : List ℕ) → Loaded limits count lo hi 0 0
loaded_none limits count lo hi = record {
  load_is = omega (arith, none lo, none hi);
  few = omega arith;
  within = record { on = λ s l. absurd (omega arith) };
}
  where
    none : (nodes : List ℕ) → before count nodes 0 ≡ 0
    none nodes = Σ-zero count _ (λ i l. rw (le-ltb (at nodes i) 0 (omega arith)))

module _
    {count : ℕ} {limits lo hi begins ends : List ℕ} {s load : ℕ} (up : (i : ℕ) → i < count → at lo i ≤ at hi i) (begin : Tallied count lo begins)
    (end : Tallied count hi ends) (small : s < 64) (was : Loaded limits count lo hi s load)
  where
    crossed : Σ count (λ i. bit (on_span lo hi s i)) + up_to count hi s ≡ up_to count lo s
    crossed =
        sym (Σ-add count (λ i. bit (on_span lo hi s i)) (λ i. bit (leb (at hi i) s)))
        ∙ Σ-ext count _ _ (λ i l. crosses_or_ended (at lo i) (at hi i) s (up i l))

    later : (nodes : List ℕ) → up_to count nodes s ≡ before count nodes (s + 1)
    later nodes = Σ-ext count _ _ (λ i l. before_next (at nodes i) s)

    -- those that end at s are among those that came so far, and the others cross the span after s
    pub load_turns : Σ count (λ i. bit (on_span lo hi s i)) + at ends s ≡ load + at begins s
    load_turns = omega (arith, was.load_is, tally_steps begin small, tally_steps end small, crossed)

    pub load_crosses : load + at begins s - at ends s ≡ Σ count (λ i. bit (on_span lo hi s i))
    load_crosses = omega (arith, load_turns)

    pub loaded_more : load + at begins s - at ends s ≤ at limits s → Loaded limits count lo hi (s + 1) (load + at begins s - at ends s)
    loaded_more upto = record {
      load_is = omega (arith, load_crosses, crossed, later lo, later hi);
      few = omega (arith, load_crosses, Σ-most count (λ i. bit (on_span lo hi s i)) 1 (λ i l. bit_le (on_span lo hi s i)));
      within = record {
        on = below_more (λ (t : ℕ). Σ count (λ i. bit (on_span lo hi t i)) ≤ at limits t) s was.within.on (omega (arith, load_crosses));
      };
    }

    -- more than the limit
    pub load_above : {spans : ℕ} → s < spans → at limits s < load + at begins s - at ends s → WithinSpans spans limits count lo hi → ⊥
    load_above l more within = omega (arith, load_crosses, within.on s l)
