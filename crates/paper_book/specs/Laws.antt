-- When a refusal is given, as one law over the row's number (01, "Refusals by number": records are tested in file order, the first fault
-- found ends the reading, and within a record the lowest number wins). `reading` seeks the first faulty record and in it the first broken row,
-- and each search stops where nothing before it passed: so a refusal tells all of that, and all of that fixes the refusal. Assumes nothing.
use Rattle.std.specs.Prelude.{◌≡◌, true, false, List, ℕ, ◌≤◌, ◌<◌}
use Rattle.std.proofs.Common.{sym, subst₂, ◌∙◌, ⊎_elim, arith, ltb-true, ltb-false, lt-ltb, le-ltb}
use Rattle.base_sums.specs.Each.{before_first, first_passes, first_here, first_none, less_or_not, of_yes}
use Rattle.paper_book.specs.Book.{Book}
use Rattle.paper_book.specs.Refusals.{records, spans_in, broken, fault, faulty}
use Rattle.paper_book.specs.Reading.{done, refused, due, book_of, faulty_record, reading, refused_not_done}

-- record r breaks none of the rows below n
abbrev pub Unbroken : List ℕ → ℕ → ℕ → Type 0
Unbroken f r n = (m : ℕ) → m < n → broken f r m ≡ false

-- no record before record r breaks a row
abbrev pub Clean : List ℕ → ℕ → Type 0
Clean f r = (q : ℕ) → q < r → Unbroken f q 12

-- row n is broken at record p, and nothing earlier in file order, nor lower in that record, is
pub record Given (f : List ℕ) (n p : ℕ) : Type 0 where
  pub in_table : n < 12
  pub looked_at : p < due f
  pub here : broken f p n ≡ true
  pub lower : Unbroken f p n
  pub before : Clean f p

-- every span is looked at, present or missing (and the network, record 0), and every record that is present
pub span_looked_at : (f : List ℕ) (r : ℕ) → r ≤ spans_in f → r < due f
unfolding due
span_looked_at f r h = omega arith

pub present_looked_at : (f : List ℕ) (r : ℕ) → r < records f → r < due f
unfolding due
present_looked_at f r h = omega arith

-- ---- the two searches

-- a record that is not faulty breaks no row, and one that breaks no row is not faulty
pub unbroken : (f : List ℕ) (r : ℕ) → faulty f r ≡ false → Unbroken f r 12
unfolding fault
unbroken f r e m h = before_first 12 (broken f r) m (omega (arith, ltb-false (fault f r) 12 e))

faultless : (f : List ℕ) (r : ℕ) → Unbroken f r 12 → faulty f r ≡ false
unfolding fault
faultless f r none = le-ltb (fault f r) 12 (omega (arith, first_none 12 (broken f r) none))

clean_upto : (f : List ℕ) → Clean f (faulty_record f)
unfolding faulty_record
clean_upto f q h = unbroken f q (before_first (due f) (faulty f) q h)

-- ---- what the reading comes to

stopped : (f : List ℕ) → faulty_record f < due f → reading f ≡ refused (fault f (faulty_record f)) (faulty_record f)
unfolding reading
stopped f h = rw (lt-ltb (faulty_record f) (due f) h)

finished : (f : List ℕ) → due f ≤ faulty_record f → reading f ≡ done (book_of f)
unfolding reading
finished f h = rw (le-ltb (faulty_record f) (due f) h)

-- the first broken row of the first faulty record
found : (f : List ℕ) → faulty_record f < due f → Given f (fault f (faulty_record f)) (faulty_record f)
unfolding fault faulty_record
found f h =
    let q : ℕ = faulty_record f in
    let l : fault f q < 12 = ltb-true (fault f q) 12 (first_passes (due f) (faulty f) h) in
    record {
      in_table = l;
      looked_at = h;
      here = first_passes 12 (broken f q) l;
      lower = before_first 12 (broken f q);
      before = clean_upto f;
    }

-- the first faulty record gives the refusal
pub first_fault : (f : List ℕ) (r : ℕ) → r < due f → fault f r < 12 → Clean f r → reading f ≡ refused (fault f r) r
unfolding reading faulty_record
first_fault f r h l clean = rw (first_here (due f) (faulty f) r (omega arith) (λ q k. faultless f q (clean q k)) (λ _. lt-ltb (fault f r) 12 l), lt-ltb r (due f) h)

-- ---- the laws

pub refused_given : (f : List ℕ) (n p : ℕ) → reading f ≡ refused n p → Given f n p
refused_given f n p e = ⊎_elim given (λ h. absurd (refused_not_done (sym e ∙ finished f h))) (less_or_not (faulty_record f) (due f))
  where
    given : faulty_record f < due f → Given f n p
    given h =
        let number : fault f (faulty_record f) ≡ n = cc (stopped f h) in
        let place : faulty_record f ≡ p = cc (stopped f h) in
        subst₂ (Given f) number place (found f h)

pub given_refused : (f : List ℕ) (n p : ℕ) → Given f n p → reading f ≡ refused n p
unfolding fault
given_refused f n p g =
    let row : fault f p ≡ n = first_here 12 (broken f p) n (omega arith) g.lower (λ _. g.here) in
    first_fault f p g.looked_at (omega arith) g.before ∙ rw row

pub read_clean : (f : List ℕ) (book : Book) → reading f ≡ done book → (book ≡ book_of f) × Clean f (due f)
read_clean f book e = ⊎_elim (λ h. absurd (refused_not_done (sym (stopped f h) ∙ e))) clean (less_or_not (faulty_record f) (due f))
  where
    clean : due f ≤ faulty_record f → (book ≡ book_of f) × Clean f (due f)
    clean h = (cc (finished f h), λ r l. clean_upto f r (omega arith))

pub clean_read : (f : List ℕ) → Clean f (due f) → reading f ≡ done (book_of f)
unfolding faulty_record
clean_read f clean = finished f (omega (arith, first_none (due f) (faulty f) (λ q k. faultless f q (clean q k))))

-- a broken row anywhere among the records looked at: no book is read, whatever else the file holds
pub broken_unread : (f : List ℕ) (r n : ℕ) → r < due f → n < 12 → broken f r n ≡ true → (book : Book) → reading f ≡ done book → ⊥
broken_unread f r n h l e book d = of_yes (sym ((read_clean f book d).1 r h n l) ∙ e)
