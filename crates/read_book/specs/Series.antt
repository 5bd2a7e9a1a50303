-- Records of one kind read in turn into a list, the first fault ending the reading (document 01, "Refusals by number"). What holds after i
-- records, none of them refused, each entry standing in the list and nothing past them, is kept by one more record, and at the end it is the answer.
-- Assumes nothing.
use Rattle.std.specs.Prelude.{◌≡◌, refl, Result, Ok, Err, IsErr, Bool, true, false, not, List, ◌⊎◌, ℕ, ◌+◌, ◌<◌, set, T, eqb}
use Rattle.std.proofs.Common.{sym, ◌∙◌, ⊎_elim, arith, below_more, eq-eqb, T_not}
use Rattle.base_sums.specs.Each.{of_yes}
use Rattle.base_sums.specs.Filled.{FilledBy, filled_none, filled_more}
use Rattle.base_sums.specs.Vacant.{Vacant, vacant_more}
use Rattle.read_record.specs.declared.Refusal.{Refusal}
use Rattle.read_record.specs.declared.Record.{Record}

abbrev pub is_got : Result Record Refusal → Bool
is_got (Ok r) = true
is_got (Err refusal) = false

-- a reading that got nothing is refused
pub else_refused : {r : Result Record Refusal} → ((got : Record) → r ≡ Ok got → ⊥) → IsErr r
else_refused {r = Ok got} none = absurd (none got refl)
else_refused {r = Err refusal} none = refl

-- a variant of one tag is of no other
pub no_other : (k m n : ℕ) → T (not (eqb k m)) → T (not (eqb k n)) → (k ≡ m) ⊎ (k ≡ n) → ⊥
no_other k m n hm hn = ⊎_elim (λ e. T_not (eqb k m) hm (of_yes (eq-eqb k m e))) (λ e. T_not (eqb k n) hn (of_yes (eq-eqb k n e)))

-- ---- the readings

-- none of the first n readings is a refusal
abbrev pub AllGot : (ℕ → Result Record Refusal) → ℕ → Type 0
AllGot says n = (i : ℕ) → i < n → is_got (says i) ≡ true

-- a reading before the n-th is this refusal, and none before it is one
pub record Stopped (says : ℕ → Result Record Refusal) (n : ℕ) (refusal : Refusal) : Type 0 where
  pub at : ℕ
  pub within : at < n
  pub here : says at ≡ Err refusal
  pub before : AllGot says at

-- ---- the list

-- what is read in turn: each reading, how long the list is, what an entry holds before it is read, and what it should hold
pub record Series (A : Type 0) : Type 0 where
  pub says : ℕ → Result Record Refusal
  pub room : ℕ
  pub empty : A
  pub wants : ℕ → A

-- the first n entries are as they should be
abbrev pub AllMeant : {A : Type 0} → Series A → List A → ℕ → Type 0
AllMeant s l n = FilledBy s.empty s.wants n l

-- after n records
pub record SoFar {A : Type 0} (s : Series A) (l : List A) (n : ℕ) : Type 0 where
  pub got : AllGot s.says n
  pub filled : AllMeant s l n
  pub no_more : Vacant s.empty n s.room l

-- at the end: the list, or the refusal that the reading stopped at
abbrev pub InList : {A : Type 0} → Series A → ℕ → Result (List A) Refusal → Type 0
InList s n (Ok l) = SoFar s l n
InList s n (Err refusal) = Stopped s.says n refusal

module _ {A : Type 0} (s : Series A) where
  pub so_far_none : (l : List A) → Vacant s.empty 0 s.room l → SoFar s l 0
  so_far_none l e = record { got = λ i h. absurd (omega arith); filled = filled_none s.wants l; no_more = e }

  pub so_far_more :
      (l : List A) (n : ℕ) (v : A) → SoFar s l n → n < s.room → is_got (s.says n) ≡ true → v ≡ s.wants n → SoFar s (set l n v) (n + 1)
  so_far_more l n v p h e m =
      record {
        got = below_more _ n p.got e;
        filled = filled_more v p.filled (omega (arith, p.no_more.long)) m;
        no_more = vacant_more p.no_more v;
      }

  pub stopped_here :
      (l : List A) (n k : ℕ) (r : Result Record Refusal) (refusal : Refusal)
      → SoFar s l k → k < n → r ≡ s.says k → r ≡ Err refusal → Stopped s.says n refusal
  stopped_here l n k r refusal p h is e = record { at = k; within = h; here = sym is ∙ e; before = p.got }
