-- What a test means: `t ≡ true` exactly when a fact about numbers holds. A test put together by "and", "or" and "not" means its parts' facts
-- put together alike, so that the law of a row is built as the row is. Assumes nothing.
use Rattle.std.specs.Prelude.{◌≡◌, Bool, true, false, not, ◌&&◌, ◌||◌, ◌↔◌, ◌⊎◌, ℕ, ◌≤◌, ◌<◌, ltb, leb, eqb}
use Rattle.std.proofs.Common.{sym, ◌∙◌, inl, inr, ⊎_elim, ltb-true, ltb-false, leb-true, eqb-true, lt-ltb, le-ltb, le-leb, eq-eqb}
use Rattle.std.proofs.Math.Logic.Iff
use Rattle.std.proofs.lemmas.Bool.{not-true}
use Rattle.base_sums.specs.Each.{each, each_at, each_breaks, both, left_of, right_of, either, or_left, or_right, fails, of_yes}

-- ---- comparisons

pub less : {a b : ℕ} → ltb a b ≡ true ↔ a < b
less {a} {b} = (ltb-true a b, lt-ltb a b)

pub at_most : {a b : ℕ} → leb a b ≡ true ↔ a ≤ b
at_most {a} {b} = (leb-true a b, le-leb a b)

pub same : {a b : ℕ} → eqb a b ≡ true ↔ a ≡ b
same {a} {b} = (eqb-true a b, eq-eqb a b)

pub not_less : {a b : ℕ} → not (ltb a b) ≡ true ↔ b ≤ a
not_less {a} {b} = (λ e. ltb-false a b (not-true (ltb a b) e), λ h. rw (le-ltb a b h))

-- ---- not

-- a test that fails means that the fact is not so
pub not_so : {t : Bool} {P : Type 0} → t ≡ true ↔ P → t ≡ false ↔ (P → ⊥)
not_so {t} p = (λ e x. of_yes (sym e ∙ p.1 x), λ h. fails (λ e. h (p.0 e)))

pub is_not : {t : Bool} {P : Type 0} → t ≡ true ↔ P → not t ≡ true ↔ (P → ⊥)
is_not {t} p = (λ e. (not_so p).0 (not-true t e), λ h. rw ((not_so p).1 h))

-- ---- and, or

module _ {s t : Bool} {P Q : Type 0} (p : s ≡ true ↔ P) (q : t ≡ true ↔ Q) where
  pub and : (s && t) ≡ true ↔ P × Q
  and = (λ e. (p.0 (left_of s t e), q.0 (right_of s t e)), λ w. both s t (p.1 w.0) (q.1 w.1))

  pub or : (s || t) ≡ true ↔ P ⊎ Q
  or = (λ e. ⊎_elim (λ x. inl (p.0 x)) (λ y. inr (q.0 y)) (either s t e), ⊎_elim (λ x. or_left s t (p.1 x)) (λ y. or_right s t (q.1 y)))

pub and₃ : {s t u : Bool} {P Q R : Type 0} → s ≡ true ↔ P → t ≡ true ↔ Q → u ≡ true ↔ R → (s && t && u) ≡ true ↔ P × Q × R
and₃ p q r = Iff.trans (and (and p q) r) (λ w. (w.0.0, w.0.1, w.1), λ w. ((w.0, w.1), w.2))

-- tests are grouped to the left, words to the right
pub to_the_right : {P Q R : Type 0} → (P ⊎ Q) ⊎ R ↔ P ⊎ Q ⊎ R
to_the_right = (⊎_elim (⊎_elim inl (λ y. inr (inl y))) (λ z. inr (inr z)), ⊎_elim (λ x. inl (inl x)) (⊎_elim (λ y. inl (inr y)) inr))

pub or₃ : {s t u : Bool} {P Q R : Type 0} → s ≡ true ↔ P → t ≡ true ↔ Q → u ≡ true ↔ R → (s || t || u) ≡ true ↔ P ⊎ Q ⊎ R
or₃ p q r = Iff.trans (or (or p q) r) to_the_right

pub or₄ : {s t u v : Bool} {P Q R S : Type 0} → s ≡ true ↔ P → t ≡ true ↔ Q → u ≡ true ↔ R → v ≡ true ↔ S → (s || t || u || v) ≡ true ↔ P ⊎ Q ⊎ R ⊎ S
or₄ p q r s = Iff.trans (or₃ (or p q) r s) to_the_right

-- ---- not for each

pub not_each : {n : ℕ} {t : ℕ → Bool} {P : ℕ → Type 0} → ((i : ℕ) → t i ≡ true ↔ P i) → not (each n t) ≡ true ↔ ((i : ℕ) × (i < n) × (P i → ⊥))
not_each {n} {t} {P} p = (λ e. shown (each_breaks n t (not-true (each n t) e)), λ w. (is_not (λ e. e, λ e. e)).1 (λ e. w.2 ((p w.0).0 (each_at n t e w.0 w.1))))
  where
    shown : (i : ℕ) × (i < n) × (t i ≡ false) → (i : ℕ) × (i < n) × (P i → ⊥)
    shown w = (w.0, w.1, (not_so (p w.0)).0 w.2)
