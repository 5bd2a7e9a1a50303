-- Sums over the numbers below a bound, and what a test counts for. Every total of document 01 (a load, earnings, a ceiling)
-- is one of these. Assumes nothing.
use Rattle.std.specs.Prelude.{◌≡◌, refl, Bool, true, false, ◌&&◌, ℕ, zero, suc, ◌+◌, ◌*◌, ◌≤◌, ◌<◌, eqb}
use Rattle.std.proofs.Common.{sym, ap, ap₂, subst, ◌∙◌, ⊎_elim, eq-or-lt_of_le, le_of_suc-le-suc, arith, eq-eqb, ne_eqb}

-- f 0 + f 1 + .. + f (n − 1)
unfoldable pub Σ : ℕ → (ℕ → ℕ) → ℕ
Σ zero f = 0
Σ (suc n) f = Σ n f + f n

-- x where the test passes, else 0
abbrev pub when : Bool → ℕ → ℕ
when true x = x
when false x = 0

-- 1 where the test passes, else 0
abbrev pub bit : Bool → ℕ
bit t = when t 1

-- ---- one sum against another

pub Σ-ext : (n : ℕ) (f g : ℕ → ℕ) → ((i : ℕ) → i < n → f i ≡ g i) → Σ n f ≡ Σ n g
unfolding Σ
Σ-ext zero f g h = refl
Σ-ext (suc n) f g h = ap₂ ◌+◌ (Σ-ext n f g (λ i l. h i (omega arith))) (h n (omega arith))

pub Σ-le : (n : ℕ) (f g : ℕ → ℕ) → ((i : ℕ) → i < n → f i ≤ g i) → Σ n f ≤ Σ n g
unfolding Σ
Σ-le zero f g h = omega arith
Σ-le (suc n) f g h = omega (arith, Σ-le n f g (λ i l. h i (omega arith)), h n (omega arith))

pub Σ-zero : (n : ℕ) (f : ℕ → ℕ) → ((i : ℕ) → i < n → f i ≡ 0) → Σ n f ≡ 0
unfolding Σ
Σ-zero zero f h = refl
Σ-zero (suc n) f h = omega (arith, Σ-zero n f (λ i l. h i (omega arith)), h n (omega arith))

pub Σ-add : (n : ℕ) (f g : ℕ → ℕ) → Σ n (λ i. f i + g i) ≡ Σ n f + Σ n g
unfolding Σ
Σ-add zero f g = refl
Σ-add (suc n) f g = omega (arith, Σ-add n f g)

pub Σ-mul : (n : ℕ) (c : ℕ) (f : ℕ → ℕ) → Σ n (λ i. c * f i) ≡ c * Σ n f
unfolding Σ
Σ-mul zero c f = omega arith
Σ-mul (suc n) c f = omega (arith, Σ-mul n c f)

-- the order of a double sum is free
pub Σ-swap : (n m : ℕ) (f : ℕ → ℕ → ℕ) → Σ n (λ i. Σ m (λ j. f i j)) ≡ Σ m (λ j. Σ n (λ i. f i j))
unfolding Σ
Σ-swap zero m f = sym (Σ-zero m (λ j. 0) (λ j l. refl))
Σ-swap (suc n) m f = ap (λ (x : ℕ). x + Σ m (λ j. f n j)) (Σ-swap n m f) ∙ sym (Σ-add m (λ j. Σ n (λ i. f i j)) (λ j. f n j))

-- a part is at most the whole
pub Σ-part : (n : ℕ) (f : ℕ → ℕ) (i : ℕ) → i < n → f i ≤ Σ n f
unfolding Σ
Σ-part zero f i h = absurd (omega arith)
Σ-part (suc n) f i h =
    ⊎_elim (λ (q : i ≡ n). subst (λ (k : ℕ). f k ≤ Σ n f + f n) (sym q) (omega arith)) (λ (l : i < n). omega (arith, Σ-part n f i l))
    (eq-or-lt_of_le (le_of_suc-le-suc h))

-- a sum of at most c each
pub Σ-most : (n : ℕ) (f : ℕ → ℕ) (c : ℕ) → ((i : ℕ) → i < n → f i ≤ c) → Σ n f ≤ n * c
unfolding Σ
Σ-most zero f c h = omega arith
Σ-most (suc n) f c h = omega (arith, Σ-most n f c (λ i l. h i (omega arith)), h n (omega arith))

-- a sum with one term that counts
pub Σ-only : (n i : ℕ) (f : ℕ → ℕ) → i < n → ((j : ℕ) → j < n → (j ≡ i → ⊥) → f j ≡ 0) → Σ n f ≡ f i
unfolding Σ
Σ-only zero i f h none = absurd (omega arith)
Σ-only (suc n) i f h none =
    ⊎_elim
    (λ (q : i ≡ n). rw q (omega (arith, Σ-zero n f (λ j l. none j (omega arith) (λ e. omega arith)))))
    (λ (l : i < n). omega (arith, Σ-only n i f l (λ j k. none j (omega arith)), none n (omega arith) (λ e. omega arith)))
    (eq-or-lt_of_le (le_of_suc-le-suc h))

-- changing one term of a sum changes the sum by as much
pub Σ-change : (n e : ℕ) (f g : ℕ → ℕ) → e < n → ((i : ℕ) → i < n → (i ≡ e → ⊥) → f i ≡ g i) → Σ n f + g e ≡ Σ n g + f e
unfolding Σ
Σ-change zero e f g h same = absurd (omega arith)
Σ-change (suc n) e f g h same =
    ⊎_elim
    (λ (q : e ≡ n). rw q (omega (arith, Σ-ext n f g (λ i l. same i (omega arith) (λ r. omega arith)))))
    (λ (l : e < n). omega (arith, Σ-change n e f g l (λ i k. same i (omega arith)), same n (omega arith) (λ r. omega arith)))
    (eq-or-lt_of_le (le_of_suc-le-suc h))

-- ---- tests in sums

pub when_le : (t : Bool) (x : ℕ) → when t x ≤ x
when_le true x = omega arith
when_le false x = omega arith

pub when_upto : (t : Bool) (x y : ℕ) → x ≤ y → when t x ≤ when t y
when_upto true x y h = h
when_upto false x y h = omega arith

pub bit_le : (t : Bool) → bit t ≤ 1
bit_le t = when_le t 1

pub when_bit : (t : Bool) (x : ℕ) → when t x ≡ x * bit t
when_bit true x = omega arith
when_bit false x = omega arith

pub when_and : (s t : Bool) (x : ℕ) → when (s && t) x ≡ when s (when t x)
when_and true t x = refl
when_and false t x = refl

pub when_yes : (t : Bool) (x : ℕ) → t ≡ true → when t x ≡ x
when_yes t x e = rw e

pub when_no : (t : Bool) (x : ℕ) → t ≡ false → when t x ≡ 0
when_no t x e = rw e

-- 1 where the two are the same, 0 where not
abbrev pub same : ℕ → ℕ → ℕ
same a b = bit (eqb a b)

pub same_one : (a b : ℕ) → a ≡ b → same a b ≡ 1
same_one a b q = when_yes (eqb a b) 1 (eq-eqb a b q)

pub same_none : (a b : ℕ) → (a ≡ b → ⊥) → same a b ≡ 0
same_none a b n = when_no (eqb a b) 1 (ne_eqb a b n)

pub when_Σ : (t : Bool) (n : ℕ) (f : ℕ → ℕ) → when t (Σ n f) ≡ Σ n (λ i. when t (f i))
when_Σ true n f = refl
when_Σ false n f = sym (Σ-zero n (λ i. 0) (λ i l. refl))
