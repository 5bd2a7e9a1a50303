-- The number of a shape in a file, and the shape of a number. Assumes nothing.
use Rattle.std.specs.Prelude.{◌≡◌, refl, Result, Ok, Err, MatchResult, cond, eqb, true, false, ℕ}
use Rattle.std.specs.Result.{is_ok}
use Rattle.std.proofs.Math.Path.{sym, ap}
use Rattle.std.proofs.Common.{◌∙◌, ⊎_elim, ne_eqb}
use Rattle.base_sums.specs.Each.{same_or_not, of_yes, fails, or_left, or_right}
use Rattle.paper_book.specs.Refusals.{known}
use Rattle.read_record.specs.declared.Row.{Row}
use Rattle.read_record.specs.declared.Row.TheVariants.{Network}
use Rattle.read_record.specs.declared.shape.Shape.{Shape}
use Rattle.read_record.specs.declared.shape.Shape.TheVariants.{Line, Ring}

abbrev pub code_of : Shape → ℕ
code_of Line = 1
code_of Ring = 2

-- reading a code gives its shape, and row 2 where no shape has it
abbrev pub Decodes : ℕ → Result Shape Row → Type 0
Decodes code r = MatchResult r (λ shape. code_of shape ≡ code) (λ row. (row ≡ Network) × (known code ≡ false))

unfoldable pub shape_of : ℕ → Shape
shape_of code = cond (eqb code 2) Ring Line

pub shape_back : (shape : Shape) → shape_of (code_of shape) ≡ shape
unfolding shape_of
shape_back Line = refl
shape_back Ring = refl

pub shape_is : (shape : Shape) (code : ℕ) → code_of shape ≡ code → shape ≡ shape_of code
shape_is shape code e = sym (shape_back shape) ∙ ap shape_of e

pub same_shape : (shape other : Shape) → code_of shape ≡ code_of other → shape ≡ other
same_shape shape other e = sym (shape_back shape) ∙ (ap shape_of e ∙ shape_back other)

-- a code that was read is known, and its shape has it
pub known_code : (shape : Shape) (code : ℕ) → code_of shape ≡ code → known code ≡ true
unfolding known
known_code Line code e = rw (← e) refl
known_code Ring code e = rw (← e) refl

-- whether it can be read
pub decoded : (code : ℕ) (r : Result Shape Row) → Decodes code r → is_ok r ≡ known code
decoded code (Ok shape) has = sym (known_code shape code has)
decoded code (Err row) none = sym none.1

pub unknown_code : (code : ℕ) → (code ≡ 1 → ⊥) → (code ≡ 2 → ⊥) → known code ≡ false
unfolding known
unknown_code code a b = simp (ne_eqb code 1 a, ne_eqb code 2 b)

-- what is no shape's is neither of both
pub not_known : (code : ℕ) → known code ≡ false → (eqb code 1 ≡ false) × (eqb code 2 ≡ false)
unfolding known
not_known code e = (fails (λ one. of_yes (sym e ∙ or_left (eqb code 1) (eqb code 2) one)), fails (λ two. of_yes (sym e ∙ or_right (eqb code 1) (eqb code 2) two)))

pub code_back : (code : ℕ) → known code ≡ true → code_of (shape_of code) ≡ code
unfolding known shape_of
code_back code e =
    ⊎_elim (λ (one : code ≡ 1). rw one refl)
    (λ n. ⊎_elim (λ (two : code ≡ 2). rw two refl) (λ m. let clash = rw (ne_eqb code 1 n, ne_eqb code 2 m) at e in absurd (of_yes clash)) (same_or_not code 2))
    (same_or_not code 1)

-- what is no line is a ring
pub ring_else : (shape : Shape) → (shape ≡ Line → ⊥) → shape ≡ Ring
ring_else Line other = absurd (other refl)
ring_else Ring other = refl
