-- A run through tests, the first that finds a fault giving its row of document 01's table ("within a record the lowest number wins": the tests
-- stand lowest row first). The laws say how a run ends, and put the tests of one row together. Assumes nothing.
use Rattle.std.specs.Prelude.{◌≡◌, refl, Result, Ok, Err, ⊤, Bool, true, false, ◌||◌, List, [], ◌∷◌, ℕ, ◌<◌, ◌≤◌}
use Rattle.std.proofs.Common.{◌∙◌, arith}
use Rattle.read_record.specs.declared.Row.{Row}
use Rattle.read_record.specs.Numbers.{number_of}

-- a test that finds a fault, and the row that is then broken
pub record Test : Type 0 where
  pub finds : Bool
  pub row : Row

abbrev pub ◌⇒◌ : Bool → Row → Test
t ⇒ n = record { finds = t; row = n }

infix 10 ◌⇒◌
-- the row of the first test that finds a fault, where one does
unfoldable pub judged : List Test → Result ⊤ Row
judged [] = Ok tt
judged (t ∷ ts) = elim t.finds [ true ↦ Err t.row | false ↦ judged ts ]

-- the number of that row, or 12 where no test finds a fault
unfoldable pub lowest : List Test → ℕ
lowest [] = 12
lowest (t ∷ ts) = elim t.finds [ true ↦ number_of t.row | false ↦ lowest ts ]

-- every row named is one of the first eleven
abbrev pub Eleven : List Test → Type 0
Eleven [] = ⊤
Eleven (t ∷ ts) = (number_of t.row < 12) × Eleven ts

-- ---- how a run ends

pub found : (t : Bool) (n : Row) (ts : List Test) → t ≡ true → Err n ≡ judged ((t ⇒ n) ∷ ts)
unfolding judged
found t n ts e = rw e

pub passed : (t : Bool) (n : Row) (ts : List Test) (m : Result ⊤ Row) → t ≡ false → m ≡ judged ts → m ≡ judged ((t ⇒ n) ∷ ts)
unfolding judged
passed t n ts m e h = rw e h

pub none : Ok tt ≡ judged []
unfolding judged
none = refl

-- the row is the one that has the number
pub row_found : (ts : List Test) (row : Row) → Eleven ts → judged ts ≡ Err row → (number_of row ≡ lowest ts) × (number_of row < 12)
unfolding judged lowest
row_found [] row l e = let z : ◌≡◌ {A = ℕ} 0 1 = cc in absurd (omega arith)
row_found (t ∷ ts) row l e = by t.finds refl (row_found ts row l.1)
  where
    by : (f : Bool) → t.finds ≡ f → (judged ts ≡ Err row → (number_of row ≡ lowest ts) × (number_of row < 12)) → (number_of row ≡ lowest (t ∷ ts)) × (number_of row < 12)
    by true f rest = let is : t.row ≡ row = cc (rw f at e) in rw (f, ← is) (refl, l.0)
    by false f rest = rw f (rest (rw f at e))

-- and where there is none, no test finds a fault
pub none_found : (ts : List Test) → judged ts ≡ Ok tt → lowest ts ≡ 12
unfolding judged lowest
none_found [] e = refl
none_found (t ∷ ts) e = by t.finds refl (none_found ts)
  where
    by : (f : Bool) → t.finds ≡ f → (judged ts ≡ Ok tt → lowest ts ≡ 12) → lowest (t ∷ ts) ≡ 12
    by true f rest =
        let clash : ◌≡◌ {A = Result ⊤ Row} (Err t.row) (Ok tt) = rw f at e in
        let z : ◌≡◌ {A = ℕ} 0 1 = cc in
        absurd (omega arith)
    by false f rest = rw f (rest (rw f at e))

-- where no test finds a fault, the first does not
pub first_passed : (t : Bool) (n : Row) (ts : List Test) → number_of n < 12 → 12 ≤ lowest ((t ⇒ n) ∷ ts) → t ≡ false
unfolding lowest
first_passed true n ts h l = absurd (omega arith)
first_passed false n ts h l = refl

-- nor does a later one
pub rest_passed : (t : Bool) (n : Row) (ts : List Test) → number_of n < 12 → 12 ≤ lowest ((t ⇒ n) ∷ ts) → 12 ≤ lowest ts
unfolding lowest
rest_passed true n ts h l = absurd (omega arith)
rest_passed false n ts h l = l

-- ---- tests put together

-- two tests of one row are one test
pub joined : (s t : Bool) (n : Row) (ts : List Test) → lowest ((s ⇒ n) ∷ (t ⇒ n) ∷ ts) ≡ lowest ((s || t ⇒ n) ∷ ts)
unfolding lowest
joined true t n ts = refl
joined false t n ts = refl

pub behind : (t : Bool) (n : Row) (ts us : List Test) → lowest ts ≡ lowest us → lowest ((t ⇒ n) ∷ ts) ≡ lowest ((t ⇒ n) ∷ us)
unfolding lowest
behind true n ts us e = refl
behind false n ts us e = e

-- three and four tests of one row
pub joined₃ : (a b c : Bool) (n : Row) (ts : List Test) → lowest ((a ⇒ n) ∷ (b ⇒ n) ∷ (c ⇒ n) ∷ ts) ≡ lowest ((a || b || c ⇒ n) ∷ ts)
joined₃ a b c n ts = joined a b n ((c ⇒ n) ∷ ts) ∙ joined (a || b) c n ts

pub joined₄ : (a b c d : Bool) (n : Row) (ts : List Test) → lowest ((a ⇒ n) ∷ (b ⇒ n) ∷ (c ⇒ n) ∷ (d ⇒ n) ∷ ts) ≡ lowest ((a || b || c || d ⇒ n) ∷ ts)
joined₄ a b c d n ts = joined₃ a b c n ((d ⇒ n) ∷ ts) ∙ joined (a || b || c) d n ts
