-- A part of a file that starts at a record: record i of the part is the record so many further in the file. Assumes nothing.
use Rattle.std.specs.Prelude.{◌≡◌, List, ℕ, ◌+◌, ◌*◌, ◌-◌, length, take, drop}
use Rattle.std.proofs.Math.Path.{ap, ap₂}
use Rattle.std.proofs.Common.{◌∙◌, length-drop, get_or-drop, take_all}
use native.Mathlib.Omega.{arith}
use Rattle.std.proofs.Math.Dec.{eqb}
use Rattle.base_sums.specs.Each.{each_ext}
use Rattle.paper_book.specs.Bytes.{byte, two, four, blank}
use Rattle.paper_book.specs.Refusals.{start, records, kind_in, mark_in, number_in, a_in, b_in, profit_in}

-- the part from an offset to the end, as the language has it
pub part_is : (f : List ℕ) (k : ℕ) → take (length f - k) (drop k f) ≡ drop k f
part_is f k = take_all (length f - k) (drop k f) (omega (arith, length-drop k f))

pub records_part : (f : List ℕ) (b : ℕ) → records (drop (start b) f) ≡ records f - b
unfolding records start
records_part f b = omega (arith, length-drop (16 * b) f)

-- ---- numbers in the part

module _ (f : List ℕ) (n : ℕ) where
  byte_part : (at to : ℕ) → n + at ≡ to → byte (drop n f) at ≡ byte f to
  byte_part at to e = get_or-drop n f at 0 ∙ ap (byte f) e

  two_part : (at to : ℕ) → n + at ≡ to → two (drop n f) at ≡ two f to
  unfolding two
  two_part at to e = ap₂ (λ a b. a * 256 + b) (byte_part at to e) (byte_part (at + 1) (to + 1) (omega arith))

  four_part : (at to : ℕ) → n + at ≡ to → four (drop n f) at ≡ four f to
  unfolding four
  four_part at to e = ap₂ (λ a b. a * 65536 + b) (two_part at to e) (two_part (at + 2) (to + 2) (omega arith))

  blank_part : (at to m : ℕ) → n + at ≡ to → blank (drop n f) at m ≡ blank f to m
  unfolding blank
  blank_part at to m e = each_ext m _ _ (λ i h. ap (λ x. eqb x 0) (byte_part (at + i) (to + i) (omega arith)))

-- ---- the fields of its records

module _ (f : List ℕ) (b i : ℕ) where
  at_record : (k : ℕ) → start b + (start i + k) ≡ start (b + i) + k
  unfolding start
  at_record k = omega arith

  pub kind_part : kind_in (drop (start b) f) i ≡ kind_in f (b + i)
  unfolding kind_in
  kind_part = byte_part f (start b) (start i) (start (b + i)) (omega (arith, at_record 0))

  pub mark_part : mark_in (drop (start b) f) i ≡ mark_in f (b + i)
  unfolding mark_in
  mark_part = byte_part f (start b) (start i + 1) (start (b + i) + 1) (at_record 1)

  pub number_part : number_in (drop (start b) f) i ≡ number_in f (b + i)
  unfolding number_in
  number_part = two_part f (start b) (start i + 2) (start (b + i) + 2) (at_record 2)

  pub a_part : a_in (drop (start b) f) i ≡ a_in f (b + i)
  unfolding a_in
  a_part = two_part f (start b) (start i + 4) (start (b + i) + 4) (at_record 4)

  pub b_part : b_in (drop (start b) f) i ≡ b_in f (b + i)
  unfolding b_in
  b_part = two_part f (start b) (start i + 6) (start (b + i) + 6) (at_record 6)

  pub profit_part : profit_in (drop (start b) f) i ≡ profit_in f (b + i)
  unfolding profit_in
  profit_part = four_part f (start b) (start i + 8) (start (b + i) + 8) (at_record 8)

  pub rest_part : blank (drop (start b) f) (start i + 12) 4 ≡ blank f (start (b + i) + 12) 4
  rest_part = blank_part f (start b) (start i + 12) (start (b + i) + 12) 4 (at_record 12)
