-- Writing a list of numbers high byte first: each turn writes the bytes of one more, and leaves every other byte as it was.
-- Said once for any width: entries have two bytes and prices four. Assumes nothing.
use Rattle.std.specs.Prelude.{List, ◌≡◌, refl, ℕ, zero, suc, ◌+◌, ◌-◌, ◌*◌, ◌^◌, ◌/◌, ◌%◌, ◌≤◌, ◌<◌, length, set, take, drop}
use Rattle.std.proofs.Common.{⊎_elim, sym, ap, ◌∙◌, pow-suc, div-one, mul-le-mul_left, arith, length-set, length-drop, length-take-le, take_all, get_or-take}
use Rattle.std.proofs.Math.Nat.{div-div-eq-div-mul}
use Rattle.std.specs.List.{between}
use Rattle.std.specs.Int.{byte_at, bytes_high_first}
use Rattle.std.proofs.lemmas.List.{get_or-drop}
use Rattle.std.proofs.lemmas.List.Edits.{get_or-between}
use Rattle.std.proofs.lemmas.Slice.{take-put_mid_below, between-put_mid, drop-put_mid}
use borrow.Rule.Slice.PartMut.{put_mid, same_len_mid}
use Rattle.base_sums.specs.At.{Stored, store}
use Rattle.base_sums.specs.Each.{less_or_not}
use Rattle.paper_book.specs.Bytes.{byte}
use Rattle.paper_book.specs.Columns.{at}
use Rattle.desk.specs.Promise.{Written}

-- ---- one number

-- of a number's w bytes, which begin at an offset, all but the first `left` are written, and no other byte changed
pub record NumberPut (offset w left value : ℕ) (before after : List ℕ) : Type 0 where
  pub length_same : length after ≡ length before
  pub bytes : (k j : ℕ) → left ≤ k → k + 1 + j ≡ w → byte after (offset + k) ≡ value / 256 ^ j % 256
  pub earlier : (t : ℕ) → t < offset + left → byte after t ≡ byte before t
  pub later : (t : ℕ) → offset + w ≤ t → byte after t ≡ byte before t

-- the same on the way there, byte by byte (the code copies them at once): the rest is the number without the bytes that are written
pub record Putting (offset w left value rest : ℕ) (before after : List ℕ) : Type 0 where
  pub upto : left ≤ w
  pub rest_is : (j : ℕ) → left + j ≡ w → rest ≡ value / 256 ^ j
  pub put : NumberPut offset w left value before after

pub putting_none : (offset w value : ℕ) (before : List ℕ) → Putting offset w w value value before before
putting_none offset w value before =
    record {
      upto = omega arith;
      rest_is = λ j e. let none : j ≡ 0 = omega arith in rw none (sym (div-one value));
      put = record { length_same = refl; bytes = λ k j l e. absurd (omega arith); earlier = λ t h. refl; later = λ t h. refl };
    }

pub putting_more :
    {offset w left value rest : ℕ} {before out : List ℕ} → 0 < left → offset + w ≤ length before → Putting offset w left value rest before out
    → Putting offset w (left - 1) value (rest / 256) before (set out (offset + (left - 1)) (rest % 256))
putting_more {offset} {w} {left} {value} {rest} {before} {out} some room was =
    record {
      upto = omega (arith, was.upto);
      rest_is = λ j e. further (j - 1) (omega (arith, was.upto)) (omega (arith, was.upto));
      put =
          record {
            length_same = length-set out (offset + (left - 1)) (rest % 256) ∙ was.put.length_same;
            bytes = λ k j l e. ⊎_elim (λ m. let last : k ≡ left - 1 = omega arith in rw last (written j (omega arith))) (λ m. put.elsewhere (offset + k) (λ z. omega arith) ∙ was.put.bytes k j m e) (less_or_not k left);
            earlier = λ t h. put.elsewhere t (λ z. omega arith) ∙ was.put.earlier t (omega arith);
            later = λ t h. put.elsewhere t (λ z. omega (arith, was.upto)) ∙ was.put.later t h;
          };
    }
  where
    put : Stored 0 out (offset + (left - 1)) (rest % 256) (set out (offset + (left - 1)) (rest % 256))
    put = store 0 out (offset + (left - 1)) (rest % 256) (omega (arith, was.upto, was.put.length_same))

    written : (j : ℕ) → left + j ≡ w → byte (set out (offset + (left - 1)) (rest % 256)) (offset + (left - 1)) ≡ value / 256 ^ j % 256
    written j e = put.here (offset + (left - 1)) refl ∙ rw (was.rest_is j e)

    further : {j : ℕ} (i : ℕ) → left + i ≡ w → j ≡ suc i → rest / 256 ≡ value / 256 ^ j
    further i e is = rw (is, was.rest_is i e) (div-div-eq-div-mul value (256 ^ i) 256 ∙ ap (λ (x : ℕ). value / x) (sym (pow-suc 256 i)))

-- ---- one number, as the last of its eight bytes

-- byte j counted from the lowest
low_byte : (j value : ℕ) → byte_at j value ≡ value / 256 ^ j % 256
low_byte zero value = rw div-one refl
low_byte (suc j) value = refl

high_first : (n k j value : ℕ) → k + 1 + j ≡ n → byte (bytes_high_first n value) k ≡ value / 256 ^ j % 256
high_first zero k j value e = absurd (omega arith)
high_first (suc n) zero j value e = let same : j ≡ n = omega arith in rw same (low_byte n value)
high_first (suc n) (suc k) j value e = high_first n k j value (omega arith)

-- where two lists have the same bytes before a place, or from a place on
same_before : (xs ys : List ℕ) (n t : ℕ) → take n xs ≡ take n ys → t < n → byte xs t ≡ byte ys t
same_before xs ys n t e l = sym (get_or-take n xs t 0 l) ∙ ap (λ zs. byte zs t) e ∙ get_or-take n ys t 0 l

same_from : (xs ys : List ℕ) (n t : ℕ) → drop n xs ≡ drop n ys → n ≤ t → byte xs t ≡ byte ys t
same_from xs ys n t e l =
    let there : n + (t - n) ≡ t = omega arith in
    rw there at (sym (get_or-drop n xs (t - n) 0) ∙ ap (λ zs. byte zs (t - n)) e ∙ get_or-drop n ys (t - n) 0)

-- the last w of a number's eight bytes, in the place of as many of the list
pub part_put :
    {offset w value : ℕ} {out part : List ℕ} → w ≤ 8 → offset + w ≤ length out → part ≡ take (8 - (8 - w)) (drop (8 - w) (bytes_high_first 8 value))
    → NumberPut offset w 0 value out (put_mid offset (offset + w - offset) out part)
part_put {offset} {w} {value} {out} {part} few room lent_part = record {
  length_same = same_len_mid offset (offset + w - offset) out part (long ∙ sym lent);
  bytes = λ k j l e.
      sym (get_or-between _ offset (offset + w) k 0 (omega arith)) ∙ ap (λ zs. byte zs k) whole
      ∙ rw is (get_or-drop (8 - w) (bytes_high_first 8 value) k 0 ∙ high_first 8 (8 - w + k) j value (omega arith));
  earlier = λ t h. same_before _ _ offset t (take-put_mid_below offset (offset + w - offset) out part offset (omega arith) (omega arith)) (omega arith);
  later = λ t h. same_from _ _ (offset + w) t (drop-put_mid offset (offset + w - offset) out part (offset + w) (omega arith) (omega arith) (omega (arith, long))) h;
}
  where
    is : part ≡ drop (8 - w) (bytes_high_first 8 value)
    is = lent_part ∙ take_all (8 - (8 - w)) _ (omega (arith, length-drop (8 - w) (bytes_high_first 8 value)))

    long : length part ≡ w
    long = rw is (length-drop (8 - w) (bytes_high_first 8 value) ∙ omega arith)

    lent : length (take (offset + w - offset) (drop offset out)) ≡ w
    lent = length-take-le (offset + w - offset) (drop offset out) (omega (arith, length-drop offset out)) ∙ omega arith

    whole : between offset (offset + w) (put_mid offset (offset + w - offset) out part) ≡ part
    whole = between-put_mid offset (offset + w - offset) out part (offset + w) (omega arith) (omega (arith, long))

-- ---- a list of numbers

-- what the callers see to
pub record Fit (w n : ℕ) (numbers out : List ℕ) : Type 0 where
  pub there : n ≤ length numbers
  pub room : w * n ≤ length out
  pub whole : (i : ℕ) → i < n → at numbers i < 256 ^ w

-- number i ends before any later one begins
ends : {n : ℕ} (w i : ℕ) → i < n → w * i + w ≤ w * n
ends w i h = omega (arith, mul-le-mul_left {m = suc i} w h)

pub room_for : {w n : ℕ} {numbers out : List ℕ} → Fit w n numbers out → (i : ℕ) → i < n → w * i + w ≤ length out
room_for {w} fit i h = omega (arith, ends w i h, fit.room)

pub written_none : (w : ℕ) (numbers : ℕ → ℕ) (before : List ℕ) → Written w 0 numbers before before
written_none w numbers before =
    record { length_same = refl; whole = λ i h. absurd (omega arith); bytes = λ i k j h e. absurd (omega arith); later = λ t h. refl }

pub written_more :
    {w n : ℕ} {numbers : ℕ → ℕ} {before out after : List ℕ} → numbers n < 256 ^ w → Written w n numbers before out → NumberPut (w * n) w 0 (numbers n) out after
    → Written w (n + 1) numbers before after
written_more {w} {n} {numbers} small was put =
    record {
      length_same = put.length_same ∙ was.length_same;
      whole = λ i h. ⊎_elim (λ l. was.whole i l) (λ l. let e : i ≡ n = omega arith in rw e small) (less_or_not i n);
      bytes = λ i k j h e. ⊎_elim (λ l. put.earlier (w * i + k) (omega (arith, ends w i l)) ∙ was.bytes i k j l e) (λ l. let same : i ≡ n = omega arith in rw same (put.bytes k j (omega arith) e)) (less_or_not i n);
      later = λ t h. put.later t (omega arith) ∙ was.later t (omega arith);
    }

-- ---- the first n numbers of a list, lent by themselves

module _ {n : ℕ} (numbers : List ℕ) (there : n ≤ length numbers) where
  long : length (take n numbers) ≡ n
  long = length-take-le n numbers there

  pub front_fit : {w : ℕ} {out : List ℕ} → Fit w n numbers out → Fit w (length (take n numbers)) (take n numbers) out
  front_fit fit = rw long (record { there = omega (arith, long); room = fit.room; whole = λ i h. rw (get_or-take n numbers i 0 h) (fit.whole i h) })

  pub front_written : {w : ℕ} {before after : List ℕ} → Written w (length (take n numbers)) (at (take n numbers)) before after → Written w n (at numbers) before after
  front_written written =
      let was = rw long at written in
      record {
        length_same = was.length_same;
        whole = λ i h. rw (get_or-take n numbers i 0 h) at (was.whole i h);
        bytes = λ i k j h e. rw (get_or-take n numbers i 0 h) at (was.bytes i k j h e);
        later = was.later;
      }
