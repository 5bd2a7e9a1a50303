-- Two pages that the printing program's promise allows for one file are the same text (01, "How far the statements reach"): where the file is refused, and
-- where a book is read and their plans keep the same requests. The bytes after a page keep what they held, so equal buffers stay equal. Assumes nothing.
use Rattle.std.specs.Prelude.{List, ◌++◌, ◌≡◌, ℕ, ◌<◌, length, take, drop}
use Rattle.std.proofs.Common.{sym, ap, ap₂, ◌∙◌, take-append-drop, length-take-le}
use Rattle.paper_book.specs.Book.{Book, count}
use Rattle.paper_book.specs.Reading.{done, refused, reading}
use Rattle.paper_book.specs.Sound.{Sound, sound}
use Rattle.paper_rules.specs.Plans.{kept}
use Rattle.page_plan.specs.Printed.{same_entries}
use Rattle.page_book.specs.Page.{PlanPage, Paged}
use Rattle.demands.specs.Equal.{cut_equal, earned_equal, number_equal, entries_equal}

-- the first r bytes of one buffer are the first r' of the other, and buffers that were equal before are equal after
pub record SamePage (before out : List ℕ) (r : ℕ) (before' out' : List ℕ) (r' : ℕ) : Type 0 where
  pub text : take r out ≡ take r' out'
  pub long : r ≡ r'
  pub buffer : before ≡ before' → out ≡ out'

-- the pages of two plans that keep the same requests
plans_equal :
    {book : Book} {out out' : List ℕ} {r r' : ℕ} → Sound book → (p : PlanPage book out r) (q : PlanPage book out' r')
    → ((i : ℕ) → i < count book → kept p.plan i ≡ kept q.plan i) → take r out ≡ take r' out'
plans_equal {book} s p q same =
    let earned : p.earned ≡ q.earned = earned_equal s p.planned q.planned in
    let number : p.number ≡ q.number = number_equal s p.planned q.planned same in
    let cut : p.cut ≡ q.cut = cut_equal s p.planned q.planned in
    let entries = same_entries book p.plan q.plan q.earned q.number q.cut (entries_equal s p.planned q.planned same) in
    p.text ∙ rw (earned, number, cut) (entries ∙ sym q.text)

module _ {file before out before' out' : List ℕ} {r r' : ℕ} (p : Paged file before out r) (q : Paged file before' out' r') where
  -- both pages lie inside their buffers, so equal texts are equally long
  same_page : take r out ≡ take r' out' → SamePage before out r before' out' r'
  same_page e = record { text = e; long = as_long; buffer = λ b. sym (take-append-drop r out) ∙ ap₂ ◌++◌ e (beyond b) ∙ take-append-drop r' out' }
    where
      as_long : r ≡ r'
      as_long = sym (length-take-le r out p.inside) ∙ ap length e ∙ length-take-le r' out' q.inside

      beyond : before ≡ before' → drop r out ≡ drop r' out'
      beyond b = p.later ∙ ap₂ drop as_long b ∙ sym q.later

  -- the file is refused
  pub refusal_page_equal : {number place : ℕ} → reading file ≡ refused number place → SamePage before out r before' out' r'
  refusal_page_equal {number} {place} e = same_page (p.refusal number place e ∙ sym (q.refusal number place e))

  -- a book is read; equal kept sets are enough, since they fix the entries, and the book the earnings and the cut
  pub plan_page_equal :
      {book : Book} (read : reading file ≡ done book)
      → ((i : ℕ) → i < count book → kept (p.plan book read).plan i ≡ kept (q.plan book read).plan i) → SamePage before out r before' out' r'
  plan_page_equal {book} read same = same_page (plans_equal (sound file book read) (p.plan book read) (q.plan book read) same)
