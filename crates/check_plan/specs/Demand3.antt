-- Demand 3 in the words of 01 ("Prices and the checker"), said of the answer that `check_plan` gives. A yes or a no is given of an accepted line
-- with lists long enough and no price too high, and is then the verdict of the rules; so the laws of ceilings speak of it. Assumes nothing.
use Rattle.std.specs.Prelude.{◌≡◌, refl, Bool, false, List, ℕ, ◌≤◌, ◌<◌, Ok}
use Rattle.std.proofs.Common.{sym, ◌∙◌, eq-eqb}
use Rattle.std.proofs.Math.Path.{ap}
use Rattle.std.proofs.Math.Bool.{true}
use Rattle.std.proofs.Math.Logic.{⊎_elim}
use Rattle.base_sums.specs.Each.{both, decided, less_or_not}
use Rattle.paper_book.specs.Bytes.{entry_places, price_places, entry_in, price_in}
use Rattle.paper_book.specs.Book.{Book, spans, count}
use Rattle.paper_book.specs.Reading.{Outcome, done, refused, reading, refused_not_done}
use Rattle.paper_book.specs.InWords.{long_lists}
use Rattle.paper_book.specs.Sound.{sound}
use Rattle.paper_rules.specs.Plans.{Best, earnings, obeys}
use Rattle.paper_rules.specs.Prices.{verdict, ceiling}
use Rattle.paper_rules.specs.Operations.{places_short, too_short, too_dear, checking, checker}
use Rattle.law_line.specs.Line.{Line}
use Rattle.law_line.specs.Ceiling.{yes_obeys, yes_earns, yes_best, yes_for_best, no_for_others}
use Rattle.check_plan.specs.declared.Verdict.TheVariants.{Yes, No}
use Rattle.check_plan.specs.Checked.{Checked, checked_of, same_checked}
use Rattle.check_plan.specs.WaysOut as W

-- what `check_plan` promises of its answer
pub record Answered (file entries prices : List ℕ) (answer : Checked) : Type 0 where
  pub says : checked_of answer ≡ checker file entries prices

-- a file that yes or no can be said of, with these lists: an accepted line, places enough, and no price above 1,000,000
pub record Judged (file entries prices : List ℕ) : Type 0 where
  pub book : Book
  pub read : reading file ≡ done book
  pub line : book.shape ≡ 1
  pub entries_enough : count book ≤ entry_places entries
  pub prices_enough : spans book ≤ price_places prices
  pub price_upto : (s : ℕ) → s < spans book → price_in prices s ≤ 1000000

-- ---- yes or no is the verdict of the rules

module _ {file entries prices : List ℕ} (j : Judged file entries prices) where
  on_line : Line j.book
  on_line = record { line = j.line; sound = sound file j.book j.read }

  long : too_short j.book entries prices ≡ false
  unfolding too_short places_short
  long = long_lists.1 (j.entries_enough, λ line. j.prices_enough)

  pub is_verdict : done (verdict j.book (entry_in entries) (price_in prices)) ≡ checker file entries prices
  is_verdict =
      W.book_accepted file entries prices j.read
      (W.verdict_given on_line entries prices long (W.none_dear j.book prices j.price_upto))

-- where the checker says yes or no, there is something to judge: every other way out is a refusal
module _ (file entries prices : List ℕ) {t : Bool} (said : checker file entries prices ≡ done t) where
  judged_line : (book : Book) → reading file ≡ done book → book.shape ≡ 1 → Judged file entries prices
  unfolding too_short places_short
  judged_line book read line =
      ⊎_elim (λ e. absurd (refused_not_done (from (W.short_refused on entries prices e) ∙ said)))
      (λ e. ⊎_elim (λ l. absurd (refused_not_done (from (W.dear_refused on entries prices e l) ∙ said))) (judged e) (less_or_not _ _))
      (decided (too_short book entries prices))
    where
      on : Line book
      on = record { line = line; sound = sound file book read }

      from : {out : Outcome Bool} → out ≡ checking book entries prices → out ≡ checker file entries prices
      from = W.book_accepted file entries prices read

      judged : too_short book entries prices ≡ false → spans book ≤ too_dear book (price_in prices) → Judged file entries prices
      judged e none =
          record {
            book = book;
            read = read;
            line = line;
            entries_enough = (long_lists.0 e).0;
            prices_enough = (long_lists.0 e).1 line;
            price_upto = W.all_low book prices none;
          }

  judged_there : Judged file entries prices
  judged_there = go (reading file) refl
    where
      go : (o : Outcome Book) → reading file ≡ o → Judged file entries prices
      go (refused n p) e = absurd (refused_not_done (W.book_refused file entries prices e ∙ said))
      go (done book) e =
          ⊎_elim (judged_line book e) (λ r. absurd (refused_not_done (W.book_accepted file entries prices e (W.ring_refused book entries prices r) ∙ said)))
          (sound file book e).shaped

-- ---- the answer

module _ {file entries prices : List ℕ} {answer : Checked} (j : Judged file entries prices) (answered : Answered file entries prices answer) where
  answer_is : checked_of answer ≡ done (verdict j.book (entry_in entries) (price_in prices))
  answer_is = answered.says ∙ sym (is_verdict j)

  yes_verdict : answer ≡ Ok Yes → verdict j.book (entry_in entries) (price_in prices) ≡ true
  unfolding checked_of
  yes_verdict e = let said : done true ≡ done (verdict j.book (entry_in entries) (price_in prices)) = rw e at answer_is in cc

  -- "The checker says yes exactly when the plan obeys the rules and its earnings equal the ceiling", and else no.
  pub yes_means : answer ≡ Ok Yes → (obeys j.book (entry_in entries) ≡ true) × (earnings j.book (entry_in entries) ≡ ceiling j.book (price_in prices))
  yes_means e = let v = yes_verdict e in (yes_obeys (on_line j) _ _ v, yes_earns (on_line j) _ _ v)

  pub yes_given : obeys j.book (entry_in entries) ≡ true → earnings j.book (entry_in entries) ≡ ceiling j.book (price_in prices) → answer ≡ Ok Yes
  unfolding verdict checked_of
  yes_given o e = same_checked answer (Ok Yes) (answer_is ∙ ap done (both _ _ o (eq-eqb _ _ e)))

  pub no_given : (answer ≡ Ok Yes → ⊥) → answer ≡ Ok No
  unfolding checked_of
  no_given n =
      ⊎_elim (λ e. absurd (n (same_checked answer (Ok Yes) (answer_is ∙ ap done e)))) (λ e. same_checked answer (Ok No) (answer_is ∙ ap done e))
      (decided (verdict j.book (entry_in entries) (price_in prices)))

-- At prices where any plan gets a yes, every best plan gets a yes and no other plan does.
module _ {file entries prices : List ℕ} {answer : Checked} (j : Judged file entries prices) (answered : Answered file entries prices answer) where
  pub best_gets_yes : {accepted : List ℕ} → Answered file accepted prices (Ok Yes) → Best j.book (entry_in entries) → answer ≡ Ok Yes
  unfolding checked_of
  best_gets_yes {accepted} other b =
      same_checked answer (Ok Yes) (answer_is j answered ∙ ap done (yes_for_best (on_line j) (entry_in accepted) (entry_in entries) (price_in prices) there b))
    where
      was : Judged file accepted prices
      was = judged_there file accepted prices (sym other.says)

      same : was.book ≡ j.book
      same = let e : done was.book ≡ done j.book = sym was.read ∙ j.read in cc

      there : verdict j.book (entry_in accepted) (price_in prices) ≡ true
      there = rw same at (yes_verdict was other refl)

  pub others_get_no : (Best j.book (entry_in entries) → ⊥) → answer ≡ Ok No
  unfolding checked_of
  others_get_no n = same_checked answer (Ok No) (answer_is j answered ∙ ap done (no_for_others (on_line j) (entry_in entries) (price_in prices) n))

-- "A yes means that no plan obeying the rules earns more": the book is then an accepted line, and the plan in the entry list is best.
pub yes_means_best : {file entries prices : List ℕ} → Answered file entries prices (Ok Yes) → (j : Judged file entries prices) × Best j.book (entry_in entries)
unfolding checked_of
yes_means_best {file} {entries} {prices} answered =
    let j = judged_there file entries prices (sym answered.says) in
    (j, yes_best (on_line j) _ _ (yes_verdict j answered refl))
