-- "Entries after m and prices after n − 1 are not read" (01, "Prices and the checker"): lists which agree before that, and are both long enough
-- or both too short, get the same answer of the checker, a refusal included. Assumes nothing.
use Rattle.std.proofs.Math.Bool.{◌&&◌}
use Rattle.std.specs.Prelude.{List, ◌≡◌, refl, ℕ, ◌<◌}
use Rattle.std.proofs.Math.Path.{ap, ap₂}
use Rattle.std.proofs.Math.Dec.{leb}
use Rattle.base_sums.specs.Each.{each_ext, first_ext}
use Rattle.base_sums.specs.Sums.{Σ-ext}
use Rattle.paper_book.specs.Bytes.{entry_in, price_in}
use Rattle.paper_book.specs.Book.{Book, spans, limit, count}
use Rattle.paper_book.specs.Reading.{Outcome, done, refused, and_then, reading}
use Rattle.paper_rules.specs.Plans.{Plan, kept, way, channel, earnings, over, load, share, formed, apart, obeys}
use Rattle.paper_rules.specs.Prices.{Prices, verdict}
use Rattle.paper_rules.specs.Operations.{too_short, too_dear, checking, checker}
use Rattle.work_ceiling.specs.Same.{ceiling_same}

-- a plan counts by its entries below m
module _ (book : Book) {plan other : Plan} (same : (i : ℕ) → i < count book → plan i ≡ other i) where
  pub obeys_same : obeys book plan ≡ obeys book other
  unfolding obeys formed apart share load over kept way channel
  obeys_same =
      ap₂ ◌&&◌
      (ap₂ ◌&&◌ (each_ext (count book) _ _ (λ i l. rw (same i l))) (each_ext (count book) _ _ (λ i li. each_ext (count book) _ _ (λ j lj. rw (same i li, same j lj)))))
      (each_ext (spans book) _ _ (λ s l. ap (λ (n : ℕ). leb n (limit book s)) (Σ-ext (count book) _ _ (λ i li. rw (same i li)))))

  pub earnings_same : earnings book plan ≡ earnings book other
  unfolding earnings kept
  earnings_same = Σ-ext (count book) _ _ (λ i l. rw (same i l))

-- prices count by those of the spans
module _ (book : Book) {prices others : Prices} (same : (s : ℕ) → s < spans book → prices s ≡ others s) where
  dear_same : too_dear book prices ≡ too_dear book others
  unfolding too_dear
  dear_same = first_ext (spans book) _ _ (λ s l. rw (same s l))

  pub verdict_same : {plan other : Plan} → ((i : ℕ) → i < count book → plan i ≡ other i) → verdict book plan prices ≡ verdict book other others
  unfolding verdict
  verdict_same entries = rw (obeys_same book entries, earnings_same book entries, ceiling_same book same)

-- the same in every place that is read, and both pairs long enough, or both too short
pub record SameRead (book : Book) (entries prices other others : List ℕ) : Type 0 where
  pub entries_same : (i : ℕ) → i < count book → entry_in entries i ≡ entry_in other i
  pub prices_same : (s : ℕ) → s < spans book → price_in prices s ≡ price_in others s
  pub short_same : too_short book entries prices ≡ too_short book other others

checking_not_read : {book : Book} {entries prices other others : List ℕ} → SameRead book entries prices other others → checking book entries prices ≡ checking book other others
unfolding checking
checking_not_read {book} same = rw (same.short_same, dear_same book same.prices_same, verdict_same book same.prices_same same.entries_same)

pub checker_not_read :
    (file : List ℕ) {entries prices other others : List ℕ} → ((book : Book) → reading file ≡ done book → SameRead book entries prices other others)
    → checker file entries prices ≡ checker file other others
unfolding checker and_then
checker_not_read file {entries} {prices} {other} {others} same = by (reading file) refl
  where
    by : (o : Outcome Book) → reading file ≡ o → and_then o (λ book. checking book entries prices) ≡ and_then o (λ book. checking book other others)
    by (refused n p) is = refl
    by (done book) is = checking_not_read (same book is)
