-- Refusal 15 is never given: a kept set that a best plan has is within its limits, and there the rule always finds a channel. Assumes nothing.
use Rattle.std.specs.Prelude.{◌≡◌, Bool, ◌&&◌, ℕ, ◌≤◌, ◌<◌}
use Rattle.std.proofs.Common.{sym, ap, ◌∙◌, arith}
use Rattle.base_sums.specs.Sums.{bit, Σ-ext}
use Rattle.paper_book.specs.Book.{Book, spans, limit, count}
use Rattle.paper_book.specs.Sound.{Sound}
use Rattle.paper_rules.specs.Ways.{crosses}
use Rattle.paper_rules.specs.Plans.{Plan, kept, way, over, load}
use Rattle.paper_rules.specs.Cuts.{plan_line}
use Rattle.paper_rules.specs.Operations.{NoneLeft}
use Rattle.law_line.specs.Obeys.{obeys_fair}
use Rattle.law_line.specs.Laid.{Laid, obeys_laid}
use Rattle.law_line.specs.Found.{channel_found}
use Rattle.law_ring.specs.PlanLine.{LineFor, line_for}

-- plans with the same set on the same ways load every span alike
same_load : (book : Book) (plan other : Plan) → ((i : ℕ) → i < count book → (kept plan i ≡ kept other i) × (way plan i ≡ way other i)) → (s : ℕ) → load book plan s ≡ load book other s
unfolding load over
same_load book plan other same s =
    Σ-ext (count book) _ _ (λ i l. let w = same i l in ap (λ (t : Bool). bit (t && crosses book i (way plan i) s)) w.0 ∙ ap (λ (k : ℕ). bit (kept other i && crosses book i k s)) w.1)

pub none_left_never : (book : Book) → Sound book → (r : ℕ) → NoneLeft book r → ⊥
none_left_never book sound r none = omega (arith, m.channelled, none.none_left, channel_found m.its_line laid within none.channels r (omega (arith, m.counted, none.asked.0)) none.asked.1)
  where
    m : LineFor book (plan_line book)
    m = line_for book sound

    known : (i : ℕ) → i < count (plan_line book) → i < count book
    known i l = omega (arith, m.counted)

    -- the other plan obeys the rules of the line, and this one has its set and its ways
    laid : Laid (plan_line book) none.plan
    laid = record { goes = λ i l k. let w = none.same_set i (known i l) in w.1 ∙ (obeys_laid m.its_line none.other_best.fair).goes i l (sym w.0 ∙ k) }

    within : (s : ℕ) → s < spans (plan_line book) → load (plan_line book) none.plan s ≤ limit (plan_line book) s
    within s l = omega (arith, same_load (plan_line book) none.plan none.other (λ i h. none.same_set i (known i h)) s, (obeys_fair (plan_line book) none.other none.other_best.fair).within_limits s l)
