-- On a line every kept set within the limits is the kept set of a plan that obeys the rules: lay each request on its way and give the
-- channels by the rule, which finds one of 1 to k for each. Assumes nothing.
use Rattle.std.specs.Prelude.{◌≡◌, Bool, true, ◌&&◌, ℕ, ◌≤◌, ◌<◌}
use Rattle.std.proofs.Math.Path.{sym}
use Rattle.std.proofs.Common.{ap, ◌∙◌, arith}
use Rattle.base_sums.specs.Sums.{bit, Σ-ext}
use Rattle.base_sums.specs.Lowest.{lowest_upto}
use Rattle.paper_book.specs.Book.{Book, spans, limit, count, end_a, end_b}
use Rattle.paper_rules.specs.Ways.{line_way, crossed}
use Rattle.paper_rules.specs.Plans.{Plan, kept, load, obeys}
use Rattle.paper_rules.specs.Channels.{by_rule}
use Rattle.law_row.specs.Row.{held_before}
use Rattle.law_row.specs.Channels.{Ruled, ruled_exists}
use Rattle.law_row.specs.Same.{itself, ruled_same}
use Rattle.law_line.specs.RowOf.{row_of}
use Rattle.law_line.specs.Line.{Line}
use Rattle.law_line.specs.Ways.{way_from_lem}
use Rattle.law_line.specs.Laid.{Laid, load_crossed, ruled_rule}
use Rattle.law_line.specs.Sets.{crossing}
use Rattle.law_line.specs.Entries.{entered, kept_entered, way_entered, channel_entered}
use Rattle.law_line.specs.Found.{rule_obeys}

-- a plan that keeps x, obeys the rules and has its channels by the rule
pub record Made (book : Book) (x : ℕ → Bool) (plan : Plan) : Type 0 where
  pub keeps : (i : ℕ) → kept plan i ≡ x i
  pub fair : obeys book plan ≡ true
  pub rule : by_rule book plan ≡ true

module _ {book : Book} (on : Line book) (x : ℕ → Bool) (channels : ℕ → ℕ) (ruled : Ruled (row_of book) book.channels x channels) where
  plan : Plan
  plan = entered x (line_way book) channels

  plan_keeps : (i : ℕ) → kept plan i ≡ x i
  unfolding plan line_way
  plan_keeps i = kept_entered x (line_way book) channels i (way_from_lem (end_a book i) (end_b book i))

  -- the rule goes no further than k + 1, and k is at most 96
  small : (i : ℕ) → i < count book → x i ≡ true → channels i < 256
  unfolding row_of
  small i l e = omega (arith, ruled.is i l e, lowest_upto book.channels (held_before (row_of book) x channels i), on.sound.channels_upto)

  plan_laid : Laid book plan
  unfolding plan
  plan_laid = record { goes = λ i l k. let e = sym (plan_keeps i) ∙ k in way_entered x (line_way book) channels i e (small i l e) }

  plan_rule : by_rule book plan ≡ true
  unfolding plan row_of
  plan_rule =
      ruled_rule on plan_laid
      (ruled_same (itself (row_of book)) (λ i l. sym (plan_keeps i)) book.channels
      (λ i l e. sym (channel_entered x (line_way book) channels i e (small i l e))) ruled)

  plan_made : ((s : ℕ) → s < spans book → crossing book (count book) x s ≤ limit book s) → Made book x plan
  plan_made within = record { keeps = plan_keeps; fair = rule_obeys on plan_laid loads plan_rule; rule = plan_rule }
    where
      same : (s : ℕ) → crossing book (count book) (kept plan) s ≡ crossing book (count book) x s
      same s = Σ-ext (count book) _ _ (λ i l. ap (λ (t : Bool). bit (t && crossed book i s)) (plan_keeps i))

      loads : (s : ℕ) → s < spans book → load book plan s ≤ limit book s
      loads s l = rw (load_crossed plan_laid s) (rw (same s) (within s l))

pub made :
    {book : Book} → Line book → (x : ℕ → Bool) → ((s : ℕ) → s < spans book → crossing book (count book) x s ≤ limit book s)
    → (plan : Plan) × Made book x plan
made {book} on x within = let r = ruled_exists (row_of book) book.channels x in (plan on x r.0 r.1, plan_made on x r.0 r.1 within)
