-- A plan on a line, in the row's words. A kept request of a plan that obeys the rules goes the one way that exists, and that way crosses
-- the cells which the request is over; so loads, earnings, common spans and the channel rule are the row's. Assumes nothing.
use Rattle.std.specs.Prelude.{◌≡◌, Bool, ℕ, ◌≤◌, ◌<◌}
use Rattle.std.proofs.Math.Path.{refl, sym, ap, ap₂}
use Rattle.std.proofs.Common.{◌∙◌}
use Rattle.std.proofs.Math.Bool.{true, false, ◌&&◌}
use borrow.Author.Tests.{eqb-true, eq-eqb}
use Rattle.base_sums.specs.Each.{each_at, each_of, some_ext}
use Rattle.base_sums.specs.Sums.{bit, Σ-ext}
use Rattle.base_sums.specs.Lowest.{lowest_free, lowest_ext}
use Rattle.paper_book.specs.Book.{Book, spans, limit, count}
use Rattle.paper_rules.specs.Ways.{line_way, crossed}
use Rattle.paper_rules.specs.Plans.{Plan, kept, way, channel, earnings, over, load, share, obeys}
use Rattle.paper_rules.specs.Channels.{lower_end, earlier, held_before, by_rule}
use Rattle.law_row.specs.Row
use Rattle.law_row.specs.Row.{covers, worth, WithinLimits, before, meet}
use Rattle.law_row.specs.Channels.{Ruled}
use Rattle.law_line.specs.RowOf.{row_of}
use Rattle.law_line.specs.Line.{Line}
use Rattle.base_sums.specs.Tests.{implied, implies, when_so, some_and}
use Rattle.law_line.specs.Obeys.{obeys_fair}
use Rattle.law_line.specs.Ways.{line_way_lem, crossed_covers}
use Rattle.law_line.specs.Sets.{crossing}

-- each kept request goes the way that exists
pub record Laid (book : Book) (plan : Plan) : Type 0 where
  pub goes : (i : ℕ) → i < count book → kept plan i ≡ true → way plan i ≡ line_way book i

pub obeys_laid : {book : Book} {plan : Plan} → Line book → obeys book plan ≡ true → Laid book plan
obeys_laid {book} {plan} on e = record {
  goes = λ i l k. eqb-true _ _ (sym (line_way_lem on i (way plan i) l) ∙ (obeys_fair book plan e).has_way i l k);
}

pub earnings_worth : (book : Book) (plan : Plan) → earnings book plan ≡ worth (row_of book) (kept plan)
unfolding earnings worth row_of
earnings_worth book plan = refl

-- as many of a set cross a span as cover its cell
pub crossing_row : {book : Book} → Line book → (x : ℕ → Bool) (s : ℕ) → crossing book (count book) x s ≡ Row.load (row_of book) x s
unfolding Row.load row_of
crossing_row {book} on x s = Σ-ext (count book) _ _ (λ i l. ap (λ (t : Bool). bit (x i && t)) (crossed_covers on i s l))

-- ---- what a laid plan crosses

module _ {book : Book} {plan : Plan} (laid : Laid book plan) where
  pub over_crossed : (i s : ℕ) → i < count book → over book plan i s ≡ (kept plan i && crossed book i s)
  unfolding over crossed
  over_crossed i s l = when_so (kept plan i) (λ k. rw (laid.goes i l k))

  pub load_crossed : (s : ℕ) → load book plan s ≡ crossing book (count book) (kept plan) s
  unfolding load
  load_crossed s = Σ-ext (count book) _ _ (λ i l. ap bit (over_crossed i s l))

module _ {book : Book} {plan : Plan} (on : Line book) (laid : Laid book plan) where
  pub over_covers : (i s : ℕ) → i < count book → over book plan i s ≡ (kept plan i && covers (row_of book) i s)
  over_covers i s l = over_crossed laid i s l ∙ ap (λ (t : Bool). kept plan i && t) (crossed_covers on i s l)

  pub load_row : (s : ℕ) → load book plan s ≡ Row.load (row_of book) (kept plan) s
  load_row s = load_crossed laid s ∙ crossing_row on (kept plan) s

  pub within_row : ((s : ℕ) → s < spans book → load book plan s ≤ limit book s) → WithinLimits (row_of book) (kept plan)
  unfolding row_of
  within_row h = record { holds = λ s l. rw (← load_row s) (h s l) }

  pub share_meet : (i j : ℕ) → i < count book → j < count book → share book plan i j ≡ (kept plan i && kept plan j && meet (row_of book) i j)
  unfolding share meet row_of
  share_meet i j li lj =
      some_ext (spans book) _ _ (λ s l. ap₂ ◌&&◌ (over_covers i s li) (over_covers j s lj) ∙ regroup (kept plan i) _ (kept plan j) _)
      ∙ some_and (spans book) (kept plan i && kept plan j) _
    where
      regroup : (p q r s : Bool) → (p && q && (r && s)) ≡ (p && r && (q && s))
      regroup true true r s = refl
      regroup true false true s = refl
      regroup true false false s = refl
      regroup false q r s = refl

  -- ---- the channel rule

  -- where i is kept, the same channels are held before it
  held_row : (i c : ℕ) → i < count book → kept plan i ≡ true → held_before book plan i c ≡ Row.held_before (row_of book) (kept plan) (channel plan) i c
  unfolding held_before Row.held_before earlier lower_end before row_of
  held_row i c l k =
      some_ext (count book) _ _ (λ j lj. rw (share_meet j i lj l, k) (regroup (earlier book j i) (kept plan j) (meet (row_of book) j i) _))
    where
      regroup : (e x m h : Bool) → (e && ((x && true && m) && h)) ≡ (x && (e && (m && h)))
      regroup true true m h = refl
      regroup true false m h = refl
      regroup false true m h = refl
      regroup false false m h = refl

  lowest_row :
      (i : ℕ) → i < count book → kept plan i ≡ true
      → lowest_free book.channels (held_before book plan i) ≡ lowest_free book.channels (Row.held_before (row_of book) (kept plan) (channel plan) i)
  lowest_row i l k = lowest_ext book.channels _ _ (λ c from upto. held_row i c l k)

  pub rule_ruled : by_rule book plan ≡ true → Ruled (row_of book) book.channels (kept plan) (channel plan)
  unfolding by_rule row_of
  rule_ruled e = record { is = λ i l k. eqb-true _ _ (implied (kept plan i) _ (each_at (count book) _ e i l) k) ∙ lowest_row i l k }

  pub ruled_rule : Ruled (row_of book) book.channels (kept plan) (channel plan) → by_rule book plan ≡ true
  unfolding by_rule row_of
  ruled_rule r = each_of (count book) _ (λ i l. implies (kept plan i) _ (λ k. eq-eqb _ _ (r.is i l k ∙ sym (lowest_row i l k))))
