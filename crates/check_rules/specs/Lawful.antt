-- The rules on a line, by columns of numbers. An entry is formed by its numbers exactly when its request has the way that exists and a channel from
-- 1 to k; then it goes that way, and crosses the spans between its two ends, as the columns of the plan have it. Assumes nothing.
use Rattle.std.specs.Prelude.{◌≡◌, Bool, false, ◌&&◌, List, ℕ, ◌/◌, ◌<◌, min, max, eqb}
use Rattle.std.proofs.Common.{sym, ap, ◌∙◌, arith, eqb-true}
use Rattle.std.proofs.Math.Bool.{not-not, true}
use Rattle.std.proofs.Math.Logic.{⊎_elim}
use Rattle.base_sums.specs.At.{NumbersBelow}
use Rattle.base_sums.specs.Between.{is_between, not_between}
use Rattle.base_sums.specs.Each.{each, each_at, each_of, decided, of_yes, same_test}
use Rattle.base_sums.specs.Sums.{bit, when_le, when_upto, when_no, Σ-ext}
use Rattle.base_sums.specs.Tests.{implied}
use Rattle.paper_book.specs.Bytes.{entry_in}
use Rattle.paper_book.specs.Book as Books
use Rattle.paper_book.specs.Book.{Book, limit, end_a, end_b}
use Rattle.paper_book.specs.Columns.{at}
use Rattle.paper_rules.specs.Ways.{way_from, line_way}
use Rattle.paper_rules.specs.Plans as Plans
use Rattle.paper_rules.specs.Plans.{Plan, kept, way, channel, formed, obeys}
use Rattle.law_row.specs.Row.{covers}
use Rattle.law_line.specs.Line.{Line}
use Rattle.law_line.specs.RowOf.{row_of}
use Rattle.law_line.specs.Ways.{line_way_lem}
use Rattle.law_line.specs.Obeys.{formed_has}
use Rattle.law_line.specs.Laid.{Laid, over_covers}
use Rattle.check_rules.specs.Drawn.{Drawn}
use Rattle.check_rules.specs.Entry.{formed_at, formed_in, PlanLaidOut}
use Rattle.check_rules.specs.Spans.{on_span, FairOn, FairSpans, CanSweep, Decides}
use Rattle.check_rules.specs.SpanBySpan.{formed_or, obeys_formed, obeys_on, on_obeys}

-- the same requests, channels and limit, said in another way
fair_as :
    {count : ℕ} {f g : ℕ → Bool} {c d : ℕ → ℕ} {l m : ℕ} → ((i : ℕ) → i < count → f i ≡ g i) → ((i : ℕ) → i < count → c i ≡ d i) → l ≡ m
    → FairOn count f c l → FairOn count g d m
fair_as {count} {f} {g} same held lim fair = record {
  differ = λ i li j lj ei ej q.
      let h : j < count = omega arith in
      fair.differ i li j lj (same i li ∙ ei) (same j h ∙ ej) (held i li ∙ (q ∙ sym (held j h)));
  within = omega (arith, fair.within, Σ-ext count (λ i. bit (f i)) (λ i. bit (g i)) (λ i l. ap bit (same i l)));
}

-- a plan's columns can be swept: an entry's channel is below 256, whatever the entry is
pub can_sweep :
    {count : ℕ} {a b lo hi held : List ℕ} {crossing : List Bool} {plan : Plan} → NumbersBelow 64 count a → NumbersBelow 64 count b → PlanLaidOut count a b plan lo hi crossing held
    → CanSweep count lo hi crossing held
unfolding channel
can_sweep {a = a} {b} {plan = plan} a_in b_in laid_out = record {
  laid = record {
    upward = λ i l. omega (arith, laid_out.lo_is.is i l, laid_out.hi_is.is i l, when_upto (kept plan i) (min (at a i) (at b i)) (max (at a i) (at b i)) (omega arith));
    in_line = record {
      few = a_in.few;
      below = λ i l. omega (arith, laid_out.hi_is.is i l, when_le (kept plan i) (max (at a i) (at b i)), a_in.below i l, b_in.below i l);
    };
  };
  real = laid_out.crossing_is;
  held = record { few = a_in.few; below = λ i l. omega (arith, laid_out.channel_is.is i l) };
}

module _ {book : Book} (on : Line book) (plan : Plan) where
  -- the entry by its numbers
  formed_at_lem : (i : ℕ) → i < Books.count book → formed_or book plan i ≡ formed_at book.channels (end_a book i) (end_b book i) (plan i)
  unfolding formed_at formed way_from line_way kept way channel
  formed_at_lem i l = rw (not-not (eqb (plan i) 0), line_way_lem on i (plan i / 256) l)

  -- where every request is formed, the kept ones go the way that exists
  formed_laid : ((i : ℕ) → i < Books.count book → formed_or book plan i ≡ true) → Laid book plan
  formed_laid form = record {
    goes = λ i l k. eqb-true _ _ (sym (line_way_lem on i (way plan i) l) ∙ (formed_has book plan i (implied (kept plan i) _ (form i l) k)).0);
  }

module _
    {book : Book} {spans count : ℕ} {limits a b : List ℕ} (drawn : Drawn book spans limits count a b)
    {plan : Plan} {lo hi held : List ℕ} {crossing : List Bool} (laid_out : PlanLaidOut count a b plan lo hi crossing held)
  where
    -- a request by its columns crosses the spans that it crosses on its way
    over_columns : Laid book plan → (s i : ℕ) → i < count → Plans.over book plan i s ≡ on_span lo hi s i
    unfolding covers row_of
    over_columns laid s i l = over_covers drawn.on laid i s (omega (arith, drawn.counted)) ∙ ⊎_elim yes_kept not_kept (decided (kept plan i))
      where
        yes_kept : kept plan i ≡ true → (kept plan i && is_between (min (end_a book i) (end_b book i)) (max (end_a book i) (end_b book i)) s) ≡ on_span lo hi s i
        yes_kept k = rw (laid_out.lo_is.is i l, laid_out.hi_is.is i l, k, drawn.a_is.is i l, drawn.b_is.is i l)

        not_kept : kept plan i ≡ false → (kept plan i && is_between (min (end_a book i) (end_b book i)) (max (end_a book i) (end_b book i)) s) ≡ on_span lo hi s i
        not_kept k =
            rw k (sym (not_between (at lo i) (at hi i) s (omega (arith, laid_out.hi_is.is i l, when_no (kept plan i) (max (at a i) (at b i)) k))))

    -- so a span is fair by the columns exactly when it is fair by the rules
    by_columns : (s : ℕ) → s < spans → Laid book plan
        → FairOn (Books.count book) (λ i. Plans.over book plan i s) (channel plan) (limit book s) → FairOn count (on_span lo hi s) (at held) (at limits s)
    by_columns s l laid fair =
        fair_as (λ i li. over_columns laid s i li) (λ i li. sym (laid_out.channel_is.is i li)) (sym (drawn.limit_is.is s l)) (rw drawn.counted fair)

    by_rules : (s : ℕ) → s < spans → Laid book plan
        → FairOn count (on_span lo hi s) (at held) (at limits s) → FairOn (Books.count book) (λ i. Plans.over book plan i s) (channel plan) (limit book s)
    by_rules s l laid fair =
        rw (← drawn.counted) (fair_as (λ i li. sym (over_columns laid s i li)) laid_out.channel_is.is (drawn.limit_is.is s l) fair)

module _
    {book : Book} {spans channels count : ℕ} {limits a b : List ℕ} (entries : List ℕ) (drawn : Drawn book spans limits count a b) (channels_is : channels ≡ book.channels)
  where
    -- every entry by its numbers, every request by the rules
    entry_rules : (i : ℕ) → i < count → formed_or book (entry_in entries) i ≡ formed_in channels a b entries i
    entry_rules i l =
        formed_at_lem drawn.on (entry_in entries) i (omega (arith, drawn.counted)) ∙ rw (drawn.a_is.is i l, drawn.b_is.is i l, channels_is)

    obeys_entries : obeys book (entry_in entries) ≡ true → each count (formed_in channels a b entries) ≡ true
    obeys_entries e =
        each_of count _ (λ i l. sym (entry_rules i l) ∙ obeys_formed book (entry_in entries) e i (omega (arith, drawn.counted)))

    -- one entry of a wrong form is a no
    pub entries_break : {formed : Bool} → formed ≡ each count (formed_in channels a b entries) → formed ≡ false → false ≡ obeys book (entry_in entries)
    entries_break is e = same_test (λ f. absurd (of_yes f)) (λ o. sym e ∙ (is ∙ obeys_entries o))

    -- else the spans decide
    pub spans_obey :
        {formed answer : Bool} {lo hi held : List ℕ} {crossing : List Bool}
        → formed ≡ each count (formed_in channels a b entries) → formed ≡ true → PlanLaidOut count a b (entry_in entries) lo hi crossing held
        → Decides answer (FairSpans spans limits count lo hi held) → answer ≡ obeys book (entry_in entries)
    spans_obey {answer = answer} {lo} {hi} {held} is all laid_out d = same_test sound whole
      where
        plan : Plan
        plan = entry_in entries

        form : (i : ℕ) → i < Books.count book → formed_or book plan i ≡ true
        form i l = let h : i < count = omega (arith, drawn.counted) in entry_rules i h ∙ each_at count _ (sym is ∙ all) i h

        laid : Laid book plan
        laid = formed_laid drawn.on plan form

        sound : answer ≡ true → obeys book plan ≡ true
        sound e = on_obeys book plan form (λ s l. let h : s < spans = omega (arith, drawn.spans_is) in by_rules drawn laid_out s h laid ((d.sure e).on s h))

        whole : obeys book plan ≡ true → answer ≡ true
        whole e = d.whole (record { on = λ s l. by_columns drawn laid_out s l laid (obeys_on book plan e s (omega (arith, drawn.spans_is))) })
