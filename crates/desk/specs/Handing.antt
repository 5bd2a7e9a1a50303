-- From the planner's promise to the boundary's: what the planner answers fits the packing and the lists, and once it is packed and written the boundary's
-- promise holds. One law for each way out: a refusal, a line, a ring. Assumes nothing.
use Rattle.std.specs.Prelude.{Result, Ok, Err, List, ◌≡◌, refl, ℕ, ◌/◌, ◌≤◌, length, take}
use Rattle.std.proofs.Common.{sym, ap, ◌∙◌, arith}
use Rattle.paper_book.specs.Bytes.{entry_places, price_places}
use Rattle.paper_book.specs.Book.{Book, spans, count}
use Rattle.paper_book.specs.Columns.{at}
use Rattle.paper_book.specs.InWords.{LongEnough}
use Rattle.paper_book.specs.Reading.{done, refused, refused_not_done}
use Rattle.paper_book.specs.Sound.{few_spans}
use Rattle.paper_rules.specs.Operations.{plannable}
use Rattle.page_plan.specs.Fair.{fair_printable}
use Rattle.read_record.specs.declared.Refusal.{Refusal}
use Rattle.read_record.specs.declared.shape.Shape.TheVariants.{Line, Ring}
use Rattle.read_record.specs.Numbers.{number_of}
use Rattle.read_record.specs.Shapes.{code_of}
use Rattle.plan_book.specs.declared.BookPlan.{BookPlan}
use Rattle.plan_book.specs.Promise.{PlanOf, BookPlanned}
use Rattle.plan_book.specs.Cases.{is_refused, is_planned, plan_holds}
use Rattle.desk.specs.Packing.{packed_refusal, packed_plan}
use Rattle.desk.specs.Promise.{EntriesWritten, PricesWritten, Handed, PlanAnswer}
use Rattle.desk.specs.Bounds.{SmallRefusal, SmallPlan, refusal_small, plan_small, long_enough}
use Rattle.desk.specs.Writing.{Fit, front_fit, front_written}

answer_refused :
    {file entries prices : List ℕ} {answer number place : ℕ} → plannable file entries prices ≡ refused number place → answer ≡ packed_refusal number place
    → PlanAnswer file entries prices answer entries prices
answer_refused {answer} {number} {place} is packed =
    record {
      refusal = λ n p e. let same_number : number ≡ n = cc in let same_place : place ≡ p = cc in (rw (same_number, same_place) at packed, refl, refl);
      plan = λ book e. absurd (refused_not_done (sym is ∙ e));
    }

answer_planned :
    {file entries prices entries' prices' : List ℕ} {answer : ℕ} {book : Book} → plannable file entries prices ≡ done book → Handed book answer entries prices entries' prices'
    → PlanAnswer file entries prices answer entries' prices'
answer_planned {book} is handed =
    record {
      refusal = λ n p e. absurd (refused_not_done (sym e ∙ is));
      plan = λ other e. let same : book ≡ other = cc in rw same at handed;
    }

module _ {file : List ℕ} (entries prices : List ℕ) {r : Result BookPlan Refusal} (made : BookPlanned file (length entries / 2) (length prices / 4) r) where
  pub refusal_fits : {refusal : Refusal} → r ≡ Err refusal → SmallRefusal (number_of refusal.row) refusal.place
  refusal_fits says = refusal_small file (length entries / 2) (length prices / 4) _ _ (is_refused made says)

  pub handed_refusal :
      {refusal : Refusal} {answer : ℕ} → r ≡ Err refusal → answer ≡ packed_refusal (number_of refusal.row) refusal.place → PlanAnswer file entries prices answer entries prices
  unfolding plannable entry_places price_places
  handed_refusal says packed = answer_refused (is_refused made says) packed

  module _ {plan : BookPlan} (says : r ≡ Ok plan) where
    abbrev book : Book
    book = (is_planned made says).0

    ours : PlanOf book plan
    ours = (is_planned made says).2

    long : LongEnough book.shape (spans book) (count book) (length entries / 2) (length prices / 4)
    long = long_enough file (length entries / 2) (length prices / 4) book (is_planned made says).1

    pub numbers_fit : SmallPlan plan.earned plan.number plan.cut
    numbers_fit = plan_small ours.sound ours.planned

    whole_entries_fit : Fit 2 plan.count plan.entries entries
    whole_entries_fit =
        let fair = fair_printable {entries = plan.entries} ours.sound (plan_holds ours) ours.planned.fair in
        record { there = omega (arith, ours.entries_end.long, fair.entries_in.few); room = omega (arith, ours.count_is, long.0); whole = λ i h. omega (arith, fair.entries_in.upto i h) }

    whole_prices_fit : plan.shape ≡ Line → Fit 4 plan.spans plan.prices prices
    whole_prices_fit e =
        let on : book.shape ≡ 1 = sym ours.shape_is ∙ ap code_of e in
        record {
          there = omega (arith, (ours.line_prices_end on).long, ours.spans_is, few_spans ours.sound);
          room = omega (arith, ours.spans_is, long.1 on);
          whole = λ j h. omega (arith, (ours.priced on).small j (omega (arith, ours.spans_is)));
        }

    -- written are an entry for each request and a price for each span, which are the front of the planner's lists
    pub count_there : plan.count ≤ 256
    count_there = omega (arith, ours.count_is, ours.sound.count_upto)

    pub spans_there : plan.spans ≤ 64
    spans_there = omega (arith, ours.spans_is, few_spans ours.sound)

    pub entries_fit : Fit 2 (length (take plan.count plan.entries)) (take plan.count plan.entries) entries
    entries_fit = front_fit plan.entries whole_entries_fit.there whole_entries_fit

    pub prices_fit : plan.shape ≡ Line → Fit 4 (length (take plan.spans plan.prices)) (take plan.spans plan.prices) prices
    prices_fit e = front_fit plan.prices (whole_prices_fit e).there (whole_prices_fit e)

    -- both ways out of a plan, once the entries are written
    module _ {answer : ℕ} {entries' : List ℕ} (packed : answer ≡ packed_plan plan.earned plan.number plan.cut) (written : EntriesWritten (length (take plan.count plan.entries)) (at (take plan.count plan.entries)) entries entries') where
      handed :
          {prices' : List ℕ} → (book.shape ≡ 1 → PricesWritten (spans book) (at plan.prices) prices prices') → (book.shape ≡ 2 → prices' ≡ prices)
          → PlanAnswer file entries prices answer entries' prices'
      unfolding plannable entry_places price_places
      handed on_line on_ring =
          answer_planned (is_planned made says).1
          (record {
            plan = at plan.entries;
            earned = plan.earned;
            number = plan.number;
            cut = plan.cut;
            says = packed;
            planned = ours.planned;
            written = rw ours.count_is at (front_written plan.entries whole_entries_fit.there written);
            asked = at plan.prices;
            priced = ours.priced;
            line_prices = on_line;
            ring_prices = on_ring;
          })

      pub handed_line : {prices' : List ℕ} → plan.shape ≡ Line → PricesWritten (length (take plan.spans plan.prices)) (at (take plan.spans plan.prices)) prices prices' → PlanAnswer file entries prices answer entries' prices'
      handed_line e written = handed (λ l. rw ours.spans_is at (front_written plan.prices (whole_prices_fit e).there written)) (λ l. absurd (omega (arith, sym ours.shape_is ∙ ap code_of e)))

      pub handed_ring : plan.shape ≡ Ring → PlanAnswer file entries prices answer entries' prices
      handed_ring e = handed (λ l. absurd (omega (arith, sym ours.shape_is ∙ ap code_of e))) (λ l. refl)
