-- What planning a line promises, in the words of 01. Assumes nothing.
use Rattle.std.specs.Prelude.{true, List, ◌≡◌, ℕ, length}
use Rattle.base_sums.specs.Vacant.{Vacant}
use Rattle.base_columns.specs.declared.Columns.{Columns}
use Rattle.paper_book.specs.Book as Books
use Rattle.paper_book.specs.Book.{Book}
use Rattle.paper_book.specs.Columns.{at}
use Rattle.paper_rules.specs.Plans.{number_kept, earnings, Best}
use Rattle.paper_rules.specs.Channels.{by_rule}
use Rattle.paper_rules.specs.Operations.{Priced}
use Rattle.law_line.specs.HeldLine.{HeldLine}
use Rattle.plan_line.specs.declared.LinePlan.{LinePlan}

-- the columns hold a line's accepted book
pub record LineColumns (spans count : ℕ) (limits a b profits : List ℕ) : Type 0 where
  pub book : Book
  pub held : HeldLine book spans count limits a b profits

-- and these are its channels
pub record CanPlanLine (spans channels count : ℕ) (limits a b profits : List ℕ) : Type 0 where
  pub columns : LineColumns spans count limits a b profits
  pub channels_is : channels ≡ columns.book.channels

-- lent columns that hold one
abbrev pub LineLent : Columns → Type 0
LineLent c = LineColumns (length c.limits.now) (length c.a.now) c.limits.now c.a.now c.b.now c.profit.now

abbrev pub PlannableLine : ℕ → Columns → Type 0
PlannableLine channels c = CanPlanLine (length c.limits.now) channels (length c.a.now) c.limits.now c.a.now c.b.now c.profit.now

-- A best plan with the channels of the rule; earnings and number kept are sums over its entries; prices up to 1,000,000 at which the checker accepts it.
-- No entry stands past the requests and no price past the spans. (That there is a plan, and never refusal 15, `plan_line` says beside it.)
pub record LinePlanned (book : Book) (plan : LinePlan) : Type 0 where
  pub earned_is : plan.earned ≡ earnings book (at plan.entries)
  pub number_is : plan.number ≡ number_kept book (at plan.entries)
  pub best_plan : Best book (at plan.entries)
  pub by_rule : by_rule book (at plan.entries) ≡ true
  pub priced : Priced book (at plan.entries) (at plan.prices)
  pub entries_end : Vacant 0 (Books.count book) 256 plan.entries
  pub prices_end : Vacant 0 (Books.spans book) 64 plan.prices
