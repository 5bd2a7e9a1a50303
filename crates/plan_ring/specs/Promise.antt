-- What planning a ring promises, in the words of 01. Assumes nothing.
use Rattle.std.specs.Prelude.{true, List, ◌≡◌, ℕ, length}
use Rattle.base_sums.specs.Vacant.{Vacant}
use Rattle.base_columns.specs.declared.Columns.{Columns}
use Rattle.paper_book.specs.Book.{Book, count}
use Rattle.paper_book.specs.Columns.{at, Holds}
use Rattle.paper_rules.specs.Plans.{obeys, number_kept, earnings, Best}
use Rattle.paper_rules.specs.Channels.{by_rule}
use Rattle.paper_rules.specs.Cuts as Cuts
use Rattle.paper_rules.specs.Cuts.{cut_line}
use Rattle.law_ring.specs.Ring.{Ring}
use Rattle.plan_ring.specs.declared.RingPlan.{RingPlan}

-- the columns hold a ring's accepted book
pub record RingColumns (nodes count : ℕ) (limits a b profits : List ℕ) : Type 0 where
  pub book : Book
  pub ring : Ring book
  pub nodes_is : nodes ≡ book.nodes
  pub holds : Holds book count limits a b profits

-- and these are its channels
pub record CanPlanRing (nodes channels count : ℕ) (limits a b profits : List ℕ) : Type 0 where
  pub columns : RingColumns nodes count limits a b profits
  pub channels_is : channels ≡ columns.book.channels

-- lent columns that hold one
abbrev pub RingLent : Columns → Type 0
RingLent c = RingColumns (length c.limits.now) (length c.a.now) c.limits.now c.a.now c.b.now c.profit.now

abbrev pub PlannableRing : ℕ → Columns → Type 0
PlannableRing channels c = CanPlanRing (length c.limits.now) channels (length c.a.now) c.limits.now c.a.now c.b.now c.profit.now

-- The cut is the lowest-numbered span whose line has the greatest best earnings; the plan is best on that line, with its channels, and obeys the ring's own
-- rules; earnings and number kept are sums over its entries, and none stands past the requests. (That there is a plan, and never refusal 15, `plan_ring`
-- says beside it.)
pub record RingPlanned (book : Book) (plan : RingPlan) : Type 0 where
  pub earned_is : plan.earned ≡ earnings book (at plan.entries)
  pub number_is : plan.number ≡ number_kept book (at plan.entries)
  pub cut_is : plan.cut ≡ Cuts.cut book
  pub best_plan : Best (cut_line book (Cuts.cut book)) (at plan.entries)
  pub by_rule : by_rule (cut_line book (Cuts.cut book)) (at plan.entries) ≡ true
  pub fair : obeys book (at plan.entries) ≡ true
  pub entries_end : Vacant 0 (count book) 256 plan.entries
