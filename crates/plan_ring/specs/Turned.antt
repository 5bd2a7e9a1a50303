-- A ring's columns, turned from the node after cut j, are those of the line which the cut leaves, so the line planner's promise speaks of that line.
-- Assumes nothing.
use Rattle.std.specs.Prelude.{List, true, ◌≡◌, ℕ, ◌+◌, ◌-◌, ◌≤◌, ◌<◌, length}
use Rattle.std.proofs.Math.Path.{refl, subst}
use Rattle.std.proofs.Common.{◌∙◌, arith}
use Rattle.base_sums.specs.Vacant.{Vacant}
use Rattle.paper_book.specs.Columns.{at, Holds, few, a_node, b_node}
use Rattle.paper_rules.specs.Plans.{Best}
use Rattle.paper_rules.specs.Channels.{by_rule}
use Rattle.paper_rules.specs.Best.{best}
use Rattle.paper_rules.specs.Cuts as Cuts
use Rattle.paper_rules.specs.Cuts.{steps, span_at, cut_line, cut_best}
use Rattle.law_line.specs.HeldLine.{line_held}
use Rattle.law_ring.specs.CutLine.{ring_spans, cut_count, cut_line_lem}
use Rattle.law_ring.specs.Choice.{cut_in}
use Rattle.law_ring.specs.Fair as F
use Rattle.law_ring.specs.TurnedColumns.{turned_holds}
use Rattle.plan_turn.specs.Nodes.{Nodes, Turned}
use Rattle.plan_line.specs.declared.LinePlan.{LinePlan}
use Rattle.plan_turn.specs.Lent.{Columns, CutLine}
use Rattle.plan_line.specs.Promise.{LineLent, PlannableLine, LineColumns, CanPlanLine, LinePlanned}
use Rattle.plan_ring.specs.Promise.{RingColumns, RingLent, RingPlanned}

module _ {nodes count : ℕ} {limits a b profits : List ℕ} (w : RingColumns nodes count limits a b profits) where
  pub few_nodes : nodes ≤ 64
  few_nodes = omega (arith, w.nodes_is, w.ring.sound.nodes_upto)

  pub some_nodes : 3 ≤ nodes
  some_nodes = omega (arith, w.nodes_is, w.ring.sound.ring_from w.ring.ring)

  -- the cut that is chosen is a span of the ring
  pub chosen_in : {j : ℕ} → j ≡ Cuts.cut w.book → j < nodes
  chosen_in e = omega (arith, e, cut_in w.ring, ring_spans w.ring, w.nodes_is)

  -- both columns of ends can be turned
  pub can_turn : (j : ℕ) → j < nodes → Nodes nodes j count a × Nodes nodes j count b
  can_turn j l = (ends (a_node w.ring.sound w.holds), ends (b_node w.ring.sound w.holds))
    where
      ends : {column : List ℕ} → ((i : ℕ) → i < count → at column i < w.book.nodes) → Nodes nodes j count column
      ends below =
          record { cut_in = l; n_upto = few_nodes; are_nodes = record { few = few w.ring.sound w.holds; below = λ i h. omega (arith, below i h, w.nodes_is) } }

  module _ (j : ℕ) (cut : j < nodes) {limits' a' b' : List ℕ} (turned : Turned nodes j count limits a b limits' a' b') where
    turned_line : Holds (cut_line w.book j) count limits' a' b' profits
    turned_line =
        turned_holds w.ring j (omega (arith, w.nodes_is)) w.holds
        (λ t l. subst (λ (n : ℕ). at limits' t ≡ at limits (span_at n j t)) w.nodes_is (turned.limits_turned.is t (omega (arith, w.nodes_is))))
        (λ i l. subst (λ (n : ℕ). at a' i ≡ steps n (j + 1) (at a i)) w.nodes_is (turned.a_turned.is i l))
        (λ i l. subst (λ (n : ℕ). at b' i ≡ steps n (j + 1) (at b i)) w.nodes_is (turned.b_turned.is i l))

    pub cut_columns : LineColumns (nodes - 1) count limits' a' b' profits
    unfolding cut_line
    cut_columns =
        record {
          book = cut_line w.book j;
          held = line_held (cut_line_lem w.ring j (omega (arith, w.nodes_is, ring_spans w.ring))) w.nodes_is turned_line;
        }

    pub cut_best_lem : cut_best w.book j ≡ best cut_columns.book
    unfolding cut_columns cut_best
    cut_best_lem = refl

    -- what the line planner says of the turned columns, it says of the cut's line
    pub cut_earned : {r : ℕ} → ((v : LineColumns (nodes - 1) count limits' a' b' profits) → r ≡ best v.book) → r ≡ cut_best w.book j
    unfolding cut_columns cut_best
    cut_earned says = says cut_columns

    -- with the ring's channels
    pub cut_plannable : {channels : ℕ} → channels ≡ w.book.channels → CanPlanLine (nodes - 1) channels count limits' a' b' profits
    unfolding cut_columns cut_line
    cut_plannable its = record { columns = cut_columns; channels_is = its }

    pub cut_planned :
        {channels : ℕ} {plan : LinePlan} → channels ≡ w.book.channels
        → ((v : CanPlanLine (nodes - 1) channels count limits' a' b' profits) → LinePlanned v.columns.book plan) → j ≡ Cuts.cut w.book
        → RingPlanned w.book (record { earned = plan.earned; number = plan.number; cut = j; entries = plan.entries })
    unfolding cut_columns cut_plannable
    cut_planned {plan} its says chosen =
        let p : LinePlanned (cut_line w.book j) plan = says (cut_plannable its) in
        record {
          earned_is = p.earned_is ∙ F.cut_earnings w.ring j (at plan.entries);
          number_is = p.number_is ∙ F.cut_number w.ring j (at plan.entries);
          cut_is = chosen;
          best_plan = subst (λ (k : ℕ). Best (cut_line w.book k) (at plan.entries)) chosen p.best_plan;
          by_rule = subst (λ (k : ℕ). by_rule (cut_line w.book k) (at plan.entries) ≡ true) chosen p.by_rule;
          fair = F.cut_plan_obeys w.ring j (omega (arith, w.nodes_is, ring_spans w.ring)) (at plan.entries) p.best_plan.fair;
          entries_end = subst (λ (n : ℕ). Vacant 0 n 256 plan.entries) (cut_count w.ring j) p.entries_end;
        }

-- ---- the same of lent columns

module _ {ring : Columns} (w : RingLent ring) (j : ℕ) (cut : j < length ring.limits.now) {line : Columns} (l : CutLine ring j line) where
  pub cut_lent : LineLent line
  cut_lent = rw (l.spans_is, l.count_is, l.profit_is) (cut_columns w j cut l.turned)

  pub lent_earned : {r : ℕ} → ((v : LineLent line) → r ≡ best v.book) → r ≡ cut_best w.book j
  lent_earned says = cut_earned w j cut l.turned (rw (l.spans_is, l.count_is, l.profit_is) at says)

  pub lent_plannable : {channels : ℕ} → channels ≡ w.book.channels → PlannableLine channels line
  lent_plannable its = rw (l.spans_is, l.count_is, l.profit_is) (cut_plannable w j cut l.turned its)
