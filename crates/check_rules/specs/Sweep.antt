-- The sweep along a line, for clashes. Requests have their turns by first node, then by number, and of each channel only the end of its latest connection
-- is remembered. One that begins before that end shares its first span with the latest; one that does not shares none with any earlier one on the
-- channel, since none of them ends later. Within a node the order does not matter. Assumes nothing.
use Rattle.std.specs.Prelude.{Bool, true, List, ◌≡◌, refl, ℕ, ◌+◌, ◌≤◌, ◌<◌, set, replicate}
use Rattle.std.proofs.Common.{⊎_elim, sym, ◌∙◌, arith, ltb-true, lt-ltb}
use Rattle.base_sums.specs.At.{flag}
use Rattle.base_sums.specs.Between.{is_between_lem, between_from, between_upto}
use Rattle.base_sums.specs.Each.{less_or_not, same_or_not, not_above}
use Rattle.paper_book.specs.Columns.{at}
use Rattle.plan_channels.specs.Had.{Had, SameHad, had_pass, had_next, had_older, had_apart}
use Rattle.plan_channels.specs.Latest.{Latest, latest_start, latest_same, latest_more}
use Rattle.plan_channels.specs.Lists.{Leads}
use Rattle.check_rules.specs.Spans.{on_span, ApartSpans, CanSweep}

-- it is the turn of number i at node v: of those that cross a span and had their turn no two clash, and where the latest on each channel ends is remembered
pub record Swept (count : ℕ) (lo hi : List ℕ) (crossing : List Bool) (channels ends : List ℕ) (v i : ℕ) : Type 0 where
  pub latest : Latest 256 count lo hi crossing channels ends v i
  pub apart :
      (j k s : ℕ) → Had count lo crossing v i j → Had count lo crossing v i k → (j ≡ k → ⊥)
      → on_span lo hi s j ≡ true → on_span lo hi s k ≡ true → at channels j ≡ at channels k → ⊥

-- two requests on one channel cross span s
pub record Clash (count : ℕ) (lo hi channels : List ℕ) (s : ℕ) : Type 0 where
  pub one : ℕ
  pub other : ℕ
  pub one_low : one < count
  pub other_low : other < count
  pub differ : one ≡ other → ⊥
  pub one_over : on_span lo hi s one ≡ true
  pub other_over : on_span lo hi s other ≡ true
  pub same : at channels one ≡ at channels other

-- what the turns at node v come to: it is the turn of the next node, or there is a clash on the span after v
pub record Passed (v count : ℕ) (lo hi : List ℕ) (crossing : List Bool) (channels : List ℕ) (answer : Bool) (ends : List ℕ) : Type 0 where
  pub on : answer ≡ true → Swept count lo hi crossing channels ends (v + 1) 0
  pub stop : (answer ≡ true → ⊥) → Clash count lo hi channels v

pub clash_not_apart : {spans count s : ℕ} {lo hi channels : List ℕ} → s < spans → Clash count lo hi channels s → ApartSpans spans count lo hi channels → ⊥
clash_not_apart l c apart =
    ⊎_elim (λ (h : c.one < c.other). apart.on _ l c.other c.other_low c.one h c.other_over c.one_over (sym c.same))
    (λ (h : c.other ≤ c.one). apart.on _ l c.one c.one_low c.other (later h) c.one_over c.other_over c.same) (less_or_not c.one c.other)
  where
    later : c.other ≤ c.one → c.other < c.one
    later h = not_above (λ g. c.differ (omega arith))

module _ {count : ℕ} {lo hi : List ℕ} {crossing : List Bool} {channels : List ℕ} (can : CanSweep count lo hi crossing channels) where
  -- no turn was had yet
  pub swept_start : Swept count lo hi crossing channels (replicate 256 0) 0 0
  swept_start = record { latest = latest_start; apart = λ j k s h. absurd (omega (arith, h.early)) }

  same_turn :
      {ends : List ℕ} {v i w p : ℕ} → SameHad count lo crossing v i w p → Swept count lo hi crossing channels ends v i → Swept count lo hi crossing channels ends w p
  same_turn same was = record { latest = latest_same same was.latest; apart = λ j k s hj hk. was.apart j k s (same.back j hj) (same.back k hk) }

  -- the numbers from i to p are passed over: none of them crosses a span and begins at v
  pub swept_pass : {ends : List ℕ} {v i p : ℕ} → Swept count lo hi crossing channels ends v i → Leads count i v lo crossing p → Swept count lo hi crossing channels ends v p
  swept_pass was m = same_turn (had_pass can.laid.in_line.few m) was

  -- every number had its turn at node v
  pub swept_next : {ends : List ℕ} {v i : ℕ} → Swept count lo hi crossing channels ends v i → count ≤ i → i ≤ 256 → Swept count lo hi crossing channels ends (v + 1) 0
  swept_next was past upto = same_turn (had_next can.laid.in_line.few past upto) was

  -- after the last span's turn all that cross a span had theirs
  pub swept_all : {ends : List ℕ} {spans : ℕ} → Swept count lo hi crossing channels ends spans 0 → ApartSpans spans count lo hi channels
  swept_all {spans = spans} was = record { on = λ s l i li j lj oi oj q. was.apart i j s (had s l i li oi) (had s l j (omega arith) oj) (λ e. omega arith) oi oj q }
    where
      had : (s : ℕ) → s < spans → (i : ℕ) → i < count → on_span lo hi s i ≡ true → Had count lo crossing spans 0 i
      had s l i li oi =
          let from = between_from (at lo i) (at hi i) s oi in
          let before = between_upto (at lo i) (at hi i) s oi in
          record { low = li; real = can.real i li ∙ lt-ltb (at lo i) (at hi i) (omega arith); early = omega (arith, can.laid.in_line.few) }

  -- number i begins at node v, whose turn it is
  module _
      {ends : List ℕ} {v i : ℕ} (was : Swept count lo hi crossing channels ends v i) (l : i < count) (is : flag crossing i ≡ true) (begins : at lo i ≡ v)
    where
      past : v < at hi i
      past = let up = ltb-true (at lo i) (at hi i) (sym (can.real i l) ∙ is) in omega arith

      crosses : on_span lo hi v i ≡ true
      crosses = is_between_lem (at lo i) (at hi i) v (omega arith) past

      -- the latest on its channel reaches past v
      pub swept_clash : v < at ends (at channels i) → Clash count lo hi channels v
      swept_clash h = record {
        one = j;
        other = i;
        one_low = had.low;
        other_low = l;
        differ = had_apart begins had;
        one_over = is_between_lem (at lo j) (at hi j) v (omega (arith, had.early, can.laid.in_line.few)) (omega (arith, last.3));
        other_over = crosses;
        same = last.2;
      }
        where
          last : (j : ℕ) × Had count lo crossing v i j × (at channels j ≡ at channels i) × (at hi j ≡ at ends (at channels i))
          last = was.latest.by (at channels i) (omega arith)

          j : ℕ
          j = last.0

          had : Had count lo crossing v i j
          had = last.1

      -- it ends by v
      module _ (ended : at ends (at channels i) ≤ v) where
        -- an earlier one on the channel ended by v, and crosses no span with i
        earlier_ends : (j : ℕ) → Had count lo crossing v i j → at channels j ≡ at channels i → at hi j ≤ v
        earlier_ends j h q = let upto : at hi j ≤ at ends (at channels i) = rw q at (was.latest.upto j h) in omega arith

        no_span : (j s : ℕ) → Had count lo crossing v i j → on_span lo hi s j ≡ true → on_span lo hi s i ≡ true → at channels j ≡ at channels i → ⊥
        no_span j s h oj oi q = omega (arith, earlier_ends j h q, between_upto (at lo j) (at hi j) s oj, between_from (at lo i) (at hi i) s oi)

        pub swept_more : Swept count lo hi crossing channels (set ends (at channels i) (at hi i)) v (i + 1)
        swept_more = record {
          latest = latest_more was.latest few l is begins (can.held.below i l) (omega (arith, past)) refl (λ j ne. refl);
          apart = apart;
        }
          where
            few : count ≤ 256
            few = can.laid.in_line.few

            older : {j : ℕ} → (j ≡ i → ⊥) → Had count lo crossing v (i + 1) j → Had count lo crossing v i j
            older = had_older few l

            apart :
                (j k s : ℕ) → Had count lo crossing v (i + 1) j → Had count lo crossing v (i + 1) k → (j ≡ k → ⊥)
                → on_span lo hi s j ≡ true → on_span lo hi s k ≡ true → at channels j ≡ at channels k → ⊥
            apart j k s hj hk ne oj ok q =
                ⊎_elim
                (λ (e : j ≡ i). no_span k s (older (λ f. ne (e ∙ sym f)) hk) ok (rw e at oj) (sym (rw e at q)))
                (λ nj. ⊎_elim (λ (e : k ≡ i). no_span j s (older nj hj) oj (rw e at ok) (rw e at q)) (λ nk. was.apart j k s (older nj hj) (older nk hk) ne oj ok q) (same_or_not k i))
                (same_or_not j i)
