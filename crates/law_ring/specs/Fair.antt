-- A plan that obeys the rules of the line which a cut leaves obeys the ring's own rules, and earns the same there: the ways exist on the ring, a span that
-- two connections share is not the cut and so a place that they share on the line, and a span's load is its place's. Assumes nothing.
use Rattle.std.specs.Prelude.{◌≡◌, refl, Bool, false, ◌&&◌, ◌||◌, ℕ, ◌+◌, ◌≤◌, ◌<◌, eqb}
use Rattle.std.proofs.Math.Path.{sym, ap}
use Rattle.std.proofs.Common.{◌∙◌, arith, eq-eqb}
use Rattle.std.proofs.Math.Bool.{true}
use Rattle.std.proofs.Math.Logic.{⊎_elim}
use Rattle.base_sums.specs.Each.{same_or_not, decided, of_yes}
use Rattle.base_sums.specs.Tests.{when_so}
use Rattle.base_sums.specs.Sums.{Σ, when, bit, Σ-ext, Σ-zero}
use Rattle.paper_book.specs.Book.{Book, is_ring, spans, limit, count}
use Rattle.paper_rules.specs.Ways.{way_exists}
use Rattle.paper_rules.specs.Plans.{Plan, kept, way, channel, over, load, earnings, number_kept, obeys}
use Rattle.paper_rules.specs.Cuts.{steps, span_at, cut_line}
use Rattle.law_line.specs.Obeys.{ChannelsDiffer, Fair, obeys_fair, fair_obeys}
use Rattle.law_ring.specs.Ring.{Ring}
use Rattle.law_ring.specs.Turn.{span_of_place}
use Rattle.law_ring.specs.CutLine.{ring_spans, inside, cut_spans, cut_count, cut_limit, cut_profit}
use Rattle.law_ring.specs.Crossing.{crosses_place, not_across_cut}

-- the sums over the same requests, whatever their number is called
sums_same : {m n : ℕ} (f g : ℕ → ℕ) → m ≡ n → ((i : ℕ) → i < n → f i ≡ g i) → Σ m f ≡ Σ n g
sums_same {m} {n} f g e h = ap (λ (k : ℕ). Σ k f) e ∙ Σ-ext n f g h

-- a way that exists under a condition exists where one alternative always holds
loosened : (p q s c d c' d' : Bool) → s ≡ true → ((p && c) || (q && d)) ≡ true → ((p && (s || c')) || (q && (s || d'))) ≡ true
loosened true q true c d c' d' r e = refl
loosened false true true c d c' d' r e = refl
loosened false false true c d c' d' r e = e
loosened p q false c d c' d' r e = absurd (of_yes r)

module _ {book : Book} (on : Ring book) (j : ℕ) where
  pub cut_earnings : (plan : Plan) → earnings (cut_line book j) plan ≡ earnings book plan
  unfolding earnings
  cut_earnings plan = sums_same _ _ (cut_count on j) (λ i l. ap (λ (p : ℕ). when (kept plan i) p) (cut_profit on j i l))

  pub cut_number : (plan : Plan) → number_kept (cut_line book j) plan ≡ number_kept book plan
  unfolding number_kept
  cut_number plan = sums_same _ _ (cut_count on j) (λ i l. refl)

  -- on a ring both ways exist
  ring_way : (i w : ℕ) → way_exists (cut_line book j) i w ≡ true → way_exists book i w ≡ true
  unfolding way_exists
  ring_way i w e = loosened (eqb w 1) (eqb w 2) (is_ring book) _ _ _ _ (eq-eqb _ _ on.ring) e

  module _ (cut : j < spans book) (plan : Plan) (fair : Fair (cut_line book j) plan) where
    known : (i : ℕ) → i < count book → i < count (cut_line book j)
    known i l = omega (arith, cut_count on j)

    over_place : (i t : ℕ) → i < count book → t + 1 < book.nodes → over book plan i (span_at book.nodes j t) ≡ over (cut_line book j) plan i t
    unfolding over
    over_place i t l h = when_so (kept plan i) (λ k. crosses_place on j cut i (way plan i) l (fair.has_way i (known i l) k) t h)

    over_cut : (i : ℕ) → i < count book → over book plan i j ≡ false
    unfolding over
    over_cut i l = ⊎_elim (λ k. ap (λ (t : Bool). kept plan i && t) (not_across_cut on j cut i (way plan i) l (fair.has_way i (known i l) k)) ∙ rw k) (λ k. rw k) (decided (kept plan i))

    -- a span that somebody crosses is not the cut
    not_the_cut : (i s : ℕ) → i < count book → s < spans book → over book plan i s ≡ true → (s ≡ j → ⊥)
    not_the_cut i s l h o q = of_yes (sym (over_cut i l) ∙ ap (λ (k : ℕ). over book plan i k) (sym q) ∙ o)

    load_place : (t : ℕ) → t + 1 < book.nodes → load book plan (span_at book.nodes j t) ≡ load (cut_line book j) plan t
    unfolding load
    load_place t h = sym (sums_same _ _ (cut_count on j) (λ i l. ap bit (sym (over_place i t l h))))

    load_cut : load book plan j ≡ 0
    unfolding load
    load_cut = Σ-zero (count book) _ (λ i l. ap bit (over_cut i l))

    ring_fair : Fair book plan
    unfolding cut_line
    ring_fair =
        record {
          has_way = λ i l k. ring_way i (way plan i) (fair.has_way i (known i l) k);
          channel_from = λ i l k. fair.channel_from i (known i l) k;
          channel_upto = λ i l k. upto i l k;
          channels_differ = λ i i' s l l' h o o' n. differ i i' s l l' h o o' n;
          within_limits = λ s h. ⊎_elim (λ q. rw q (omega (arith, load_cut))) (λ n. within s h n) (same_or_not s j);
        }
      where
        upto : (i : ℕ) → i < count book → kept plan i ≡ true → channel plan i ≤ book.channels
        upto i l k = fair.channel_upto i (known i l) k

        differ : ChannelsDiffer book plan
        differ i i' s l l' h o o' =
            let p = span_of_place book.nodes j (inside on j cut) s (omega (arith, ring_spans on)) (not_the_cut i s l h o) in
            fair.channels_differ i i' (steps book.nodes (j + 1) s) (known i l) (known i' l') (omega (arith, cut_spans on j, p.0))
            (sym (over_place i _ l p.0) ∙ ap (λ (k : ℕ). over book plan i k) p.1 ∙ o)
            (sym (over_place i' _ l' p.0) ∙ ap (λ (k : ℕ). over book plan i' k) p.1 ∙ o')

        within : (s : ℕ) → s < spans book → (s ≡ j → ⊥) → load book plan s ≤ limit book s
        within s h n =
            let p = span_of_place book.nodes j (inside on j cut) s (omega (arith, ring_spans on)) n in
            omega (arith, ap (load book plan) p.1, ap (limit book) p.1, load_place _ p.0, cut_limit on j _ p.0, fair.within_limits (steps book.nodes (j + 1) s) (omega (arith, cut_spans on j, p.0)))

  pub cut_plan_obeys : j < spans book → (plan : Plan) → obeys (cut_line book j) plan ≡ true → obeys book plan ≡ true
  cut_plan_obeys cut plan e = fair_obeys book plan (ring_fair cut plan (obeys_fair (cut_line book j) plan e))
