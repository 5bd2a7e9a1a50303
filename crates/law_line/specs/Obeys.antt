-- What `obeys` says, part by part, in the words of 01 ("Routes and a plan that obeys the rules"), for lines and rings. Each field of the
-- record is a part of the test read as a statement, and the parts together give the test back. Assumes nothing.
use Rattle.std.specs.Prelude.{◌≡◌, ◌||◌, ℕ, ◌≤◌, ◌<◌, ltb, eqb}
use Rattle.std.proofs.Math.Bool.{true, not}
use Rattle.std.proofs.Common.{⊎_elim}
use borrow.Author.Tests.{ltb-true, lt-ltb, leb-true, le-leb, eqb-true, eq-eqb}
use Rattle.std.proofs.Math.Dec.{leb}
use Rattle.base_sums.specs.Each.{each, each_at, each_of, some_at, some_of, both, left_of, right_of, same_or_not}
use Rattle.paper_book.specs.Book.{Book, spans, limit, count}
use Rattle.paper_rules.specs.Ways.{way_exists}
use Rattle.paper_rules.specs.Plans.{Plan, kept, way, channel, over, load, share, formed, apart, obeys}
use Rattle.base_sums.specs.Tests.{implied, implies, implied_by_both, both_imply, all_three}

-- two kept requests crossing a common span have different channels
abbrev pub ChannelsDiffer : Book → Plan → Type 0
ChannelsDiffer book plan =
    (i j s : ℕ) → i < count book → j < count book → s < spans book → over book plan i s ≡ true → over book plan j s ≡ true
    → (i ≡ j → ⊥) → channel plan i ≡ channel plan j → ⊥

pub record Fair (book : Book) (plan : Plan) : Type 0 where
  -- each kept request has a way that exists and a channel from 1 to k
  pub has_way : (i : ℕ) → i < count book → kept plan i ≡ true → way_exists book i (way plan i) ≡ true
  pub channel_from : (i : ℕ) → i < count book → kept plan i ≡ true → 1 ≤ channel plan i
  pub channel_upto : (i : ℕ) → i < count book → kept plan i ≡ true → channel plan i ≤ book.channels
  pub channels_differ : ChannelsDiffer book plan
  -- no span is crossed by more kept requests than its limit
  pub within_limits : (s : ℕ) → s < spans book → load book plan s ≤ limit book s

module _ (book : Book) (plan : Plan) where
  -- two kept requests share a span exactly when there is a span that both cross
  pub share_of : (i j s : ℕ) → s < spans book → over book plan i s ≡ true → over book plan j s ≡ true → share book plan i j ≡ true
  unfolding share
  share_of i j s l oi oj = some_of (spans book) _ s l (both _ _ oi oj)

  pub share_at : (i j : ℕ) → share book plan i j ≡ true → (s : ℕ) × (s < spans book) × (over book plan i s ≡ true) × (over book plan j s ≡ true)
  unfolding share
  share_at i j e = let w = some_at (spans book) _ e in (w.0, w.1, left_of _ _ w.2, right_of (over book plan i w.0) _ w.2)

  -- a way that exists and a channel from 1 to k
  pub formed_has : (i : ℕ) → formed book plan i ≡ true → (way_exists book i (way plan i) ≡ true) × (1 ≤ channel plan i) × (channel plan i ≤ book.channels)
  unfolding formed
  formed_has i e =
      let numbered = right_of (way_exists book i (way plan i)) _ e in
      (left_of _ _ e, ltb-true _ _ (left_of _ _ numbered), leb-true _ _ (right_of (ltb 0 (channel plan i)) _ numbered))

  pub obeys_fair : obeys book plan ≡ true → Fair book plan
  unfolding obeys apart
  obeys_fair e = record {
    has_way = λ i l k. (formed_has i (form i l k)).0;
    channel_from = λ i l k. (formed_has i (form i l k)).1;
    channel_upto = λ i l k. (formed_has i (form i l k)).2;
    channels_differ = λ i j s li lj ls oi oj ne q. ne (eqb-true i j (implied_by_both _ _ _ (pair i j li lj) (share_of i j s ls oi oj) (eq-eqb _ _ q)));
    within_limits = λ s l. leb-true _ _ (each_at (spans book) _ parts.2 s l);
  }
    where
      parts :
          (each (count book) (λ i. not (kept plan i) || formed book plan i) ≡ true)
          × (each (count book) (λ i. each (count book) (λ j. apart book plan i j)) ≡ true)
          × (each (spans book) (λ s. leb (load book plan s) (limit book s)) ≡ true)
      parts = all_three _ _ _ e

      form : (i : ℕ) → i < count book → kept plan i ≡ true → formed book plan i ≡ true
      form i l k = implied (kept plan i) _ (each_at (count book) _ parts.0 i l) k

      pair : (i j : ℕ) → i < count book → j < count book → apart book plan i j ≡ true
      pair i j li lj = each_at (count book) _ (each_at (count book) _ parts.1 i li) j lj

  pub fair_obeys : Fair book plan → obeys book plan ≡ true
  unfolding obeys formed apart
  fair_obeys f =
      both _ _ (both _ _ (each_of (count book) _ form) (each_of (count book) _ (λ i li. each_of (count book) _ (λ j lj. pair i j li lj))))
      (each_of (spans book) _ (λ s l. le-leb _ _ (f.within_limits s l)))
    where
      form : (i : ℕ) → i < count book → (not (kept plan i) || formed book plan i) ≡ true
      form i l =
          implies (kept plan i) _
          (λ k. both _ _ (f.has_way i l k) (both _ _ (lt-ltb _ _ (f.channel_from i l k)) (le-leb _ _ (f.channel_upto i l k))))

      differ : (i j : ℕ) → i < count book → j < count book → share book plan i j ≡ true → (i ≡ j → ⊥) → channel plan i ≡ channel plan j → ⊥
      differ i j li lj e = let w = share_at i j e in f.channels_differ i j w.0 li lj w.1 w.2 w.3

      pair : (i j : ℕ) → i < count book → j < count book → apart book plan i j ≡ true
      pair i j li lj =
          both_imply (eqb i j) (share book plan i j) _
          (λ e q. ⊎_elim (λ same. eq-eqb i j same) (λ ne. absurd (differ i j li lj e ne (eqb-true _ _ q))) (same_or_not i j))
