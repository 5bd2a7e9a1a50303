-- A plan whose kept requests are formed obeys the rules exactly when, on every span, no two kept requests that cross it have the same channel and
-- they are at most its limit: two kept requests share a span where there is one that both cross. For lines and rings. Assumes nothing.
use Rattle.std.specs.Prelude.{◌≡◌, Bool, not, ◌||◌, ℕ, ◌<◌}
use Rattle.std.proofs.Common.{sym, ⊎_elim, arith}
use Rattle.std.proofs.Math.Bool.{true}
use Rattle.base_sums.specs.Each.{each_at, less_or_not}
use Rattle.base_sums.specs.Tests.{implied, all_three}
use Rattle.paper_book.specs.Book.{Book, spans, limit, count}
use Rattle.paper_rules.specs.Plans.{Plan, kept, channel, over, load, formed, obeys}
use Rattle.law_line.specs.Obeys.{ChannelsDiffer, formed_has, obeys_fair, fair_obeys}
use Rattle.check_rules.specs.Spans.{FairOn}

module _ (book : Book) (plan : Plan) where
  -- request i is not kept, or it has a way that exists and a channel from 1 to k
  abbrev pub formed_or : ℕ → Bool
  formed_or i = not (kept plan i) || formed book plan i

  pub obeys_formed : obeys book plan ≡ true → (i : ℕ) → i < count book → formed_or i ≡ true
  unfolding obeys
  obeys_formed e i l = each_at (count book) formed_or (all_three _ _ _ e).0 i l

  pub obeys_on : obeys book plan ≡ true → (s : ℕ) → s < spans book → FairOn (count book) (λ i. over book plan i s) (channel plan) (limit book s)
  unfolding load
  obeys_on e s l =
      let fair = obeys_fair book plan e in
      record {
        differ = λ i li j lj oi oj. fair.channels_differ i j s li (omega arith) l oi oj (λ q. omega arith);
        within = fair.within_limits s l;
      }

  pub on_obeys :
      ((i : ℕ) → i < count book → formed_or i ≡ true) → ((s : ℕ) → s < spans book → FairOn (count book) (λ i. over book plan i s) (channel plan) (limit book s))
      → obeys book plan ≡ true
  unfolding load
  on_obeys form on = fair_obeys book plan (record {
    has_way = λ i l k. (formed_has book plan i (here i l k)).0;
    channel_from = λ i l k. (formed_has book plan i (here i l k)).1;
    channel_upto = λ i l k. (formed_has book plan i (here i l k)).2;
    channels_differ = apart;
    within_limits = λ s l. (on s l).within;
  })
    where
      here : (i : ℕ) → i < count book → kept plan i ≡ true → formed book plan i ≡ true
      here i l k = implied (kept plan i) _ (form i l) k

      apart : ChannelsDiffer book plan
      apart i j s li lj ls oi oj ne q =
          ⊎_elim (λ h. (on s ls).differ j lj i h oj oi (sym q)) (λ h. (on s ls).differ i li j (omega arith) oi oj q) (less_or_not i j)
