-- On a line the channel rule always finds one of 1 to k, if no span is over its limit: so a laid plan within the limits and by the rule
-- obeys the rules, and no such kept set can meet refusal 15 of 01. And the kept set fixes the entries. Assumes nothing.
use Rattle.std.specs.Prelude.{◌≡◌, refl, true, ℕ, ◌≤◌, ◌<◌}
use Rattle.std.proofs.Common.{sym, ◌∙◌, arith}
use borrow.Author.Tests.{eq-eqb}
use Rattle.paper_book.specs.Book.{Book, spans, limit, count}
use Rattle.paper_rules.specs.Plans.{Plan, kept, way, channel, load, obeys}
use Rattle.paper_rules.specs.Channels.{by_rule}
use Rattle.law_row.specs.Row
use Rattle.law_row.specs.Channels.{Ruled, from_one, found, told_apart, ruled_once}
use Rattle.law_row.specs.Same.{itself, ruled_same}
use Rattle.law_line.specs.RowOf.{row_of}
use Rattle.law_line.specs.Line.{Line}
use Rattle.base_sums.specs.Tests.{all_three}
use Rattle.law_line.specs.Obeys.{ChannelsDiffer, share_of, fair_obeys}
use Rattle.law_line.specs.Ways.{line_way_lem, proper}
use Rattle.law_line.specs.Laid.{Laid, within_row, share_meet, rule_ruled}
use Rattle.law_line.specs.Entries.{same_entry}

module _
    {book : Book} {plan : Plan}
    (on : Line book) (laid : Laid book plan) (within : (s : ℕ) → s < spans book → load book plan s ≤ limit book s) (rule : by_rule book plan ≡ true)
  where
    -- no limit is above k
    fits : (s : ℕ) → s < (row_of book).cells → Row.load (row_of book) (kept plan) s ≤ book.channels
    unfolding row_of
    fits s l = omega (arith, (within_row on laid within).holds s l, on.sound.limit_upto s l)

    pub channel_found : (i : ℕ) → i < count book → kept plan i ≡ true → channel plan i ≤ book.channels
    unfolding row_of
    channel_found = found (row_of book) book.channels (kept plan) (channel plan) fits (proper on) (rule_ruled on laid rule)

    differ : ChannelsDiffer book plan
    unfolding row_of
    differ i j s li lj ls oi oj ne =
        let meets = all_three _ _ _ (sym (share_meet on laid i j li lj) ∙ share_of book plan i j s ls oi oj) in
        told_apart (row_of book) book.channels (kept plan) (channel plan) fits (proper on) (rule_ruled on laid rule) i j li lj meets.0 meets.1 ne meets.2

    pub rule_obeys : obeys book plan ≡ true
    unfolding row_of
    rule_obeys =
        fair_obeys book plan
        (record {
          has_way = λ i l k. line_way_lem on i (way plan i) l ∙ eq-eqb _ _ (laid.goes i l k);
          channel_from = from_one (row_of book) book.channels (kept plan) (channel plan) (rule_ruled on laid rule);
          channel_upto = channel_found;
          channels_differ = differ;
          within_limits = within;
        })

-- ---- the kept set fixes the entries

pub rule_once :
    {book : Book} {plan other : Plan}
    → Line book → Laid book plan → Laid book other → by_rule book plan ≡ true → by_rule book other ≡ true
    → ((i : ℕ) → i < count book → kept plan i ≡ kept other i)
    → (i : ℕ) → i < count book → plan i ≡ other i
unfolding row_of
rule_once {book} {plan} {other} on p q rp rq same i l =
    same_entry plan other i (same i l) (λ k. p.goes i l k ∙ sym (q.goes i l (sym (same i l) ∙ k)))
    (ruled_once (row_of book) book.channels (kept plan) (channel plan) (channel other) (rule_ruled on p rp) moved i l)
  where
    -- the other's channels follow the rule over this plan's kept set
    moved : Ruled (row_of book) book.channels (kept plan) (channel other)
    moved = ruled_same (itself (row_of book)) (λ j h. sym (same j h)) book.channels (λ j h e. refl) (rule_ruled on q rq)
