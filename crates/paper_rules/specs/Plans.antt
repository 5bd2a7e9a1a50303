-- A plan, and when it obeys the rules (01, "Routes and a plan that obeys the rules"). Assumes nothing.
use Rattle.std.specs.Prelude.{Bool, true, not, ◌&&◌, ◌||◌, ◌≡◌, ℕ, ◌/◌, ◌%◌, ◌≤◌, leb, ltb, eqb}
use Rattle.base_sums.specs.Each.{each, some}
use Rattle.base_sums.specs.Sums.{Σ, when, bit}
use Rattle.paper_book.specs.Book.{Book, spans, limit, count, profit}
use Rattle.paper_rules.specs.Ways.{crosses, way_exists}

-- The entry of each request: 0 when it is not kept, else way times 256 plus channel. Entries of numbers that no request has
-- are not looked at.
abbrev pub Plan : Type 0
Plan = ℕ → ℕ

-- an entry of a wrong form, as 1 to 255, counts as kept, on a way that does not exist
unfoldable pub kept : Plan → ℕ → Bool
kept plan i = not (eqb (plan i) 0)

unfoldable pub way : Plan → ℕ → ℕ
way plan i = plan i / 256

unfoldable pub channel : Plan → ℕ → ℕ
channel plan i = plan i % 256

unfoldable pub number_kept : Book → Plan → ℕ
number_kept book plan = Σ (count book) (λ i. bit (kept plan i))

-- the earnings are the sum of kept profits
unfoldable pub earnings : Book → Plan → ℕ
earnings book plan = Σ (count book) (λ i. when (kept plan i) (profit book i))

-- kept request i crosses span s
unfoldable pub over : Book → Plan → ℕ → ℕ → Bool
over book plan i s = kept plan i && crosses book i (way plan i) s

-- how many kept requests cross span s
unfoldable pub load : Book → Plan → ℕ → ℕ
load book plan s = Σ (count book) (λ i. bit (over book plan i s))

-- kept requests i and j cross a common span
unfoldable pub share : Book → Plan → ℕ → ℕ → Bool
share book plan i j = some (spans book) (λ s. over book plan i s && over book plan j s)

-- each kept request has a way that exists and a channel from 1 to k
unfoldable pub formed : Book → Plan → ℕ → Bool
formed book plan i = way_exists book i (way plan i) && (ltb 0 (channel plan i) && leb (channel plan i) book.channels)

-- two kept requests crossing a common span have different channels
unfoldable pub apart : Book → Plan → ℕ → ℕ → Bool
apart book plan i j = eqb i j || not (share book plan i j) || not (eqb (channel plan i) (channel plan j))

unfoldable pub obeys : Book → Plan → Bool
obeys book plan =
    each (count book) (λ i. not (kept plan i) || formed book plan i)
    && each (count book) (λ i. each (count book) (λ j. apart book plan i j))
    && each (spans book) (λ s. leb (load book plan s) (limit book s))

-- a plan is best when no plan for the same book that obeys the rules earns more
pub record Best (book : Book) (plan : Plan) : Type 0 where
  pub fair : obeys book plan ≡ true
  pub most : (other : Plan) → obeys book other ≡ true → earnings book other ≤ earnings book plan
