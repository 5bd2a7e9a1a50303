-- Prices, the ceiling and the checker's verdict (01, "Prices and the checker"). Lines only. Assumes nothing.
use Rattle.std.specs.Prelude.{Bool, ◌&&◌, ℕ, ◌+◌, ◌*◌, ◌-◌, eqb}
use Rattle.base_sums.specs.Sums.{Σ, when}
use Rattle.paper_book.specs.Book.{Book, spans, limit, count, profit}
use Rattle.paper_rules.specs.Ways.{crossed}
use Rattle.paper_rules.specs.Plans.{Plan, obeys, earnings}

-- the price of each span
abbrev pub Prices : Type 0
Prices = ℕ → ℕ

-- the sum of prices on the spans that request i crosses
unfoldable pub price_of : Book → Prices → ℕ → ℕ
price_of book prices i = Σ (spans book) (λ s. when (crossed book i s) (prices s))

-- The sum over spans of limit × price, plus, over all requests, kept or not, the larger of 0 and (profit − the prices crossed):
-- a difference of natural numbers stops at 0.
unfoldable pub ceiling : Book → Prices → ℕ
ceiling book prices = Σ (spans book) (λ s. limit book s * prices s) + Σ (count book) (λ i. profit book i - price_of book prices i)

-- yes exactly when the plan obeys the rules and its earnings equal the ceiling
unfoldable pub verdict : Book → Plan → Prices → Bool
verdict book plan prices = obeys book plan && eqb (earnings book plan) (ceiling book prices)
