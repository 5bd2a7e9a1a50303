-- Two price lists with the same price for each span have the same ceiling: prices past the spans are not looked at. Assumes nothing.
use Rattle.std.specs.Prelude.{◌≡◌, ℕ, ◌+◌, ◌*◌, ◌-◌, ◌<◌}
use Rattle.std.proofs.Common.{ap, ap₂}
use Rattle.base_sums.specs.Sums.{when, Σ-ext}
use Rattle.paper_book.specs.Book.{Book, spans, limit, count, profit}
use Rattle.paper_rules.specs.Ways.{crossed}
use Rattle.paper_rules.specs.Prices.{Prices, price_of, ceiling}

pub ceiling_same : (book : Book) {p q : Prices} → ((s : ℕ) → s < spans book → p s ≡ q s) → ceiling book p ≡ ceiling book q
unfolding ceiling price_of
ceiling_same book same =
    ap₂ ◌+◌ (Σ-ext (spans book) _ _ (λ s l. ap (λ (n : ℕ). limit book s * n) (same s l)))
    (Σ-ext (count book) _ _ (λ i l. ap (λ (n : ℕ). profit book i - n) (Σ-ext (spans book) _ _ (λ s ls. ap (when (crossed book i s)) (same s ls)))))
