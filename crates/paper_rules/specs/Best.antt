-- The best earnings on a line, by trying both choices for each request (01, "Routes": a plan is best when no plan that obeys the
-- rules earns more). That it is what `Best` plans earn is proved in the crate `law_line`. Assumes nothing.
use Rattle.std.specs.Prelude.{Bool, true, false, not, ◌||◌, ℕ, zero, suc, ◌+◌, ◌-◌, max, ltb}
use Rattle.base_sums.specs.Each.{each}
use Rattle.base_sums.specs.Sums.{bit}
use Rattle.paper_book.specs.Book.{Book, spans, limit, count, profit}
use Rattle.paper_rules.specs.Ways.{crossed}

-- every span that request i crosses has room for one more
unfoldable pub fits : Book → ℕ → (ℕ → ℕ) → Bool
fits book i room = each (spans book) (λ s. not (crossed book i s) || ltb 0 (room s))

-- the room that is left when request i is kept
unfoldable pub lowered : Book → ℕ → (ℕ → ℕ) → ℕ → ℕ
lowered book i room s = room s - bit (crossed book i s)

-- the most that requests 0 to t − 1 can earn within the room given: first without the last of them, then with it
unfoldable pub best_within : Book → ℕ → (ℕ → ℕ) → ℕ
best_within book zero room = 0
best_within book (suc t) room =
    elim (fits book t room) [
      | true ↦ max (best_within book t room) (profit book t + best_within book t (lowered book t room))
      | false ↦ best_within book t room
    ]

unfoldable pub best : Book → ℕ
best book = best_within book (count book) (limit book)
