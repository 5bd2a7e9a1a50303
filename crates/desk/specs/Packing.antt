-- The one 64-bit number that goes back to the desk (docs/DESK.md). The highest bit tells a refusal from an answer, for every operation now and later.
-- Assumes nothing.
use Rattle.std.specs.Prelude.{Bool, true, false, ℕ, ◌+◌, ◌*◌, ◌^◌}
use Rattle.paper_book.specs.Reading.{Outcome, done, refused}

-- a refusal: the highest bit, then 31 bits of its number, then 32 bits of its place
unfoldable pub packed_refusal : ℕ → ℕ → ℕ
packed_refusal number place = 2 ^ 63 + number * 2 ^ 32 + place

-- a plan: the highest bit 0, then 31 bits of earnings, 16 bits of the number kept, 16 bits of the cut
unfoldable pub packed_plan : ℕ → ℕ → ℕ → ℕ
packed_plan earned number cut = earned * 2 ^ 32 + number * 2 ^ 16 + cut

-- a verdict: 1 is yes, 0 is no
unfoldable pub packed_verdict : Outcome Bool → ℕ
packed_verdict (done true) = 1
packed_verdict (done false) = 0
packed_verdict (refused number place) = packed_refusal number place
