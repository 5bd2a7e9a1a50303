-- What the printing program writes (01, "Books and figures", "The printing program .."), byte for byte. Every line ends with a line feed.
-- Assumes nothing.
use Rattle.std.specs.Prelude.{Bool, false, cond, List, [], ◌++◌, ◌≡◌, refl, ℕ, zero, suc, ◌<◌}
use Rattle.std.proofs.Common.{ap, ap₂, arith}
use Rattle.page_text.specs.Words.{word}
use Rattle.page_text.specs.Decimal.{decimal}
use Rattle.paper_book.specs.Book.{Book, is_line, count, end_a, end_b}
use Rattle.paper_rules.specs.Plans.{Plan, kept, way, channel}
use Rattle.law_line.specs.Entries.{not_kept_zero}

-- "a refusal prints the one line `refused N at P` and nothing else"
unfoldable pub printed_refusal : ℕ → ℕ → List ℕ
printed_refusal number place = word "refused " ++ decimal number ++ word " at " ++ decimal place ++ word "\n"

-- "first line: earnings, number kept, cut span (`none` on a line)"
unfoldable pub first_line : Bool → ℕ → ℕ → ℕ → List ℕ
first_line line earned number cut =
    word "profit " ++ decimal earned ++ word " kept " ++ decimal number ++ word " cut " ++ cond line (word "none") (decimal cut) ++ word "\n"

-- "then per request: number, a, b, way, channel"
unfoldable pub request_line : ℕ → ℕ → ℕ → ℕ → ℕ → List ℕ
request_line number a b way channel =
    decimal number ++ word " " ++ decimal a ++ word " " ++ decimal b ++ word " " ++ decimal way ++ word " " ++ decimal channel ++ word "\n"

-- the lines 0 to n − 1, one after the other
unfoldable pub lines : ℕ → (ℕ → List ℕ) → List ℕ
lines zero line = []
lines (suc n) line = lines n line ++ line n

-- way and channel are read off the entry, which is 0 when the request is not kept
unfoldable pub printed_request : Book → Plan → ℕ → List ℕ
printed_request book plan i = request_line i (end_a book i) (end_b book i) (way plan i) (channel plan i)

unfoldable pub printed_plan : Book → Plan → ℕ → ℕ → ℕ → List ℕ
printed_plan book plan earned number cut = first_line (is_line book) earned number cut ++ lines (count book) (printed_request book plan)

-- "way and channel 0 when not kept"
pub not_kept : (book : Book) (plan : Plan) (i : ℕ) → kept plan i ≡ false → printed_request book plan i ≡ request_line i (end_a book i) (end_b book i) 0 0
unfolding printed_request way channel
not_kept book plan i e = rw (not_kept_zero plan i e)

-- texts of equal lines are equal
pub lines_ext : (n : ℕ) (f g : ℕ → List ℕ) → ((i : ℕ) → i < n → f i ≡ g i) → lines n f ≡ lines n g
unfolding lines
lines_ext zero f g h = refl
lines_ext (suc n) f g h = ap₂ ◌++◌ (lines_ext n f g (λ i l. h i (omega arith))) (h n (omega arith))

-- of a plan the text shows the entries of the book's requests, and nothing else
pub same_entries :
    (book : Book) (plan other : Plan) (earned number cut : ℕ)
    → ((i : ℕ) → i < count book → plan i ≡ other i) → printed_plan book plan earned number cut ≡ printed_plan book other earned number cut
unfolding printed_plan printed_request way channel
same_entries book plan other earned number cut same =
    ap (λ (text : List ℕ). first_line (is_line book) earned number cut ++ text) (lines_ext (count book) (printed_request book plan) (printed_request book other) (λ i l. rw (same i l)))
