-- The text that 01 shows for book B ("Books and figures"), that of book E, whose cut is a span, and a refusal's line, all computed from the
-- definitions. Assumes nothing.
use Rattle.std.specs.Prelude.{List, [], ◌++◌, ◌≡◌, refl, ℕ}
use Rattle.base_sums.specs.Each.{each, some, seek}
use Rattle.base_sums.specs.Sums.{Σ}
use Rattle.base_sums.specs.Table.{table}
use Rattle.paper_book.specs.Bytes.{two, four, entry_in}
use Rattle.paper_book.specs.Book.{spans_of, spans, limit, count, end_a, end_b, profit}
use Rattle.paper_book.specs.Refusals.{start, records, shape_in, nodes_in, channels_in, spans_in, limit_in, a_in, b_in, profit_in}
use Rattle.paper_book.specs.Reading.{request_of, book_of}
use Rattle.paper_rules.specs.Ways.{upward, crosses, way_from, line_way, crossed}
use Rattle.paper_rules.specs.Plans.{kept, way, channel, number_kept, earnings}
use Rattle.paper_rules.specs.Best.{fits, lowered, best_within, best}
use Rattle.paper_rules.specs.Cuts.{steps, span_at, moved, cut_line, cut_best, cut, cut_shown}
use Rattle.paper_rules.specs.Figures.{book_b, plan_b, book_e, entry}
use Rattle.page_text.specs.Words.{word}
use Rattle.page_text.specs.Decimal.{digits_of, decimal}
use Rattle.page_plan.specs.Printed.{printed_refusal, first_line, request_line, lines, printed_request, printed_plan}

-- the text for a file and a plan's entries, both as bytes
abbrev pub shown : List ℕ → List ℕ → List ℕ
shown file entries =
    let book = book_of file in
    let plan = entry_in entries in
    printed_plan book plan (earnings book plan) (number_kept book plan) (cut_shown book)

pub shown_B : shown book_b plan_b ≡ word "profit 10 kept 3 cut none\n" ++ word "0 0 2 0 0\n" ++ word "1 3 1 2 1\n" ++ word "2 0 1 1 1\n" ++ word "3 2 3 1 2\n"
unfolding each some seek Σ table two four entry_in spans_of spans limit count end_a end_b profit start records shape_in nodes_in channels_in spans_in limit_in a_in b_in profit_in request_of book_of kept way channel number_kept earnings cut_shown digits_of decimal first_line request_line lines printed_request printed_plan
shown_B = refl

pub shown_E :
    shown book_e (entry 0 0 (entry 1 1 (entry 1 1 (entry 1 1 []))))
    ≡ word "profit 15 kept 3 cut 0\n" ++ word "0 0 1 0 0\n" ++ word "1 1 2 1 1\n" ++ word "2 2 3 1 1\n" ++ word "3 3 0 1 1\n"
unfolding each some seek Σ table two four entry_in spans_of spans limit count end_a end_b profit start records shape_in nodes_in channels_in spans_in limit_in a_in b_in profit_in request_of book_of upward crosses way_from line_way crossed kept way channel number_kept earnings fits lowered best_within best steps span_at moved cut_line cut_best cut cut_shown digits_of decimal first_line request_line lines printed_request printed_plan
shown_E = refl

-- a network record alone is 5 at place 1
pub shown_refusal : printed_refusal 5 1 ≡ word "refused 5 at 1\n"
unfolding digits_of decimal printed_refusal
shown_refusal = refl
