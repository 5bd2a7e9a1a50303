-- `read_record::request_at` meets its contract: each field is where the definition has it. Assumes nothing.
use Rattle.paper_book.specs.Refusals.{start, kind_in, mark_in, number_in, a_in, b_in, profit_in}
use Rattle.read_record.specs.Blank.{four_is_blank}
use Rattle.read_record.specs.Records.{tests_of_request, request_record_at}
use Rattle.read_record.proofs.request_at.Goals as goal

pub returns : goal.returns
unfolding request_record_at tests_of_request kind_in mark_in number_in a_in b_in profit_in start
returns c =
    simp (c.answer.ensures, c.request-judged.ensures, c.four.ensures, c.four-rest.ensures, four_is_blank, c.two.ensures.value, c.head_at-head.ensures)
