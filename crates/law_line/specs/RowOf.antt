-- A line as a row: the spans are the cells, and a request is over the cells between its two ends. Assumes nothing.
use Rattle.std.specs.Prelude.{min, max}
use Rattle.law_row.specs.Row.{Row}
use Rattle.paper_book.specs.Book.{Book, spans, limit, count, end_a, end_b, profit}

unfoldable pub row_of : Book → Row
row_of book =
    record {
      cells = spans book;
      limit = limit book;
      count = count book;
      lo = λ i. min (end_a book i) (end_b book i);
      hi = λ i. max (end_a book i) (end_b book i);
      profit = profit book;
    }
