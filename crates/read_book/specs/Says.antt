-- What the reader's answers mean: for both of its cases the numbers and values of document 01. Assumes nothing.
use Rattle.std.specs.Prelude.{◌≡◌, Result, Ok, Err, List, map, ℕ, ◌≤◌, ◌<◌, get_or, take}
use Rattle.base_sums.specs.Vacant.{Vacant}
use Rattle.paper_book.specs.Book as B
use Rattle.paper_book.specs.Reading.{Outcome, done, refused, reading}
use Rattle.read_record.specs.declared.Network.{Network}
use Rattle.read_record.specs.declared.Refusal.{Refusal}
use Rattle.read_record.specs.Numbers.{number_of}
use Rattle.read_record.specs.Shapes.{code_of}
use Rattle.read_record.specs.declared.Request.{Request}
use Rattle.read_book.specs.declared.Taken.{Taken}

-- a request as the book has it
abbrev pub plain : Request → B.Request
plain q = record { a = q.a; b = q.b; profit = q.profit }

-- an entry of the list that no request was read into
abbrev pub no_request : Request
no_request = record { number = 0; a = 0; b = 0; profit = 0 }

-- the book that the parts say: the first limits, one a span, and the first `count` requests
unfoldable pub book_from : Network → List ℕ → ℕ → List Request → B.Book
book_from net limits count requests =
    record {
      shape = code_of net.shape;
      nodes = net.nodes;
      channels = net.channels;
      limits = take (B.spans_of (code_of net.shape) net.nodes) limits;
      requests = map plain (take count requests);
    }

unfoldable pub outcome_of : Result Taken Refusal → Outcome B.Book
outcome_of (Ok taken) = done (book_from taken.network taken.limits taken.count taken.requests)
outcome_of (Err refusal) = refused (number_of refusal.row) refusal.place

-- what is handed on of an accepted book beside what it says
pub record Whole (taken : Taken) : Type 0 where
  pub counted : taken.count ≤ 256
  -- each request has its own number
  pub numbered : (i : ℕ) → i < taken.count → (get_or taken.requests i no_request).number ≡ i
  -- and past the requests, and past the network's limits, there is nothing
  pub no_more_requests : Vacant no_request taken.count 256 taken.requests
  pub no_more_limits : Vacant 0 (B.spans_of (code_of taken.network.shape) taken.network.nodes) 64 taken.limits

-- the reader's promise: its answer is the reading of document 01. It leaves no value open (`taken_once`).
pub record Reads (file : List ℕ) (read : Result Taken Refusal) : Type 0 where
  pub says : outcome_of read ≡ reading file
  pub whole : (taken : Taken) → read ≡ Ok taken → Whole taken
