-- The request records in turn, in the part of the file that follows the spans: request i stands in record i of the part, and the list takes it.
-- Assumes nothing.
use Rattle.std.specs.Prelude.{◌≡◌, Result, Ok, Err, List, ℕ, ◌+◌, ◌≤◌, ◌<◌, set}
use Rattle.std.proofs.Common.{sym, ap, ◌∙◌, arith}
use borrow.Author.Tests.{ltb-false, eqb-true, not-false}
use Rattle.paper_book.specs.Refusals.{records, number_in, a_in, b_in, profit_in}
use Rattle.read_record.specs.declared.Refusal.{Refusal}
use Rattle.read_record.specs.declared.Request.{Request}
use Rattle.read_record.specs.declared.Record.{Record}
use Rattle.read_record.specs.declared.Record.TheVariants as kind
use Rattle.read_record.specs.declared.Row.TheVariants as row
use Rattle.read_record.specs.Tests.{judged, none_found, first_passed, rest_passed}
use Rattle.read_record.specs.Records.{request_in, tests_of_request, request_row, request_record_at, answer_got}
use Rattle.read_book.specs.declared.requests.Orders.{Orders}
use Rattle.read_book.specs.Says.{no_request}
use Rattle.read_book.specs.Series.{Series, SoFar, Stopped, is_got, so_far_more}

-- request i as record i of the part says it, with its own number
abbrev pub request_read : List ℕ → ℕ → Request
request_read part i = record { number = i; a = a_in part i; b = b_in part i; profit = profit_in part i }

abbrev pub request_series : List ℕ → (before nodes : ℕ) → Series Request
request_series part before nodes =
    record { says = λ i. request_record_at part i before nodes; room = 256; empty = no_request; wants = request_read part }

-- every record of the part is a request, and the list has them
pub record OrdersTaken (part : List ℕ) (before nodes : ℕ) (orders : Orders) : Type 0 where
  pub within : orders.count ≤ 256
  pub all : orders.count ≡ records part
  pub in_list : SoFar (request_series part before nodes) orders.requests (records part)

abbrev pub OrdersRead : List ℕ → (before nodes : ℕ) → Result Orders Refusal → Type 0
OrdersRead part before nodes (Ok orders) = OrdersTaken part before nodes orders
OrdersRead part before nodes (Err refusal) = Stopped (request_series part before nodes).says (records part) refusal

-- what is got where a request is due is that request, and it is one of 256
module _ (part : List ℕ) (before nodes i : ℕ) (r : Result Record Refusal) (got : Record) (is : r ≡ request_record_at part i before nodes) (e : r ≡ Ok got) where
  pub got_request : got ≡ kind.Request (request_in part i)
  unfolding request_record_at
  got_request = (answer_got (judged (tests_of_request part i nodes)) (before + i) _ got (sym is ∙ e)).1

  -- no test found a fault in it
  passed_all : 12 ≤ request_row part i nodes
  unfolding request_record_at
  passed_all = omega (arith, none_found (tests_of_request part i nodes) (answer_got (judged (tests_of_request part i nodes)) (before + i) _ got (sym is ∙ e)).0)

  pub request_within : i < 256
  unfolding tests_of_request
  request_within = omega (arith, ltb-false 255 i (first_passed _ row.TooMany _ (omega arith) passed_all))

  own_number : number_in part i ≡ i
  unfolding tests_of_request
  own_number =
      let kind = rest_passed _ row.TooMany _ (omega arith) passed_all in
      let mark = rest_passed _ row.Request _ (omega arith) kind in
      let number = rest_passed _ row.Request _ (omega arith) mark in
      eqb-true (number_in part i) i (not-false _ (first_passed _ row.Request _ (omega arith) number))

  pub request_more :
      (requests : List Request) (q : Request)
      → SoFar (request_series part before nodes) requests i → got ≡ kind.Request q → SoFar (request_series part before nodes) (set requests i q) (i + 1)
  request_more requests q p k =
      so_far_more (request_series part before nodes) requests i q p request_within (ap is_got (sym is ∙ e)) request_is
    where
      request_is : q ≡ request_read part i
      request_is =
          let same : q ≡ request_in part i = cc (got_request) in
          same ∙ rw own_number
