-- `read_book::requests::read_requests` meets its contract: every request passed was got and stands in the list, and since a request got is one of
-- 256 there is room for it. Assumes nothing.
use Prim.Native.Nat.{◌≤◌}
use Rattle.read_book.specs.Series.{SoFar}
use Rattle.read_book.specs.Orders.{request_series}
use Rattle.read_book.proofs.requests.read_requests.Given as goal

abbrev pub invariant-loop-i : goal.invariant-loop-i
invariant-loop-i l = (l.i ≤ 256) × SoFar (request_series l.part l.before l.nodes) l.requests l.i
