-- `read_record::bytes::blank` meets its contract: every byte passed is 0, and one that is not ends the loop. Assumes nothing.
use mathlib.Core.Path.{◌≡◌}
use Prim.Native.Nat.{ℕ, ◌+◌, ◌<◌}
use Rattle.paper_book.specs.Bytes.{byte}
use Rattle.read_record.proofs.bytes.blank.Given as goal

abbrev pub invariant-loop-i : goal.invariant-loop-i
invariant-loop-i l = (k : ℕ) → k < l.i → byte l.file (l.at + k) ≡ 0
