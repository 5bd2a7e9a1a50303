-- What is due at a record: where it may stand, and what reading it there comes to. Assumes nothing.
use Rattle.std.specs.Prelude.{◌≡◌, Result, List, ℕ, ◌+◌, ◌*◌, ◌≤◌, ◌<◌, length}
use Rattle.read_record.specs.declared.Record.{Record}
use Rattle.read_record.specs.declared.Refusal.{Refusal}
use Rattle.read_record.specs.declared.Due.{Due}
use Rattle.read_record.specs.declared.Due.TheVariants.{Network, Span, Request}
use Rattle.read_record.specs.Records.{network_record_at, span_record_at, request_record_at}

-- where each may stand: the network is record 0, the spans are among records 1 to 64, present or not, and a request is a whole record of the
-- part that follows the spans
abbrev pub MayStand : List ℕ → ℕ → Due → Type 0
MayStand f at Network = at ≡ 0
MayStand f at (Span channels) = (0 < at) × (at ≤ 64)
MayStand f at (Request before nodes) = (16 * at + 16 ≤ length f) × (before ≤ 65)

abbrev pub record_at : List ℕ → ℕ → Due → Result Record Refusal
record_at f at Network = network_record_at f
record_at f at (Span channels) = span_record_at f at channels
record_at f at (Request before nodes) = request_record_at f at before nodes
