-- `read_record::record_at` meets its contract: each arm is a case of the definition. Assumes nothing.
use Rattle.read_record.proofs.record_at.Goals as goal

pub span_at-requires : goal.span_at-requires
span_at-requires c = rw c.in-Span.is at c.requires

pub request_at-requires : goal.request_at-requires
request_at-requires c = rw c.in-Request.is at c.requires

pub returns-in-Network : goal.returns-in-Network
returns-in-Network c = rw c.in-Network.is c.network_at.ensures

pub returns-in-Span : goal.returns-in-Span
returns-in-Span c = rw c.in-Span.is c.span_at.ensures

pub returns-in-Request : goal.returns-in-Request
returns-in-Request c = rw c.in-Request.is c.request_at.ensures
