use native.Mathlib.Omega.{arith}
use lib.ListN.{replicate}
use Rattle.std.proofs.Common.{◌<◌, ◌≡◌, ◌/◌, length, refl}
use Rattle.base_sums.specs.Vacant.{vacant_new}
use Rattle.paper_book.specs.Refusals.{records}
use Rattle.read_book.specs.Says.{no_request}
use Rattle.read_book.specs.Series.{so_far_none, stopped_here, else_refused}
use Rattle.read_book.specs.Orders.{got_request, request_within, request_more}
use Rattle.read_book.proofs.requests.read_requests.Goals as goal

pub loop-i-init : goal.loop-i-init
loop-i-init c = (omega arith, so_far_none _ (replicate 256 _) (rw c.no_request-requests.ensures (vacant_new no_request 0 256)))

pub unwrap_err-requires : goal.unwrap_err-requires
unwrap_err-requires c = else_refused c.in_default.not-Ok

pub returns-in_default : goal.returns-in_default
unfolding records
returns-in_default c = stopped_here _ _ _ c.loop-i.i _ _ c.loop-i.invariant.1 (omega arith) c.through_view-reading.ensures c.unwrap_err.ensures

-- a request is got where one is due
pub unreachable-requires : goal.unreachable-requires
unreachable-requires c = c.in_default-got.not-Request _ (got_request _ _ _ c.loop-i.i _ _ c.through_view-reading.ensures c.in-Ok.is)

-- a request that was got is one of 256
pub bounds-requests-i : goal.bounds-requests-i
bounds-requests-i c = request_within _ _ _ _ _ _ c.through_view-reading.ensures c.in-Ok.is

pub loop-i-preserved : goal.loop-i-preserved
loop-i-preserved c =
    let in_room : c.loop-i.i < 256 = request_within _ _ _ _ _ _ c.through_view-reading.ensures c.in-Ok.is in
    (omega (arith, in_room), request_more _ _ _ _ _ _ c.through_view-reading.ensures c.in-Ok.is _ _ c.loop-i.invariant.1 c.in-Request.is)

pub returns : goal.returns
unfolding records
returns c =
    let last : c.loop-i.i ≡ length c.args.part.now / 16 = omega arith in
    record { within = omega (arith, last); all = refl; in_list = rw last at c.loop-i.invariant.1 }
