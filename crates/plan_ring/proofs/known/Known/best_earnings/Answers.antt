-- `plan_ring::known::best_earnings` meets its contract: `plan_line::best_earnings` says what the line can earn and puts its prices at the ring's spans, and none is
-- too high. Assumes nothing.
use Rattle.std.proofs.Common.{◌≡◌, ◌+◌, ◌-◌, arith, length, subst}
use Rattle.plan_row.specs.Placing.{OneToOne}
use Rattle.plan_ring.specs.Known.{ring_places}
use Rattle.plan_ring.proofs.known.Known.best_earnings.Goals as goal

pub best_earnings-earned-requires-clause-one_to_one : goal.best_earnings-earned-requires-clause-one_to_one
best_earnings-earned-requires-clause-one_to_one c =
    let spans : length c.args.line.now.limits.now + 1 - 1 ≡ length c.args.line.now.limits.now = omega arith in
    let all : OneToOne (length c.args.line.now.limits.now + 1 - 1) c.places.new.place c.args.self.now.prices = ring_places {j = c.args.j} (omega arith) (omega arith) c.places.ensures (omega arith) in
    subst (λ n. OneToOne n c.places.new.place c.args.self.now.prices) spans all
