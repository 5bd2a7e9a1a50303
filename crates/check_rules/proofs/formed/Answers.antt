-- `check_rules::formed` meets its contract: each return says which of the tests of `formed_at` decides. Assumes nothing.
use mathlib.Core.Bool.{and-false}
use Prim.Native.Nat.{◌%◌}
use native.Mathlib.Omega.{arith}
use borrow.Author.Tests.{eq-eqb, ne_eqb, lt-ltb, le-ltb}
use Rattle.check_rules.specs.Entry.{formed_at}
use Rattle.check_rules.proofs.formed.Goals as goal

pub returns-then-entry-eq0 : goal.returns-then-entry-eq0
unfolding formed_at
returns-then-entry-eq0 c = rw (eq-eqb _ 0 c.if-entry-eq0.true)

pub returns-then-entry-way_of : goal.returns-then-entry-way_of
unfolding formed_at
returns-then-entry-way_of c = rw (← c.way_of.ensures, ne_eqb _ 0 c.if-entry-eq0.false, ne_eqb _ _ c.if-entry-way_of.true)

pub returns-then-channel-eq0 : goal.returns-then-channel-eq0
unfolding formed_at
returns-then-channel-eq0 c = simp (ne_eqb _ 0 c.if-entry-eq0.false, le-ltb 0 (c.args.entry % 256) (omega arith), and-false)

pub returns : goal.returns
unfolding formed_at
returns c =
    simp (
      ← c.way_of.ensures,
      ne_eqb _ 0 c.if-entry-eq0.false,
      eq-eqb _ _ c.if-entry-way_of.false,
      lt-ltb 0 (c.args.entry % 256) (omega arith),
    )
