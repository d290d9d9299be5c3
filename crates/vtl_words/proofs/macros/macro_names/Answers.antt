use Rattle.std.proofs.Common.{arith}
use Rattle.vtl_words.proofs.Scanning.{at_done, at_passed, at_found, at_end}
use Rattle.vtl_words.proofs.macros.macro_names.Goals as goal

pub returns-in-Done : goal.returns-in-Done
returns-in-Done c = at_done _ _ _ _ c.loop-fuel.invariant c.loop-fuel-test.true c.in-Done.ensures

pub loop-fuel-preserved : goal.loop-fuel-preserved
loop-fuel-preserved c = at_passed _ _ _ _ c.loop-fuel.invariant _ c.loop-fuel-test.true c.in-Passed.ensures

pub loop-fuel-preserved-in-Found : goal.loop-fuel-preserved-in-Found
loop-fuel-preserved-in-Found c =
    rw c.in_ok-push-in-Found.ensures (at_found _ _ _ _ c.loop-fuel.invariant c.in-Found.name.now c.in-Found.next.now c.loop-fuel-test.true c.in-Found.ensures)

pub returns : goal.returns
returns c = at_end _ _ _ _ c.loop-fuel.invariant (omega (arith, c.loop-fuel-test.false))
