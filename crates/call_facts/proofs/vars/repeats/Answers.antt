use Rattle.std.proofs.Common.{arith, ◌≡◌, false}
use Rattle.std.proofs.lemmas.Grind.{common_steps}
use Rattle.call_facts.proofs.Once.{again, same_before}
use Rattle.call_facts.proofs.vars.repeats.Goals as goal

pub loop-i-preserved : goal.loop-i-preserved
loop-i-preserved c = λ rest.
    let none : again c.args.pairs.now c.loop-i.i c.index-pairs-i.result ≡ false = grind (arith, common_steps) in
    c.loop-i.invariant (same_before c.args.pairs.now c.loop-i.i c.index-pairs-i.result c.loop-i-test.true c.index-pairs-i.is none rest)
