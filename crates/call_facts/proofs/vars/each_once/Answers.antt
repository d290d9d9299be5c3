use Rattle.std.proofs.Common.{arith, ◌≡◌, true, false}
use Rattle.std.proofs.lemmas.Grind.{common_steps}
use Rattle.call_facts.proofs.Once.{again, kept_at, gone_at}
use Rattle.call_facts.proofs.vars.each_once.Goals as goal
use Rattle.call_facts.proofs.vars.each_once.Goals.{then-not-is_named+in_ok-copy+in_ok-copy-2+in_ok-push, else-not-is_named}

pub loop-i-preserved : goal.loop-i-preserved
loop-i-preserved c =
    elim c.if-not-is_named.branch [
      | then-not-is_named+in_ok-copy+in_ok-copy-2+in_ok-push w ↦
          let none : again c.args.pairs.now c.loop-i.i c.index-pairs-i.result ≡ false = grind (arith, common_steps) in
          let step = kept_at c.args.pairs.now c.loop-i.i c.index-pairs-i.result c.loop-i-test.true c.index-pairs-i.is none in
          grind (arith, common_steps, step, c.loop-i.invariant)
      | else-not-is_named w ↦
          let stands : again c.args.pairs.now c.loop-i.i c.index-pairs-i.result ≡ true = grind (arith, common_steps) in
          let step = gone_at c.args.pairs.now c.loop-i.i c.index-pairs-i.result c.loop-i-test.true c.index-pairs-i.is stands in
          grind (arith, common_steps, step, c.loop-i.invariant)
    ]
