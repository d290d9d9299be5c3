use Rattle.std.proofs.Common.{arith}
use Rattle.vtl_reader.specs.Nodes.{item_of}
use Rattle.vtl_reader.specs.Macros.{defines}
use Rattle.vtl_eval.specs.Idle.{idle_body, by_place, holds}
use Rattle.vtl_eval.proofs.Marks.{mapped_more, mapped_all}
use Rattle.vtl_eval.proofs.idle.bodies_of.Goals as goal

pub loop-k-preserved : goal.loop-k-preserved
loop-k-preserved c = λ p.
    rw c.in_ok-push.ensures.items
    (mapped_more (holds p) (λ k. idle_body (by_place p c.args.macros.now.names) (defines (item_of c.args.arena.now k))) c.loop-k.bodies.items c.in_ok-body.body c.args.ids.now c.loop-k.k-index 0 _ c.loop-k-test.true (c.in_ok-body.ensures p) (c.loop-k.invariant p))

pub returns : goal.returns
returns c = λ p.
    mapped_all (holds p) (λ k. idle_body (by_place p c.args.macros.now.names) (defines (item_of c.args.arena.now k))) c.loop-k.bodies.items c.args.ids.now c.loop-k.k-index _ (omega (arith, c.loop-k-test.false)) (c.loop-k.invariant p)
