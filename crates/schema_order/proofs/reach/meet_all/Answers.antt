use Rattle.schema_order.specs.Leads.{lists_of, edges_of}
use Rattle.schema_order.proofs.Paths.{further, next_among}
use Rattle.schema_order.proofs.reach.meet_all.Goals as goal

pub meet-requires-clause-led : goal.meet-requires-clause-led
meet-requires-clause-led c =
    further (lists_of c.args.edges.now) c.args.from c.args.k _ c.requires.led
    (next_among (edges_of (lists_of c.args.edges.now) c.args.k) c.args.nexts.now c.loop-next.next-index c.loop-next-test.true c.loop-next.invariant.among)
