use Rattle.schema_order.specs.Leads.{arrived, lists_of}
use Rattle.schema_order.proofs.Paths.{led_last}
use Rattle.schema_order.proofs.reach.search.Goals as goal

pub meet-requires-clause-led : goal.meet-requires-clause-led
meet-requires-clause-led c = arrived c.args.from

pub meet_all-requires-clause-led : goal.meet_all-requires-clause-led
meet_all-requires-clause-led c = led_last (lists_of c.args.edges.now) c.args.from _ c.in-Some.k (rw c.in-Some.ensures.items at c.loop.invariant.todo)
