use Rattle.std.proofs.Common.{drop}
use Rattle.schema_order.specs.Leads.{AllAmong, AllLed, SeenAreLed, edges_of, lists_of}
use Rattle.schema_order.proofs.reach.meet_all.Given as goal

abbrev pub invariant-loop-next : goal.invariant-loop-next
invariant-loop-next l = record {
  among : AllAmong (edges_of (lists_of l.edges) l.k) (drop l.next-index l.nexts);
  seen : SeenAreLed (lists_of l.edges) l.from l.seen.items;
  todo : AllLed (lists_of l.edges) l.from l.todo.items;
}
