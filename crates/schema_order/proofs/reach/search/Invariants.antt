use Rattle.schema_order.specs.Leads.{AllLed, SeenAreLed, lists_of}
use Rattle.schema_order.proofs.reach.search.Given as goal

abbrev pub invariant-loop : goal.invariant-loop
invariant-loop l = record {
  seen : SeenAreLed (lists_of l.edges) l.from l.seen.items;
  todo : AllLed (lists_of l.edges) l.from l.todo.items;
}
