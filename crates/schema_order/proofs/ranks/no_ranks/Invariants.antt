use Rattle.std.proofs.Common.{◌≡◌, length}
use Rattle.schema_order.proofs.Rounds.{AllWait}
use Rattle.schema_order.proofs.ranks.no_ranks.Given as goal

abbrev pub invariant-loop : goal.invariant-loop
invariant-loop l = record {
  all : length l.ranks.items ≡ l.counter;
  wait : AllWait (length l.edges) l.ranks.items;
}
