use Rattle.std.proofs.Common.{◌≡◌, ◌+◌, All, length}
use Rattle.std.specs.Vec.Iter.{into_iter_items, into_iter_len}
use Rattle.gateway_outside.specs.Stands.{IsFresh}
use Rattle.gateway_machine.specs.Stands.{IsUnusedLane}
use Rattle.gateway_machine.proofs.machine.lanes_over.Given as goal

-- a lane for each port that went, all of them unused, and fresh ports are left
abbrev pub invariant-loop-port : goal.invariant-loop-port
invariant-loop-port g l = record {
  number : length l.lanes.items + into_iter_len l.port-iterator ≡ l.n;
  len : into_iter_len l.port-iterator ≡ length (into_iter_items l.port-iterator);
  fresh : All IsFresh (into_iter_items l.port-iterator);
  unused : All IsUnusedLane l.lanes.items;
}
