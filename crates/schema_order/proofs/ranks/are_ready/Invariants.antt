use Rattle.std.proofs.Common.{drop}
use Rattle.schema_order.specs.Ranks.{AreReady}
use Rattle.schema_order.proofs.ranks.are_ready.Given as goal

abbrev pub invariant-loop-s : goal.invariant-loop-s
invariant-loop-s l = AreReady l.ranks (drop l.s-index l.ks) → AreReady l.ranks l.ks
