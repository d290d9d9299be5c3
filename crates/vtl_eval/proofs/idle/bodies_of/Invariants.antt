use Rattle.std.proofs.Common.{◌≡◌, ◌++◌, ℕ, Bool, drop, map}
use Rattle.vtl_reader.specs.Nodes.{item_of}
use Rattle.vtl_reader.specs.Macros.{defines}
use Rattle.vtl_eval.specs.Idle.{idle_body, by_place, holds}
use Rattle.vtl_eval.proofs.idle.bodies_of.Given as goal

abbrev pub invariant-loop-k : goal.invariant-loop-k
invariant-loop-k l = (p : ℕ → Bool) → map (holds p) l.bodies.items ++ map (λ k. idle_body (by_place p l.macros.names) (defines (item_of l.arena k))) (drop l.k-index l.ids) ≡ map (λ k. idle_body (by_place p l.macros.names) (defines (item_of l.arena k))) l.ids
