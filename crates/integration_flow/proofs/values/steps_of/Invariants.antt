use Rattle.std.proofs.Common.{◌≡◌, ℕ, List, map, take}
use Rattle.std.specs.Borrow.{Bor}
use Rattle.vtl_eval.specs.Roots.{name}
use Rattle.vtl_eval.specs.Views.{stepped_of}
use Rattle.integration_flow.proofs.values.steps_of.Given as goal

-- the steps of the names so far
abbrev pub invariant-loop-name : goal.invariant-loop-name
invariant-loop-name l = map stepped_of l.steps.items ≡ map name (map (λ (x : Bor (List ℕ)). x.now) (take l.name-index l.names))
