use Rattle.std.proofs.Common.{◌≡◌, ◌<◌, ℕ, Some}
use Rattle.std.specs.Prelude.{slice_get}
use Rattle.schema_rules.specs.Views.{IsSoundNode}
use Rattle.schema_rules.specs.declared.rule.Node.{Node}
use Rattle.schema_rules.proofs.sound.are_sound.Given as goal

abbrev pub invariant-loop-k : goal.invariant-loop-k
invariant-loop-k l = (j : ℕ) → j < l.k → (x : Node) → slice_get l.nodes j ≡ Some x → IsSoundNode l.nodes l.targets x
