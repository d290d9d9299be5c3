use Rattle.std.proofs.Common.{◌≡◌, drop}
use Rattle.std.specs.List.{find}
use Rattle.integration_flow.specs.Choosing.{is_for}
use Rattle.integration_flow.proofs.choosing.first_for.Given as goal

-- what is found of the rules that are left is found of all
abbrev pub invariant-loop-rule : goal.invariant-loop-rule
invariant-loop-rule l = find (is_for l.status) (drop l.rule-index l.rules) ≡ find (is_for l.status) l.rules
