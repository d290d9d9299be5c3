use Rattle.std.proofs.Common.{◌≡◌, drop}
use Rattle.std.specs.List.{find}
use Rattle.integration_flow.specs.Choosing.{is_default}
use Rattle.integration_flow.proofs.choosing.first_default.Given as goal

-- what is found of the rules that are left is found of all
abbrev pub invariant-loop-rule : goal.invariant-loop-rule
invariant-loop-rule l = find is_default (drop l.rule-index l.rules) ≡ find is_default l.rules
