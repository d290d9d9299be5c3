use Rattle.std.proofs.Common.{◌≡◌, take}
use Rattle.gateway_vars.proofs.table.copied.Given as goal

abbrev pub invariant-loop-name : goal.invariant-loop-name
invariant-loop-name l = l.made.items ≡ take l.name-index l.path
