use Rattle.std.proofs.Common.{◌≡◌, drop}
use Rattle.json_subset.specs.Numbered.{number_named}
use Rattle.json_subset.proofs.parts.first_named.Given as goal

abbrev pub invariant-loop-member : goal.invariant-loop-member
invariant-loop-member l = number_named (drop l.member-index l.members) l.name ≡ number_named l.members l.name
