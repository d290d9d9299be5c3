use Rattle.std.proofs.Common.{◌≡◌, drop, true}
use Rattle.api_mappings.specs.Names.{dotted_from}
use Rattle.api_mappings.proofs.names.is_dotted.Given as goal

abbrev pub invariant-loop-b : goal.invariant-loop-b
invariant-loop-b l = dotted_from l.begins (drop l.b-index l.bytes) ≡ dotted_from true l.text
