use Rattle.std.proofs.Common.{◌≡◌, drop}
use Rattle.json_subset.specs.Documents.{form, part}
use Rattle.json_values.specs.Parts.{entries_of}
use Rattle.api_parts.specs.Reading.{each}
use Rattle.api_members.specs.Gateway.{gateway_member, gateway_in}
use Rattle.api_members.proofs.gateway.read_gateway.Given as goal

abbrev pub invariant-loop-i : goal.invariant-loop-i
invariant-loop-i l = each gateway_member l.read (drop l.i (entries_of (form (part l.doc l.id)))) ≡ gateway_in l.name (part l.doc l.id)
