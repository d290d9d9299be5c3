use Rattle.std.proofs.Common.{◌≡◌, drop}
use Rattle.json_subset.specs.Documents.{form, part}
use Rattle.json_values.specs.Parts.{entries_of}
use Rattle.api_parts.specs.Reading.{each}
use Rattle.api_members.specs.Gateway.{headers_member, headers_in}
use Rattle.api_members.proofs.gateway.read_headers.Given as goal

abbrev pub invariant-loop-i : goal.invariant-loop-i
invariant-loop-i l = each headers_member l.read (drop l.i (entries_of (form (part l.doc l.id)))) ≡ headers_in l.name (part l.doc l.id)
