use Rattle.std.proofs.Common.{◌≡◌, drop}
use Rattle.std.specs.Prelude.{codes}
use Rattle.json_subset.specs.Documents.{form, part, member_named}
use Rattle.json_values.specs.Parts.{entries_of}
use Rattle.api_parts.specs.Reading.{◌>>=◌, each}
use Rattle.api_resources.specs.Integrations.{integration_in, integration_member, integration_of, kind_of}
use Rattle.api_resources.proofs.integrations.read_integration.Given as goal

abbrev pub invariant-loop-i : goal.invariant-loop-i
invariant-loop-i l = (each (integration_member (kind_of (part l.doc l.id)) (member_named (form (part l.doc l.id)) (codes "parameters")) l.path) l.read (drop l.i (entries_of (form (part l.doc l.id)))) >>= integration_of (kind_of (part l.doc l.id))) ≡ integration_in l.path l.name (part l.doc l.id)
