use Rattle.std.proofs.Common.{◌≡◌, drop}
use Rattle.json_subset.specs.Documents.{form, part}
use Rattle.json_values.specs.Parts.{entries_of}
use Rattle.api_parts.specs.Reading.{◌>>=◌, each}
use Rattle.api_members.specs.Authorizers.{authorizer_in, authorizer_member, authorizer_of}
use Rattle.api_members.proofs.authorizers.read_authorizer.Given as goal

abbrev pub invariant-loop-i : goal.invariant-loop-i
invariant-loop-i l = (each authorizer_member l.read (drop l.i (entries_of (form (part l.doc l.id)))) >>= authorizer_of l.name) ≡ authorizer_in l.name (part l.doc l.id)
