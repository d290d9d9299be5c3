use Rattle.std.proofs.Common.{◌≡◌, drop, map}
use Rattle.json_subset.specs.Documents.{form, part}
use Rattle.json_values.specs.Parts.{entries_of}
use Rattle.api_parts.specs.Reading.{each}
use Rattle.api_members.specs.Models.{models_member, models_in, model_seen}
use Rattle.api_members.proofs.models.read_models.Given as goal

abbrev pub invariant-loop-i : goal.invariant-loop-i
invariant-loop-i l = each models_member (map model_seen l.read) (drop l.i (entries_of (form (part l.doc l.id)))) ≡ models_in l.name (part l.doc l.id)
