-- The causes that the faults of schemas are told as.
use Rattle.std.specs.Prelude.{◌≡◌}
use Rattle.json_subset.specs.Documents.{Document, part}
use Rattle.schema_rules.specs.Verdict.{place_of}
use Rattle.schema_draft4.specs.declared.fault.SchemaFault.{SchemaFault}
use Rattle.schema_draft4.specs.declared.fault.SchemaFault.TheVariants as faults
use Rattle.api_parts.specs.declared.fault.ApiCause.{ApiCause}
use Rattle.api_parts.specs.declared.fault.ApiCause.TheVariants.{Model}
use Rattle.api_parts.specs.declared.fault.ModelFault.TheVariants as model

abbrev pub IsCauseOf : Document → SchemaFault → ApiCause → Type 0
IsCauseOf d (faults.BadKeyword id) c = c ≡ Model (model.BadKeyword (place_of (part d id)))
IsCauseOf d (faults.BadPattern id) c = c ≡ Model (model.BadPattern (place_of (part d id)))
IsCauseOf d (faults.Unsupported x) c = c ≡ Model (model.Unsupported x)
IsCauseOf d (faults.RefMissing x) c = c ≡ Model (model.RefMissing x)
IsCauseOf d (faults.RefCycle x) c = c ≡ Model (model.RefCycle x)
IsCauseOf d faults.Memory c = ⊥
