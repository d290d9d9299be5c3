-- A model that is refused.
use Rattle.std.proofs.Common.{◌≡◌, ℕ, Ok, Err, refl, sym, ap, ◌∙◌}
use Rattle.std.specs.Prelude.{Result}
use Rattle.json_subset.specs.Documents.{Document, part}
use Rattle.json_subset.specs.Tree.{Tree}
use Rattle.schema_rules.specs.Rules.{Schemas}
use Rattle.schema_draft4.specs.Compiled.{IsFaultOf, linked_schemas}
use Rattle.schema_draft4.specs.declared.fault.SchemaFault.{SchemaFault}
use Rattle.schema_draft4.specs.declared.fault.SchemaFault.TheVariants as faults
use Rattle.api_parts.specs.Reading.{here}
use Rattle.api_parts.specs.declared.fault.ApiCause.{ApiCause}
use Rattle.api_parts.specs.declared.fault.ApiCause.TheVariants.{Model}
use Rattle.api_parts.specs.declared.fault.ModelFault.TheVariants as model
use Rattle.api_members.specs.Models.{model_in, model_by}
use Rattle.api_members.specs.Causes.{IsCauseOf}
use Rattle.api_members.proofs.Led.{cycle_back}

pub refused : (d : Document) (fault : SchemaFault) (t : Tree) (c : ApiCause) → IsFaultOf d fault t → IsCauseOf d fault c → model_in t ≡ Err (here c)
unfolding model_in
refused d (faults.BadKeyword id) t c f e = ap (model_by t) f ∙ ap (λ x. Err (here x)) (sym e)
refused d (faults.BadPattern id) t c f e = ap (model_by t) f ∙ ap (λ x. Err (here x)) (sym e)
refused d (faults.Unsupported x) t c f e = ap (model_by t) f ∙ ap (λ x. Err (here x)) (sym e)
refused d (faults.RefMissing x) t c f e = ap (model_by t) f ∙ ap (λ x. Err (here x)) (sym e)
refused d (faults.RefCycle x) t c f e = cycle_back t f.0 (linked_schemas t) x f.1 f.2 ∙ ap (λ x. Err (here x)) (sym e)
refused d faults.Memory t c f e = absurd e
