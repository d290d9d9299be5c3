use Rattle.json_subset.specs.Documents.{part}
use Rattle.schema_draft4.specs.Compiled.{linked_schemas}
use Rattle.api_members.specs.Models.{model_in, schemas_in}
use Rattle.api_members.proofs.Led.{none_back}
use Rattle.api_members.proofs.models.model.Goals as goal

pub returns-in-Ok : goal.returns-in-Ok
unfolding model_in
returns-in-Ok c = none_back (part c.args.doc.now c.args.id) (schemas_in c.in-Ok.schema) (linked_schemas (part c.args.doc.now c.args.id)) c.in-Ok.ensures.read c.in-Ok.ensures.straight
