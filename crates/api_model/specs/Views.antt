-- What the program's values stand for.
use Rattle.std.specs.Prelude.{◌≡◌, ◌⊎◌, Bool, true, false, map, Option, Some, None}
use Rattle.api_members.specs.Models.{model_seen}
use Rattle.api_resources.specs.Paths.{HasTree, IsTree}
use Rattle.api_resources.specs.Resources.{path_of}
use Rattle.api_model.specs.Document.{Parts, Top}
use Rattle.api_model.specs.declared.document.TopRead.{TopRead}
use Rattle.api_model.specs.declared.document.PartsRead.{PartsRead}

abbrev pub top_of : TopRead → Top
top_of r = record {
  version = r.version;
  listed = r.listed;
  parts = record { models = map model_seen r.models; validators = r.validators; authorizers = r.authorizers; resources = r.resources; methods = r.methods; gateway = r.gateway };
  waiting = r.waiting;
}

abbrev pub read_parts : PartsRead → Parts
read_parts r = record { models = map model_seen r.models; validators = r.validators; authorizers = r.authorizers; resources = r.resources; methods = r.methods; gateway = r.gateway }

-- where the resources are read, their tree is there, or a fault waits
abbrev pub IsPlanted : TopRead → Type 0
IsPlanted r = (r.listed ≡ false) ⊎ HasTree (map path_of r.resources) r.waiting r.tree
