-- What a definition keeps.
use Rattle.std.specs.Prelude.{◌≡◌, ℕ, List, length, map, Option, Some, None, is_ok, true, if◌then◌else◌}
use Rattle.api_resources.specs.Paths.{IsTree}
use Rattle.api_resources.specs.Resources.{path_of}
use Rattle.api_model.specs.Definition.{Definition, parts_of, stated}
use Rattle.api_model.specs.Views.{read_parts}
use Rattle.api_model.specs.declared.document.PartsRead.{PartsRead}

-- the parts that its source states without a fault, the tree of their paths, its template where it is a text, and how many parts there are
pub record IsKept (d : Definition) (template : Option (List ℕ)) (parts : PartsRead) (resources methods models : ℕ) : Type 0 where
  pub accepted : is_ok (stated d) ≡ true
  pub stated : parts_of d ≡ read_parts parts
  pub tree : IsTree (map path_of parts.resources) parts.tree
  pub text : template ≡ (if d.is_text then Some d.source else None)
  pub resource_count : resources ≡ length parts.resources
  pub method_count : methods ≡ length parts.methods
  pub model_count : models ≡ length parts.models
