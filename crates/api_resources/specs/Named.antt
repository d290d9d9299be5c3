-- What the methods of a document name.
use Rattle.std.specs.Prelude.{List, codes, Option, Some, None}
use Rattle.std.specs.List.{flat_map}
use Rattle.json_subset.specs.Tree.{Tree}
use Rattle.json_subset.specs.Documents.{form, member_named}
use Rattle.json_values.specs.Parts.{entries_of}
use Rattle.api_parts.specs.Reading.{Text}
use Rattle.api_resources.specs.Integrations.{text_of}
use Rattle.api_resources.specs.Methods.{members_of}

-- the methods of some resources, in their order, each under its verb
abbrev pub methods_of : List (Text × Tree) → List (Text × Tree)
methods_of resources = flat_map (λ r. entries_of (form r.1)) resources

-- the methods of a document
abbrev pub methods_in : Tree → List (Text × Tree)
methods_in t = methods_of (members_of (member_named (form t) (codes "resources")))

-- the name that the value of a method has under this member
abbrev pub name_under : Text → Tree → Option Text
name_under member t = text_of (member_named (form t) member)

abbrev pub name_in : Text → Option Tree → Option Text
name_in media None = None
name_in media (Some t) = name_under media t

-- and in its `models` under this media type
abbrev pub model_under : Text → Tree → Option Text
model_under media t = name_in media (member_named (form t) (codes "models"))
