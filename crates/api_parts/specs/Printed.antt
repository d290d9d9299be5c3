-- What is printed of a cause.
use Rattle.std.specs.Prelude.{ℕ, List, [], ◌∷◌, ◌++◌, codes}
use Rattle.std.specs.Fmt.{decimal}
use Rattle.json_subset.specs.declared.fault.JsonFault.{JsonFault}
use Rattle.json_subset.specs.declared.fault.JsonFault.TheVariants as json
use Rattle.resource_tree.specs.declared.fault.TreeFault.{TreeFault}
use Rattle.resource_tree.specs.declared.fault.TreeFault.TheVariants as tree
use Rattle.vtl_grammar.specs.Printed as template
use Rattle.api_parts.specs.declared.fault.ModelFault.{ModelFault}
use Rattle.api_parts.specs.declared.fault.ModelFault.TheVariants as model
use Rattle.api_parts.specs.declared.fault.ApiCause.{ApiCause}
use Rattle.api_parts.specs.declared.fault.ApiCause.TheVariants as cause

-- a name as it is printed: `~` stands for the empty one
abbrev pub shown : List ℕ → List ℕ
shown [] = codes "~"
shown (b ∷ bs) = b ∷ bs

abbrev pub json_printed : JsonFault → List ℕ
json_printed (json.Syntax at) = codes "Syntax(" ++ decimal at ++ codes ")"
json_printed (json.Depth at) = codes "Depth(" ++ decimal at ++ codes ")"
json_printed (json.Repeated at) = codes "Repeated(" ++ decimal at ++ codes ")"
json_printed (json.NotUtf8 at) = codes "NotUtf8(" ++ decimal at ++ codes ")"
json_printed json.Memory = codes "Memory"

abbrev pub tree_printed : TreeFault → List ℕ
tree_printed (tree.BadPart at) = codes "BadPart(" ++ decimal at ++ codes ")"
tree_printed (tree.Clash at) = codes "Clash(" ++ decimal at ++ codes ")"
tree_printed (tree.GreedyNotLast at) = codes "GreedyNotLast(" ++ decimal at ++ codes ")"
tree_printed tree.Memory = codes "Memory"

abbrev pub model_printed : ModelFault → List ℕ
model_printed (model.BadKeyword at) = codes "BadKeyword(" ++ decimal at ++ codes ")"
model_printed (model.BadPattern at) = codes "BadPattern(" ++ decimal at ++ codes ")"
model_printed (model.Unsupported name) = codes "Unsupported(" ++ shown name ++ codes ")"
model_printed (model.RefCycle name) = codes "RefCycle(" ++ shown name ++ codes ")"
model_printed (model.RefMissing name) = codes "RefMissing(" ++ shown name ++ codes ")"

-- its name, with its number or its name in brackets
abbrev pub printed : ApiCause → List ℕ
printed (cause.Json fault) = json_printed fault
printed (cause.Missing name) = codes "Missing(" ++ shown name ++ codes ")"
printed (cause.Unknown name) = codes "Unknown(" ++ shown name ++ codes ")"
printed (cause.BadMember name) = codes "BadMember(" ++ shown name ++ codes ")"
printed (cause.Tree fault) = tree_printed fault
printed (cause.Model fault) = model_printed fault
printed (cause.Template fault) = template.printed fault
printed cause.BadMapping = codes "BadMapping"
printed cause.BadPattern = codes "BadPattern"
printed cause.BadUri = codes "BadUri"
printed cause.TwoDefaults = codes "TwoDefaults"
printed (cause.NoSuch name) = codes "NoSuch(" ++ shown name ++ codes ")"
printed cause.TooLong = codes "TooLong"
printed cause.Memory = codes "Memory"
