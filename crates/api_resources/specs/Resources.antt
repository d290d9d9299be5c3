-- The resources by their paths, each with its methods by their verbs.
use Rattle.std.specs.Prelude.{ℕ, nat_le, Bool, ◌||◌, List, [], ◌∷◌, ◌++◌, length, map, codes, bytes_eq, if◌then◌else◌, Option, Some, None, Ok}
use Rattle.json_subset.specs.Tree.{Tree}
use Rattle.resource_tree.specs.Faults.{fault_at}
use Rattle.resource_tree.specs.declared.fault.TreeFault.{TreeFault}
use Rattle.api_parts.specs.Reading.{Text, Read, ◌>>=◌, bad, each, here, unknown, Waiting, first_of, waiting_below}
use Rattle.api_parts.specs.declared.fault.ApiCause.TheVariants.{Tree as TreeCause}
use Rattle.api_parts.specs.declared.parts.Method.{Method}
use Rattle.api_parts.specs.declared.parts.Resource.{Resource}
use Rattle.api_reading.specs.Values.{object_in}
use Rattle.api_resources.specs.declared.resources.VerbsRead.{VerbsRead}
use Rattle.api_resources.specs.declared.resources.ResourcesRead.{ResourcesRead}
use Rattle.api_resources.specs.Integrations.{is_verb}
use Rattle.api_resources.specs.Methods.{method_in}

-- a verb, or `ANY`
abbrev pub is_entry : Text → Bool
is_entry x = is_verb x || bytes_eq x (codes "ANY")

-- a method more, by the number of those before it
abbrev pub with_method : VerbsRead → Text → Method × Waiting → VerbsRead
with_method r x m = record { verbs = r.verbs ++ (x, length r.methods) ∷ []; methods = r.methods ++ m.0 ∷ []; waiting = first_of r.waiting (waiting_below x m.1) }

abbrev pub verbs_member : Tree → Text → VerbsRead → Text → Tree → Read VerbsRead
verbs_member document path r x t = if is_entry x then (method_in document path x t >>= λ m. Ok (with_method r x m)) else unknown x

abbrev pub verbs_in : Tree → List Method → Text → Tree → Read VerbsRead
verbs_in document before path t = object_in path t >>= each (verbs_member document path) record { verbs = []; methods = before; waiting = None }

-- a fault of the path waits before those of its methods
abbrev pub path_waiting : Option TreeFault → Waiting
path_waiting None = None
path_waiting (Some fault) = Some (here (TreeCause fault))

abbrev pub with_resource : ResourcesRead → Text → Option TreeFault → VerbsRead → ResourcesRead
with_resource all x fault r =
    record { list = all.list ++ record { path = x; verbs = r.verbs } ∷ []; methods = r.methods; waiting = first_of all.waiting (waiting_below x (first_of (path_waiting fault) r.waiting)) }

-- a resource more, whose path has this fault
abbrev pub resource_added : Tree → Option TreeFault → ResourcesRead → Text → Tree → Read ResourcesRead
resource_added document fault all x t = verbs_in document all.methods x t >>= λ r. Ok (with_resource all x fault r)

abbrev pub resources_member : Tree → List Text → ResourcesRead → Text → Tree → Read ResourcesRead
resources_member document paths all x t = resource_added document (fault_at paths (length all.list)) all x t

abbrev pub paths_of : List (Text × Tree) → List Text
paths_of ms = map (λ m. m.0) ms

abbrev pub path_of : Resource → Text
path_of r = r.path

abbrev pub no_resources : ResourcesRead
no_resources = record { list = []; methods = []; waiting = None }

abbrev pub resources_from : Tree → Text → List (Text × Tree) → Read ResourcesRead
resources_from document name ms = if nat_le (length ms) 300 then each (resources_member document (paths_of ms)) no_resources ms else bad name

-- the resources of the document: at most 300
abbrev pub resources_in : Tree → Text → Tree → Read ResourcesRead
resources_in document name t = object_in name t >>= resources_from document name
