-- What a definition document states: the members of its object, in their order.
use Rattle.std.specs.Prelude.{ℕ, Bool, true, false, List, [], ◌∷◌, codes, bytes_eq, map, if◌then◌else◌, Option, Some, None, Ok, Err}
use Rattle.json_subset.specs.Tree.{Tree}
use Rattle.schema_draft4.specs.Compiled.{Compiled}
use Rattle.api_parts.specs.Reading.{Text, Read, ◌>>=◌, each, needed, unknown, Waiting, first_of, waiting_below}
use Rattle.api_parts.specs.declared.parts.GatewayRule.{GatewayRule}
use Rattle.api_parts.specs.declared.parts.Method.{Method}
use Rattle.api_parts.specs.declared.parts.Resource.{Resource}
use Rattle.api_parts.specs.declared.parts.TokenAuthorizer.{TokenAuthorizer}
use Rattle.api_parts.specs.declared.parts.Validator.{Validator}
use Rattle.api_members.specs.Authorizers.{authorizers_in}
use Rattle.api_members.specs.Gateway.{gateways_in}
use Rattle.api_members.specs.Models.{Models, models_in}
use Rattle.api_members.specs.Validators.{validators_in}
use Rattle.api_reading.specs.Values.{number_in, object_in}
use Rattle.api_resources.specs.Resources.{resources_in}

-- the parts of a definition: a template stands for its text, a pattern for its source, a model for its schemas
pub record Parts : Type 0 where
  pub models : Models
  pub validators : List (Text × Validator)
  pub authorizers : List TokenAuthorizer
  pub resources : List Resource
  pub methods : List Method
  pub gateway : List (Text × GatewayRule)

-- what is read of a document so far: whether its version and its resources stand, its parts, and the fault that waits
pub record Top : Type 0 where
  pub version : Bool
  pub listed : Bool
  pub parts : Parts
  pub waiting : Waiting

abbrev pub no_parts : Parts
no_parts = record { models = []; validators = []; authorizers = []; resources = []; methods = []; gateway = [] }

abbrev pub nothing_read : Top
nothing_read = record { version = false; listed = false; parts = no_parts; waiting = None }

abbrev pub authorizers_added : Top → Text → Tree → Read Top
authorizers_added d x t = authorizers_in x t >>= λ xs. Ok (record d { parts = record d.parts { authorizers = xs.list }; waiting = first_of d.waiting (waiting_below x xs.waiting) })

abbrev pub resources_added : Tree → Top → Text → Tree → Read Top
resources_added document d x t = resources_in document x t >>= λ rs. Ok (record d { listed = true; parts = record d.parts { resources = rs.list; methods = rs.methods }; waiting = first_of d.waiting (waiting_below x rs.waiting) })

abbrev pub gateways_added : Top → Text → Tree → Read Top
gateways_added d x t = gateways_in x t >>= λ gs. Ok (record d { parts = record d.parts { gateway = gs.list }; waiting = first_of d.waiting (waiting_below x gs.waiting) })

abbrev pub document_member : Tree → Top → Text → Tree → Read Top
document_member document d x t =
    if bytes_eq x (codes "version") then (number_in 1 1 x t >>= λ n. Ok (record d { version = true }))
    else if bytes_eq x (codes "models") then (models_in x t >>= λ ms. Ok (record d { parts = record d.parts { models = ms } }))
    else if bytes_eq x (codes "validators") then (validators_in x t >>= λ vs. Ok (record d { parts = record d.parts { validators = vs } }))
    else if bytes_eq x (codes "authorizers") then authorizers_added d x t
    else if bytes_eq x (codes "resources") then resources_added document d x t
    else if bytes_eq x (codes "gatewayResponses") then gateways_added d x t
    else unknown x

-- a member that must stand
abbrev pub stands : Text → Bool → Read (Unit {0})
stands name true = Ok tt
stands name false = needed name None

-- a fault that waits is told when all members are of their form
abbrev pub settled : Waiting → Parts → Read Parts
settled None p = Ok p
settled (Some e) p = Err e

abbrev pub parts_of : Top → Read Parts
parts_of d = stands (codes "version") d.version >>= λ u. stands (codes "resources") d.listed >>= λ v. settled d.waiting d.parts

-- the parts that a document states, or its first fault
unfoldable pub stated_by : Tree → Read Parts
stated_by t = object_in [] t >>= λ ms. each (document_member t) nothing_read ms >>= parts_of
