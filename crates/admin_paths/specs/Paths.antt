-- The table of paths.
use Rattle.std.specs.Prelude.{ℕ, Bool, true, false, ◌&&◌, List, [], ◌∷◌, codes, Option, Some, None, if◌then◌else◌}
use Rattle.std.specs.Str.{bytes_eq}
use Rattle.admin_paths.specs.declared.paths.AdminPath.{AdminPath}
use Rattle.admin_paths.specs.declared.paths.AdminPath.TheVariants.{Document, Template, Deployments, Stage, Canary, Promote, Flush, Key, Plan, PlanKey, Grant, Usage, Shutdown}
use Rattle.admin_paths.specs.declared.table.Form.{Form}
use Rattle.admin_paths.specs.declared.table.Form.TheVariants as form

-- a parameter is a segment that has a byte
abbrev pub is_parameter : List ℕ → Bool
is_parameter [] = false
is_parameter (b ∷ bs) = true

abbrev pub is_apis : List ℕ → Bool
is_apis segment = bytes_eq segment (codes "apis")

abbrev pub is_keys : List ℕ → Bool
is_keys segment = bytes_eq segment (codes "keys")

abbrev pub is_plans : List ℕ → Bool
is_plans segment = bytes_eq segment (codes "plans")

-- a stage of an API, and a key of a plan
abbrev pub is_stage : List ℕ → List ℕ → List ℕ → List ℕ → Bool
is_stage first api kind stage = is_apis first && is_parameter api && bytes_eq kind (codes "stages") && is_parameter stage

abbrev pub is_plan_key : List ℕ → List ℕ → List ℕ → List ℕ → Bool
is_plan_key first plan kind key = is_plans first && is_parameter plan && is_keys kind && is_parameter key

-- the path of the table with these segments
unfoldable pub path_in : List (List ℕ) → Option AdminPath
path_in [] = None
path_in (only ∷ []) = if bytes_eq only (codes "shutdown") then Some Shutdown else None
path_in (first ∷ name ∷ []) =
    if is_apis first && is_parameter name then Some (Document name)
    else if is_keys first && is_parameter name then Some (Key name)
    else if is_plans first && is_parameter name then Some (Plan name)
    else None
path_in (first ∷ api ∷ last ∷ []) =
    if is_apis first && is_parameter api && bytes_eq last (codes "deployments") then Some (Deployments api)
    else if is_apis first && is_parameter api && bytes_eq last (codes "text") then Some (Template api)
    else None
path_in (first ∷ name ∷ kind ∷ second ∷ []) =
    if is_stage first name kind second then Some (Stage name second)
    else if is_plan_key first name kind second then Some (PlanKey name second)
    else None
path_in (first ∷ name ∷ kind ∷ second ∷ last ∷ []) =
    if is_stage first name kind second && bytes_eq last (codes "canary") then Some (Canary name second)
    else if is_stage first name kind second && bytes_eq last (codes "flush") then Some (Flush name second)
    else if is_stage first name kind second && bytes_eq last (codes "promote") then Some (Promote name second)
    else if is_plan_key first name kind second && bytes_eq last (codes "grant") then Some (Grant name second)
    else if is_plan_key first name kind second && bytes_eq last (codes "usage") then Some (Usage name second)
    else None
path_in (first ∷ name ∷ kind ∷ second ∷ last ∷ more ∷ rest) = None

-- the paths of a form, by the number of its parameters
abbrev pub without : Form → Option AdminPath
without form.Shutdown = Some Shutdown
without other = None

abbrev pub with_one : Form → List ℕ → Option AdminPath
with_one form.Document name = Some (Document name)
with_one form.Template name = Some (Template name)
with_one form.Deployments name = Some (Deployments name)
with_one form.Key name = Some (Key name)
with_one form.Plan name = Some (Plan name)
with_one other name = None

abbrev pub with_two : Form → List ℕ → List ℕ → Option AdminPath
with_two form.Stage first second = Some (Stage first second)
with_two form.Canary first second = Some (Canary first second)
with_two form.Promote first second = Some (Promote first second)
with_two form.Flush first second = Some (Flush first second)
with_two form.PlanKey first second = Some (PlanKey first second)
with_two form.Grant first second = Some (Grant first second)
with_two form.Usage first second = Some (Usage first second)
with_two other first second = None

-- the parameters of a path of this form, at their places among the segments
abbrev pub read_by : Form → List (List ℕ) → Option AdminPath
read_by wanted (only ∷ []) = without wanted
read_by wanted (literal ∷ name ∷ []) = with_one wanted name
read_by wanted (literal ∷ name ∷ last ∷ []) = with_one wanted name
read_by wanted (literal ∷ first ∷ kind ∷ second ∷ []) = with_two wanted first second
read_by wanted (literal ∷ first ∷ kind ∷ second ∷ last ∷ []) = with_two wanted first second
read_by wanted segments = None
