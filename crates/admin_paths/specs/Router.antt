-- The rows of a router of the table.
use Rattle.std.specs.Prelude.{ℕ, List, [], ◌∷◌, codes, Result, Ok, Err}
use Rattle.std.specs.Borrow.{Bor}
use Rattle.matchit.specs.Rows.{RowsOf}
use Rattle.matchit.specs.Order.{placed}
use Rattle.matchit.specs.Route.{parse_route, Scan}
use Rattle.matchit.specs.Router.{RouteOf, route_from}
use Rattle.matchit.specs.declared.error.InsertError.{InsertError}
use Rattle.admin_paths.specs.declared.paths.AdminPath.{AdminPath}
use Rattle.admin_paths.specs.declared.paths.AdminPath.TheVariants as path
use Rattle.admin_paths.specs.declared.table.Form.{Form}
use Rattle.admin_paths.specs.declared.table.Form.TheVariants.{Document, Template, Deployments, Stage, Canary, Promote, Flush, Key, Plan, PlanKey, Grant, Usage, Shutdown}

abbrev pub Routes : Type 0
Routes = RowsOf (RouteOf Form)

-- the rows with the route that was read
abbrev pub with_read : Result Scan InsertError → Form → Routes → Routes
with_read (Ok scan) form rows = placed (scan.pattern, route_from scan form) rows
with_read (Err error) form rows = rows

-- the rows with the routes of these texts, in turn
abbrev pub with_routes : Routes → List (List ℕ × Form) → Routes
with_routes rows [] = rows
with_routes rows ((text, form) ∷ rest) = with_routes (with_read (parse_route text) form rows) rest

-- the paths, each with its form
abbrev pub table : List (List ℕ × Form)
table =
    (codes "apis/{api}", Document)
    ∷ (codes "apis/{api}/text", Template)
    ∷ (codes "apis/{api}/deployments", Deployments)
    ∷ (codes "apis/{api}/stages/{stage}", Stage)
    ∷ (codes "apis/{api}/stages/{stage}/canary", Canary)
    ∷ (codes "apis/{api}/stages/{stage}/promote", Promote)
    ∷ (codes "apis/{api}/stages/{stage}/flush", Flush)
    ∷ (codes "keys/{key}", Key)
    ∷ (codes "plans/{plan}", Plan)
    ∷ (codes "plans/{plan}/keys/{key}", PlanKey)
    ∷ (codes "plans/{plan}/keys/{key}/grant", Grant)
    ∷ (codes "plans/{plan}/keys/{key}/usage", Usage)
    ∷ (codes "shutdown", Shutdown) ∷ []

abbrev pub rows : Routes
rows = with_routes [] table

abbrev pub path_view : Bor (List ℕ) × Form → List ℕ × Form
path_view p = (p.0.now, p.1)

-- which path of the table this is
abbrev pub form_of : AdminPath → Form
form_of (path.Document api) = Document
form_of (path.Template api) = Template
form_of (path.Deployments api) = Deployments
form_of (path.Stage api stage) = Stage
form_of (path.Canary api stage) = Canary
form_of (path.Promote api stage) = Promote
form_of (path.Flush api stage) = Flush
form_of (path.Key key) = Key
form_of (path.Plan plan) = Plan
form_of (path.PlanKey plan key) = PlanKey
form_of (path.Grant plan key) = Grant
form_of (path.Usage plan key) = Usage
form_of path.Shutdown = Shutdown
