-- What an administration request asks of the book, or how it is answered where it asks nothing.
use Rattle.std.specs.Prelude.{Bool, true, false, List, ℕ, codes, Option, Some, None, Result, Ok, Err}
use Rattle.book_rules.specs.declared.events.Command.{Command}
use Rattle.call_facts.specs.declared.request.Request.{Request}
use Rattle.call_facts.specs.declared.target.Target.{Target}
use Rattle.method_flow.specs.declared.answers.Made.{Made}
use Rattle.admin_routes.specs.Answers.{refused_made}
use Rattle.admin_routes.specs.Asked.{Asked, asked_by}
use Rattle.admin_routes.specs.Origins.{has_foreign_origin}
use Rattle.admin_routes.specs.Routes.{route_in, segments_of}
use Rattle.admin_routes.specs.declared.routes.Route.{Route}

abbrev pub order_by : Asked → Result Command Made
order_by (Ok command) = Ok command
order_by (Err why) = Err (refused_made 400 why)

abbrev pub order_at : Option Route → List ℕ → Result Command Made
order_at None body = Err (refused_made 404 (codes "NoRoute"))
order_at (Some route) body = order_by (asked_by route body)

-- an order of a page of another site is refused
abbrev pub order_from : Bool → Request → Target → Result Command Made
order_from true r target = Err (refused_made 403 (codes "Origin"))
order_from false r target = order_at (route_in r.method (segments_of target)) r.body

-- the size of the body is tested first, then who sends it, then the route, then the body's form
abbrev pub order_of : Bool → Request → Target → Result Command Made
order_of true r target = Err (refused_made 413 (codes "TooLarge"))
order_of false r target = order_from (has_foreign_origin r.headers) r target
