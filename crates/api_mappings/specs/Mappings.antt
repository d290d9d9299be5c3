-- The targets and the sources of mappings.
use Rattle.std.specs.Prelude.{ℕ, ◌==◌, Bool, true, false, not, ◌&&◌, ◌||◌, List, ◌++◌, length, codes, Option, Some, None, Result, Ok, Err, if◌then◌else◌}
use Rattle.resource_tree.specs.Parameters as path
use Rattle.resource_tree.specs.Reading.{before_last, parts_of}
use Rattle.resource_tree.specs.declared.part.Part.{Part}
use Rattle.vtl_texts.specs.Places.{behind}
use Rattle.jsonpath_core.specs.Reading.{path_of}
use Rattle.jsonpath_core.specs.Steps.{Step}
use Rattle.jsonpath_core.specs.declared.fault.PathFault.{PathFault}
use Rattle.api_parts.specs.declared.parts.ParameterPlace.{ParameterPlace}
use Rattle.api_parts.specs.declared.parts.ParameterPlace.TheVariants.{Path, Query, Header}
use Rattle.api_parts.specs.declared.parts.Origin.{Origin}
use Rattle.api_parts.specs.declared.parts.Origin.TheVariants as origin
use Rattle.gw_base.specs.Names.{is_name, is_token}
use Rattle.api_mappings.specs.Names.{is_dotted, is_own_header, is_path_name}

-- a place in a message, and a name there
abbrev pub Spot : Type 0
Spot = ParameterPlace × List ℕ

abbrev pub spot_by : Option (List ℕ) → Option (List ℕ) → Option (List ℕ) → Option Spot
spot_by (Some name) query header = if is_path_name name then Some (Path, name) else None
spot_by None (Some name) header = if not (length name == 0) then Some (Query, name) else None
spot_by None None (Some name) = if is_token name then Some (Header, name) else None
spot_by None None None = None

-- `path.N`, `querystring.N` or `header.N`
unfoldable pub spot : List ℕ → Option Spot
spot text = spot_by (behind (codes "path.") text) (behind (codes "querystring.") text) (behind (codes "header.") text)

abbrev pub spot_behind : Option (List ℕ) → Option Spot
spot_behind None = None
spot_behind (Some rest) = spot rest

-- a parameter of a request: `method.request.path.N` and its like
unfoldable pub request_parameter : List ℕ → Option Spot
request_parameter text = spot_behind (behind (codes "method.request.") text)

abbrev pub among_parts : List ℕ → Option (List Part) → Bool
among_parts name None = false
among_parts name (Some parts) = path.has_parameter name parts

-- a path has a part `{N}` or `{N+}`
unfoldable pub has_parameter : List ℕ → List ℕ → Bool
has_parameter path name = among_parts name (parts_of path)

-- a parameter of the path is one that the resource has
abbrev pub stands_in : List ℕ → Spot → Bool
stands_in path (Path, name) = has_parameter path name
stands_in path (Query, name) = true
stands_in path (Header, name) = true

abbrev pub if_stands : List ℕ → Option Spot → Option Spot
if_stands path None = None
if_stands path (Some s) = if stands_in path s then Some s else None

-- a parameter that a method of a resource may name
unfoldable pub parameter_of : List ℕ → List ℕ → Option Spot
parameter_of path text = if_stands path (request_parameter text)

-- targets

abbrev pub may_be_written : Spot → Bool
may_be_written (Path, name) = true
may_be_written (Query, name) = true
may_be_written (Header, name) = not (is_own_header name)

abbrev pub if_written : Option Spot → Option Spot
if_written None = None
if_written (Some s) = if may_be_written s then Some s else None

-- where a value may be written in a backend's request: `integration.request.path.N` and its like
unfoldable pub request_target : List ℕ → Option Spot
request_target text = if_written (spot_behind (behind (codes "integration.request.") text))

abbrev pub header_named : Option (List ℕ) → Option Spot
header_named None = None
header_named (Some name) = if is_token name && not (is_own_header name) then Some (Header, name) else None

-- and in an answer: `method.response.header.N`, or a header of the gateway's own answers
unfoldable pub response_target : List ℕ → Option Spot
response_target text = header_named (behind (codes "method.response.header.") text)

unfoldable pub gateway_target : List ℕ → Option Spot
gateway_target text = header_named (Some text)

-- sources

abbrev pub quoted_by : Option (List ℕ) → Option Origin
quoted_by None = None
quoted_by (Some inner) = Some (origin.Static inner)

abbrev pub quoted : Option (List ℕ) → Option Origin
quoted None = None
quoted (Some rest) = quoted_by (before_last 39 rest)

abbrev pub plain_by : List ℕ → Option (List ℕ) → Option (List ℕ) → Option Origin
plain_by text (Some name) variable = if is_dotted name then Some (origin.Context name) else None
plain_by text None (Some name) = if is_name name then Some (origin.StageVariable name) else None
plain_by text None None = quoted (behind (codes "'") text)

-- `context.X`, `stageVariables.N` or `'text'`
unfoldable pub plain_source : List ℕ → Option Origin
plain_source text = plain_by text (behind (codes "context.") text) (behind (codes "stageVariables.") text)

abbrev pub body_by : Result (List Step) PathFault → Option Origin
body_by (Ok steps) = Some (origin.Body steps)
body_by (Err fault) = None

-- a part of a body, by its path behind `$.`
unfoldable pub body_source : List ℕ → Option Origin
body_source rest = body_by (path_of (codes "$." ++ rest))

abbrev pub from_parameter : Option Spot → Option Origin
from_parameter None = None
from_parameter (Some s) = Some (origin.Parameter s.0 s.1)

abbrev pub request_by : List ℕ → List ℕ → Option (List ℕ) → Option (List ℕ) → Option Origin
request_by path text (Some rest) o = body_source rest
request_by path text None (Some rest) = from_parameter (if_stands path (spot rest))
request_by path text None None = plain_source text

-- what may be mapped into a backend's request, of a method of the resource of this path
unfoldable pub request_source : List ℕ → List ℕ → Option Origin
request_source path text = request_by path text (behind (codes "method.request.body.") text) (behind (codes "method.request.") text)

abbrev pub reply_header : List ℕ → Option Origin
reply_header name = if is_token name then Some (origin.ReplyHeader name) else None

abbrev pub response_by : List ℕ → Option (List ℕ) → Option (List ℕ) → Option Origin
response_by text (Some rest) header = body_source rest
response_by text None (Some name) = reply_header name
response_by text None None = plain_source text

-- what may be mapped into an answer
unfoldable pub response_source : List ℕ → Option Origin
response_source text = response_by text (behind (codes "integration.response.body.") text) (behind (codes "integration.response.header.") text)
