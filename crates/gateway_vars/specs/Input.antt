-- The values of $input.
use Rattle.std.specs.Prelude.{ℕ, ◌==◌, List, [], ◌∷◌, length, Option, Some, None, if◌then◌else◌, codes}
use Rattle.std.specs.Prelude as std
use Rattle.std.specs.Option.{unwrap_or, option_or}
use Rattle.std.specs.Str.{bytes_eq}
use Rattle.std.specs.Str.Lossy.{utf8_lossy}
use Rattle.vtl_eval.specs.Roots.{Stepped, name, place, method}
use Rattle.vtl_values.specs.Kinds.{text_in}
use Rattle.vtl_values.specs.Making.{mapped}
use Rattle.vtl_values.specs.Val.{Val, null, text}
use Rattle.gateway_vars.specs.Documents.{json_at, value_at, no_text}
use Rattle.call_facts.specs.Pairs.{Pairs, first_value, header_value}
use Rattle.gw_base.specs.Names.{lower}
use Rattle.gateway_vars.specs.Values.{text_or_null, only}

-- the parameters of a request: of its path, of its query and of its header
pub record Params : Type 0 where
  pub path : Pairs
  pub query : Pairs
  pub header : Pairs

-- $input.params(x): the path counts before the query, and that before the header
abbrev pub param : Params → List ℕ → Option (List ℕ)
param ps x = option_or (first_value ps.path x) (option_or (first_value ps.query x) (header_value ps.header x))

-- the map of these names, each with the value of its first
abbrev pub named_row : Pairs → List ℕ × List ℕ → Val × Val
named_row ps p = (text p.0, text_or_null (first_value ps p.0))

unfoldable pub named_map : Pairs → Val
named_map ps = mapped (std.map (named_row ps) ps)

-- the same of header fields, their names in lower case
abbrev pub header_row : Pairs → List ℕ × List ℕ → Val × Val
header_row ps p = (text (lower p.0), text_or_null (header_value ps p.0))

unfoldable pub header_map : Pairs → Val
header_map ps = mapped (std.map (header_row ps) ps)

-- $input.params()
unfoldable pub all_params : Params → Val
all_params ps = mapped ((text (codes "path"), named_map ps.path) ∷ (text (codes "querystring"), named_map ps.query) ∷ (text (codes "header"), header_map ps.header) ∷ [])

-- an argument that is no text is no path, and names no parameter; a parameter that stands nowhere is the empty text
abbrev pub json_of : List ℕ → Option (List ℕ) → Val
json_of body None = text no_text
json_of body (Some p) = text (json_at body p)

abbrev pub path_of : List ℕ → Option (List ℕ) → Val
path_of body None = null
path_of body (Some p) = value_at body p

abbrev pub param_of : Params → Option (List ℕ) → Val
param_of ps None = text []
param_of ps (Some x) = text (unwrap_or (param ps x) [])

abbrev pub input_method : List ℕ → Params → List ℕ → Option (List ℕ) → Val
input_method body ps m argument =
    if bytes_eq m (codes "json") then json_of body argument
    else if bytes_eq m (codes "path") then path_of body argument
    else if bytes_eq m (codes "params") then param_of ps argument
    else null

abbrev pub input_one : List ℕ → Params → List ℕ → Option Val → Val
input_one body ps m None = null
input_one body ps m (Some v) = input_method body ps m (text_in v)

abbrev pub input_none : Params → List ℕ → Val
input_none ps m = if bytes_eq m (codes "params") then all_params ps else null

abbrev pub input_call : List ℕ → Params → List ℕ → List Val → Val
input_call body ps m arguments = if length arguments == 0 then input_none ps m else input_one body ps m (only arguments)

abbrev pub input_named : List ℕ → List ℕ → Val
input_named body x = if bytes_eq x (codes "body") then text (utf8_lossy body) else null

abbrev pub input_step : List ℕ → Params → Stepped → Val
input_step body ps (name x) = input_named body x
input_step body ps (place v) = null
input_step body ps (method m arguments) = input_call body ps m arguments

abbrev pub input_by : List ℕ → Params → Option Stepped → Val
input_by body ps None = null
input_by body ps (Some s) = input_step body ps s

unfoldable pub input_value : List ℕ → Params → List Stepped → Val
input_value body ps path = input_by body ps (only path)
