-- The methods of $util: each takes one text; of anything else it is null.
use Rattle.std.specs.Prelude.{ℕ, List, Option, Some, None, if◌then◌else◌, codes}
use Rattle.std.specs.Str.{bytes_eq}
use Rattle.vtl_eval.specs.Roots.{Stepped, name, place, method}
use Rattle.vtl_values.specs.Val.{Val, null, text}
use Rattle.gateway_vars.specs.Codings.{url_encoded, url_decoded, base64_encoded, base64_decoded}
use Rattle.gateway_vars.specs.Documents.{parsed}
use Rattle.gateway_vars.specs.Escapes.{script_text}
use Rattle.gateway_vars.specs.Values.{text_or_null, only, text_by}

abbrev pub coding_named : List ℕ → List ℕ → Val
coding_named m t =
    if bytes_eq m (codes "urlEncode") then text (url_encoded t)
    else if bytes_eq m (codes "urlDecode") then text (url_decoded t)
    else if bytes_eq m (codes "base64Encode") then text (base64_encoded t)
    else if bytes_eq m (codes "base64Decode") then text_or_null (base64_decoded t)
    else null

unfoldable pub util_of_text : List ℕ → List ℕ → Val
util_of_text m t =
    if bytes_eq m (codes "escapeJavaScript") then text (script_text t)
    else if bytes_eq m (codes "parseJson") then parsed t
    else coding_named m t

abbrev pub util_of : List ℕ → Option (List ℕ) → Val
util_of m None = null
util_of m (Some t) = util_of_text m t

abbrev pub util_call : List ℕ → List Val → Val
util_call m arguments = util_of m (text_by (only arguments))

abbrev pub util_step : Stepped → Val
util_step (name x) = null
util_step (place v) = null
util_step (method m arguments) = util_call m arguments

abbrev pub util_by : Option Stepped → Val
util_by None = null
util_by (Some s) = util_step s

unfoldable pub util_value : List Stepped → Val
util_value path = util_by (only path)
