-- The values of $context and of $stageVariables.
use Rattle.std.specs.Prelude.{ℕ, pos, false, List, ◌++◌, Option, Some, None, if◌then◌else◌, codes}
use Rattle.std.specs.Fmt.{decimal}
use Rattle.std.specs.Str.{bytes_eq}
use Rattle.vtl_eval.specs.Roots.{Stepped, name, place, method}
use Rattle.vtl_values.specs.Kinds.{text_in}
use Rattle.vtl_values.specs.Val.{Val, null, boolean, whole, text}
use Rattle.call_facts.specs.Kinds.{kind_name}
use Rattle.gateway_vars.specs.Escapes.{hex_digits, json_string}
use Rattle.call_facts.specs.Pairs.{Pairs, first_value, last_value, header_value}
use Rattle.gateway_vars.specs.Values.{text_or_null, name_or_null, only, both}
use Rattle.call_facts.specs.declared.request.Request.{Request}
use Rattle.call_facts.specs.declared.facts.CallFacts.{CallFacts}
use Rattle.call_facts.specs.declared.kind.Kind.{Kind}
use Rattle.call_facts.specs.declared.target.Target.{Target}
use Rattle.policy_core.specs.declared.policy.Policy.{Policy}

-- on which occasion a template is rendered: at a call, whose target stands beside it, or in a gateway response of this kind
-- and with this message, where no request is seen
pub data Occasion : Type 0 where
  call : Request → Target → Occasion
  failure : Kind → List ℕ → Occasion

-- AWS: "$context variables". Those of one name: of the request, whose path is here all that stands behind the API,
abbrev pub stage_path : Target → List ℕ
stage_path t = codes "/" ++ t.stage ++ t.path

abbrev pub of_request : Occasion → List ℕ → Val
of_request (call r t) x =
    if bytes_eq x (codes "httpMethod") then text r.method
    else if bytes_eq x (codes "path") then text (stage_path t)
    else null
of_request (failure kind message) x = null

-- and of the call: the request's number has 16 hexadecimal digits in lower case, the deployment's is a text
abbrev pub of_call : Occasion → CallFacts → List ℕ → Val
of_call o f x =
    if bytes_eq x (codes "requestId") then text (hex_digits false 16 f.place)
    else if bytes_eq x (codes "requestTimeEpoch") then whole (pos f.at)
    else if bytes_eq x (codes "deploymentId") then text (decimal f.deployment)
    else if bytes_eq x (codes "isCanaryRequest") then boolean f.canary
    else of_request o x

unfoldable pub context_named : Occasion → CallFacts → List ℕ → Val
context_named o f x =
    if bytes_eq x (codes "apiId") then text f.api
    else if bytes_eq x (codes "stage") then text f.stage
    else if bytes_eq x (codes "resourcePath") then text f.resource
    else of_call o f x

-- $context.identity
abbrev pub agent_of : Occasion → Val
agent_of (call r t) = text_or_null (header_value r.headers (codes "user-agent"))
agent_of (failure kind message) = null

unfoldable pub identity_named : Occasion → CallFacts → List ℕ → Val
identity_named o f x =
    if bytes_eq x (codes "apiKeyId") then name_or_null f.key
    else if bytes_eq x (codes "sourceIp") then text (codes "127.0.0.1")
    else if bytes_eq x (codes "userAgent") then agent_of o
    else null

-- $context.authorizer: the principal, and the texts of the policy's context
abbrev pub claim_of : Option Policy → List ℕ → Val
claim_of None x = null
claim_of (Some p) x = if bytes_eq x (codes "principalId") then text p.principal else text_or_null (first_value p.context x)

unfoldable pub claim_named : CallFacts → List ℕ → Val
claim_named f x = claim_of f.policy x

-- $context.error, in a gateway response alone
unfoldable pub error_named : Occasion → List ℕ → Val
error_named (call r t) x = null
error_named (failure kind message) x =
    if bytes_eq x (codes "message") then text message
    else if bytes_eq x (codes "messageString") then text (json_string message)
    else if bytes_eq x (codes "responseType") then text (kind_name kind)
    else null

-- those of two names
abbrev pub context_part : Occasion → CallFacts → List ℕ → List ℕ → Val
context_part o f group x =
    if bytes_eq group (codes "identity") then identity_named o f x
    else if bytes_eq group (codes "authorizer") then claim_named f x
    else if bytes_eq group (codes "error") then error_named o x
    else null

-- an override is null when it is read, and so is every other name
abbrev pub context_one : Occasion → CallFacts → Stepped → Val
context_one o f (name x) = context_named o f x
context_one o f (place v) = null
context_one o f (method m vs) = null

abbrev pub context_below : Occasion → CallFacts → List ℕ → Stepped → Val
context_below o f group (name x) = context_part o f group x
context_below o f group (place v) = null
context_below o f group (method m vs) = null

abbrev pub context_two : Occasion → CallFacts → Stepped → Stepped → Val
context_two o f (name group) s = context_below o f group s
context_two o f (place v) s = null
context_two o f (method m vs) s = null

abbrev pub context_by : Occasion → CallFacts → Option Stepped → Option (Stepped × Stepped) → Val
context_by o f (Some s) steps = context_one o f s
context_by o f None (Some steps) = context_two o f steps.0 steps.1
context_by o f None None = null

unfoldable pub context_value : Occasion → CallFacts → List Stepped → Val
context_value o f path = context_by o f (only path) (both path)

-- $stageVariables.NAME and ['NAME']
abbrev pub variable_of : Pairs → Option (List ℕ) → Val
variable_of ps None = null
variable_of ps (Some x) = text_or_null (last_value ps x)

abbrev pub variable_step : Pairs → Stepped → Val
variable_step ps (name x) = text_or_null (last_value ps x)
variable_step ps (place v) = variable_of ps (text_in v)
variable_step ps (method m vs) = null

abbrev pub variable_by : Pairs → Option Stepped → Val
variable_by ps None = null
variable_by ps (Some s) = variable_step ps s

unfoldable pub variable_value : CallFacts → List Stepped → Val
variable_value f path = variable_by f.variables.pairs (only path)
