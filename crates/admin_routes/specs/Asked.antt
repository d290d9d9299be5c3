-- What the body of an administration request asks for.
use Rattle.std.specs.Prelude.{ℕ, Bool, true, false, List, [], ◌∷◌, codes, Option, Some, None, if◌then◌else◌, Result, Ok, Err}
use Rattle.std.specs.List.{concat}
use Rattle.std.specs.Str.{bytes_eq}
use Rattle.api_model.specs.Definition.{Definition, document, stated, text}
use Rattle.api_model.specs.Document.{Parts}
use Rattle.api_parts.specs.Printed.{printed}
use Rattle.api_parts.specs.Reading.{Read}
use Rattle.api_parts.specs.declared.fault.ApiFault.{ApiFault}
use Rattle.book_rules.specs.declared.events.Command.{Command}
use Rattle.book_rules.specs.declared.events.Command.TheVariants as command
use Rattle.plan_fields.specs.Fields.{plan_stages_of, quota_of, throttle_of}
use Rattle.record_fields.specs.Coding.{fields_of, text_of}
use Rattle.record_fields.specs.Numbers.{number_of}
use Rattle.record_fields.specs.Pairs.{pairs_of}
use Rattle.record_fields.specs.Writing.{coded, field}
use Rattle.admin_routes.specs.declared.routes.Route.{Route}
use Rattle.admin_routes.specs.declared.routes.Route.TheVariants.{PutDocument, PutTemplate, Deploy, PutStage, PutCanary, Promote, Flush, PutKey, PutPlan, JoinKey, Grant, Usage, Shutdown}

-- a command, or why the body has none
abbrev pub Asked : Type 0
Asked = Result Command (List ℕ)

unfoldable pub no_record : List ℕ
no_record = codes "BadRecord"

-- a definition's fault and its place
unfoldable pub fault_line : ApiFault → List ℕ
fault_line fault = concat (coded (printed fault.cause) ∷ codes " at " ∷ field fault.place ∷ [])

-- a definition is put where it is read
abbrev pub put_by : List ℕ → Definition → Read Parts → Asked
put_by api definition (Ok parts) = Ok (command.PutApi api definition)
put_by api definition (Err fault) = Err (fault_line fault)

-- a template is text
abbrev pub template_by : List ℕ → Option (List ℕ) → Asked
template_by api None = Err no_record
template_by api (Some template) = put_by api (text template) (stated (text template))

-- a deployment's number and variables
abbrev pub stage_with : List ℕ → List ℕ → Option ℕ → Option (List (List ℕ × List ℕ)) → Asked
stage_with api stage (Some number) (Some pairs) = Ok (command.PutStage api stage number (record { pairs = pairs }))
stage_with api stage number pairs = Err no_record

abbrev pub stage_by : List ℕ → List ℕ → Option (List (List ℕ)) → Asked
stage_by api stage None = Err no_record
stage_by api stage (Some []) = Err no_record
stage_by api stage (Some (number ∷ fields)) = stage_with api stage (number_of 32 number) (pairs_of fields)

infixl 10 ◌>>=◌
-- a part of a body: where it breaks its form, so does the body
abbrev pub ◌>>=◌ : {A : Type 0} → Option A → (A → Asked) → Asked
None >>= next = Err no_record
(Some part) >>= next = next part

-- a canary's deployment, its share and its variables
unfoldable pub canary_with : List ℕ → List ℕ → List ℕ → List ℕ → List (List ℕ) → Asked
canary_with api stage d s fields = do
  deployment ← number_of 32 d
  share ← number_of 32 s
  variables ← pairs_of fields
  Ok (command.PutCanary api stage deployment share (record { pairs = variables }))

abbrev pub canary_in : List ℕ → List ℕ → List (List ℕ) → Asked
canary_in api stage (deployment ∷ share ∷ variables) = canary_with api stage deployment share variables
canary_in api stage fields = Err no_record

abbrev pub canary_by : List ℕ → List ℕ → Option (List (List ℕ)) → Asked
canary_by api stage fields = fields >>= canary_in api stage

-- the value of a key, and whether it is enabled
unfoldable pub is_on : List ℕ → Option Bool
is_on field = if bytes_eq field (codes "on") then Some true else if bytes_eq field (codes "off") then Some false else None

unfoldable pub key_with : List ℕ → List ℕ → List ℕ → Asked
key_with key v e = do
  value ← text_of v
  enabled ← is_on e
  Ok (command.PutKey key value enabled)

abbrev pub key_in : List ℕ → List (List ℕ) → Asked
key_in key (value ∷ enabled ∷ []) = key_with key value enabled
key_in key fields = Err no_record

abbrev pub key_by : List ℕ → Option (List (List ℕ)) → Asked
key_by key fields = fields >>= key_in key

-- a plan's throttle, its quota and its stages
unfoldable pub plan_with : List ℕ → List ℕ → List ℕ → List (List ℕ) → Asked
plan_with plan t q fields = do
  throttle ← throttle_of t
  quota ← quota_of q
  stages ← plan_stages_of fields
  Ok (command.PutPlan plan throttle quota stages)

abbrev pub plan_in : List ℕ → List (List ℕ) → Asked
plan_in plan (throttle ∷ quota ∷ stages) = plan_with plan throttle quota stages
plan_in plan fields = Err no_record

abbrev pub plan_by : List ℕ → Option (List (List ℕ)) → Asked
plan_by plan fields = fields >>= plan_in plan

-- how many calls more
unfoldable pub grant_with : List ℕ → List ℕ → List ℕ → Asked
grant_with plan key n = do
  amount ← number_of 64 n
  Ok (command.Grant plan key amount)

abbrev pub grant_in : List ℕ → List ℕ → List (List ℕ) → Asked
grant_in plan key (amount ∷ []) = grant_with plan key amount
grant_in plan key fields = Err no_record

abbrev pub grant_by : List ℕ → List ℕ → Option (List (List ℕ)) → Asked
grant_by plan key fields = fields >>= grant_in plan key

-- what a route asks for with this body; where the table gives none, a body is ignored
unfoldable pub asked_by : Route → List ℕ → Asked
asked_by (PutDocument api) body = put_by api (document body) (stated (document body))
asked_by (PutTemplate api) body = template_by api (text_of body)
asked_by (Deploy api) body = Ok (command.Deploy api)
asked_by (PutStage api stage) body = stage_by api stage (fields_of body)
asked_by (PutCanary api stage) body = canary_by api stage (fields_of body)
asked_by (Promote api stage) body = Ok (command.PromoteCanary api stage)
asked_by (Flush api stage) body = Ok (command.Flush api stage)
asked_by (PutKey key) body = key_by key (fields_of body)
asked_by (PutPlan plan) body = plan_by plan (fields_of body)
asked_by (JoinKey plan key) body = Ok (command.JoinKey plan key)
asked_by (Grant plan key) body = grant_by plan key (fields_of body)
asked_by (Usage plan key) body = Ok (command.Usage plan key)
asked_by Shutdown body = Ok command.Shutdown
