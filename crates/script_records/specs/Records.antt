-- The records of a script.
use Rattle.std.specs.Prelude.{ℕ, Bool, true, false, ◌&&◌, List, [], ◌∷◌, codes, Option, Some, None, if◌then◌else◌, Result, Ok, Err}
use Rattle.std.specs.Option.{option_and_then, option_map}
use Rattle.std.specs.Str.{bytes_eq}
use Rattle.book_rules.specs.declared.events.Command.TheVariants as command
use Rattle.gw_base.specs.Names.{is_name}
use Rattle.plan_fields.specs.Fields.{throttle_of, quota_of, plan_stages_of}
use Rattle.record_fields.specs.Coding.{fields_of, text_of}
use Rattle.record_fields.specs.Numbers.{number_of}
use Rattle.record_fields.specs.Pairs.{pairs_of}
use Rattle.script_records.specs.declared.records.Record.{Record}
use Rattle.script_records.specs.declared.records.Record.TheVariants.{PutText, PutDocument, Ask, Post, Call}
use Rattle.script_records.specs.declared.records.LineFault.{LineFault}
use Rattle.script_records.specs.declared.records.LineFault.TheVariants.{BadRecord}

-- a record, or why the line has none
abbrev pub Reading : Type 0
Reading = Result Record LineFault

infixl 10 ◌>>=◌
-- a part of a record: where it breaks its form, so does the record
abbrev pub ◌>>=◌ : {A : Type 0} → Option A → (A → Reading) → Reading
None >>= next = Err BadRecord
(Some part) >>= next = next part

unfoldable pub text_record : List ℕ → List ℕ → List ℕ → Reading
text_record m a t = do
  moment ← number_of 64 m
  api ← text_of a
  template ← text_of t
  Ok (PutText moment api template)

unfoldable pub api_record : List ℕ → List ℕ → List ℕ → Reading
api_record m a d = do
  moment ← number_of 64 m
  api ← text_of a
  document ← text_of d
  Ok (PutDocument moment api document)

unfoldable pub deploy_record : List ℕ → List ℕ → Reading
deploy_record m a = do
  moment ← number_of 64 m
  api ← text_of a
  Ok (Ask moment (command.Deploy api))

unfoldable pub stage_record : List ℕ → List ℕ → List ℕ → List ℕ → List (List ℕ) → Reading
stage_record m a s d fields = do
  moment ← number_of 64 m
  api ← text_of a
  stage ← text_of s
  deployment ← number_of 32 d
  variables ← pairs_of fields
  Ok (Ask moment (command.PutStage api stage deployment (record { pairs = variables })))

unfoldable pub canary_record : List ℕ → List ℕ → List ℕ → List ℕ → List ℕ → List (List ℕ) → Reading
canary_record m a s d c fields = do
  moment ← number_of 64 m
  api ← text_of a
  stage ← text_of s
  deployment ← number_of 32 d
  share ← number_of 32 c
  variables ← pairs_of fields
  Ok (Ask moment (command.PutCanary api stage deployment share (record { pairs = variables })))

unfoldable pub promote_record : List ℕ → List ℕ → List ℕ → Reading
promote_record m a s = do
  moment ← number_of 64 m
  api ← text_of a
  stage ← text_of s
  Ok (Ask moment (command.PromoteCanary api stage))

unfoldable pub flush_record : List ℕ → List ℕ → List ℕ → Reading
flush_record m a s = do
  moment ← number_of 64 m
  api ← text_of a
  stage ← text_of s
  Ok (Ask moment (command.Flush api stage))

-- whether a key is enabled
unfoldable pub is_on : List ℕ → Option Bool
is_on field = if bytes_eq field (codes "on") then Some true else if bytes_eq field (codes "off") then Some false else None

unfoldable pub key_record : List ℕ → List ℕ → List ℕ → List ℕ → Reading
key_record m k v e = do
  moment ← number_of 64 m
  key ← text_of k
  value ← text_of v
  enabled ← is_on e
  Ok (Ask moment (command.PutKey key value enabled))

unfoldable pub plan_record : List ℕ → List ℕ → List ℕ → List ℕ → List (List ℕ) → Reading
plan_record m p t q fields = do
  moment ← number_of 64 m
  plan ← text_of p
  throttle ← throttle_of t
  quota ← quota_of q
  stages ← plan_stages_of fields
  Ok (Ask moment (command.PutPlan plan throttle quota stages))

unfoldable pub join_record : List ℕ → List ℕ → List ℕ → Reading
join_record m p k = do
  moment ← number_of 64 m
  plan ← text_of p
  key ← text_of k
  Ok (Ask moment (command.JoinKey plan key))

unfoldable pub grant_record : List ℕ → List ℕ → List ℕ → List ℕ → Reading
grant_record m p k n = do
  moment ← number_of 64 m
  plan ← text_of p
  key ← text_of k
  amount ← number_of 64 n
  Ok (Ask moment (command.Grant plan key amount))

unfoldable pub usage_record : List ℕ → List ℕ → List ℕ → Reading
usage_record m p k = do
  moment ← number_of 64 m
  plan ← text_of p
  key ← text_of k
  Ok (Ask moment (command.Usage plan key))

unfoldable pub shutdown_record : List ℕ → Reading
shutdown_record m = do
  moment ← number_of 64 m
  Ok (Ask moment command.Shutdown)

-- a call's API and stage are names
abbrev pub called : List ℕ → List ℕ → Record → Reading
called api stage found = if is_name api && is_name stage then Ok found else Err BadRecord

-- a post of these numbers, by the fields behind them
unfoldable pub post_behind : ℕ → ℕ → List ℕ → List ℕ → List ℕ → Reading
post_behind moment word a s b = do
  api ← text_of a
  stage ← text_of s
  body ← text_of b
  called api stage (Post moment word api stage body)

unfoldable pub post_record : List ℕ → List ℕ → List ℕ → List ℕ → List ℕ → Reading
post_record m w a s b = do
  moment ← number_of 64 m
  word ← number_of 64 w
  post_behind moment word a s b

unfoldable pub call_record : List ℕ → List ℕ → List ℕ → List (List ℕ) → Reading
call_record m w bytes outcomes = do
  moment ← number_of 64 m
  word ← number_of 64 w
  Ok (Call moment word bytes outcomes)

-- the fields behind a record's name
abbrev pub text_fields : List (List ℕ) → Reading
text_fields (m ∷ a ∷ t ∷ []) = text_record m a t
text_fields fields = Err BadRecord

abbrev pub api_fields : List (List ℕ) → Reading
api_fields (m ∷ a ∷ d ∷ []) = api_record m a d
api_fields fields = Err BadRecord

abbrev pub deploy_fields : List (List ℕ) → Reading
deploy_fields (m ∷ a ∷ []) = deploy_record m a
deploy_fields fields = Err BadRecord

abbrev pub stage_fields : List (List ℕ) → Reading
stage_fields (m ∷ a ∷ s ∷ d ∷ variables) = stage_record m a s d variables
stage_fields fields = Err BadRecord

abbrev pub canary_fields : List (List ℕ) → Reading
canary_fields (m ∷ a ∷ s ∷ d ∷ c ∷ variables) = canary_record m a s d c variables
canary_fields fields = Err BadRecord

abbrev pub promote_fields : List (List ℕ) → Reading
promote_fields (m ∷ a ∷ s ∷ []) = promote_record m a s
promote_fields fields = Err BadRecord

abbrev pub flush_fields : List (List ℕ) → Reading
flush_fields (m ∷ a ∷ s ∷ []) = flush_record m a s
flush_fields fields = Err BadRecord

abbrev pub key_fields : List (List ℕ) → Reading
key_fields (m ∷ k ∷ v ∷ e ∷ []) = key_record m k v e
key_fields fields = Err BadRecord

abbrev pub plan_fields : List (List ℕ) → Reading
plan_fields (m ∷ p ∷ t ∷ q ∷ stages) = plan_record m p t q stages
plan_fields fields = Err BadRecord

abbrev pub join_fields : List (List ℕ) → Reading
join_fields (m ∷ p ∷ k ∷ []) = join_record m p k
join_fields fields = Err BadRecord

abbrev pub grant_fields : List (List ℕ) → Reading
grant_fields (m ∷ p ∷ k ∷ n ∷ []) = grant_record m p k n
grant_fields fields = Err BadRecord

abbrev pub usage_fields : List (List ℕ) → Reading
usage_fields (m ∷ p ∷ k ∷ []) = usage_record m p k
usage_fields fields = Err BadRecord

abbrev pub shutdown_fields : List (List ℕ) → Reading
shutdown_fields (m ∷ []) = shutdown_record m
shutdown_fields fields = Err BadRecord

abbrev pub post_fields : List (List ℕ) → Reading
post_fields (m ∷ w ∷ a ∷ s ∷ b ∷ []) = post_record m w a s b
post_fields fields = Err BadRecord

abbrev pub call_fields : List (List ℕ) → Reading
call_fields (m ∷ w ∷ bytes ∷ outcomes) = call_record m w bytes outcomes
call_fields fields = Err BadRecord

-- the records of keys and plans
unfoldable pub record_of_plans : List ℕ → List (List ℕ) → Reading
record_of_plans name fields =
    if bytes_eq name (codes "key") then key_fields fields
    else if bytes_eq name (codes "plan") then plan_fields fields
    else if bytes_eq name (codes "join") then join_fields fields
    else if bytes_eq name (codes "grant") then grant_fields fields
    else if bytes_eq name (codes "usage") then usage_fields fields
    else Err BadRecord

-- those of stages before them
unfoldable pub record_of_stages : List ℕ → List (List ℕ) → Reading
record_of_stages name fields =
    if bytes_eq name (codes "deploy") then deploy_fields fields
    else if bytes_eq name (codes "stage") then stage_fields fields
    else if bytes_eq name (codes "canary") then canary_fields fields
    else if bytes_eq name (codes "promote") then promote_fields fields
    else if bytes_eq name (codes "flush") then flush_fields fields
    else if bytes_eq name (codes "shutdown") then shutdown_fields fields
    else record_of_plans name fields

-- a post of these numbers, where the fields behind them are these
abbrev pub post_by : ℕ → ℕ → Option (List (List ℕ)) → Reading
post_by moment word (Some (a ∷ s ∷ b ∷ [])) = post_behind moment word a s b
post_by moment word fields = Err BadRecord

-- the record of these fields, the first of which is its name
unfoldable pub record_of : List (List ℕ) → Reading
record_of [] = Err BadRecord
record_of (name ∷ fields) =
    if bytes_eq name (codes "text") then text_fields fields
    else if bytes_eq name (codes "api") then api_fields fields
    else if bytes_eq name (codes "post") then post_fields fields
    else if bytes_eq name (codes "call") then call_fields fields
    else record_of_stages name fields

-- the record of a line, all of whose fields have their form
abbrev pub record_in_fields : Option (List (List ℕ)) → Reading
record_in_fields None = Err BadRecord
record_in_fields (Some fields) = record_of fields

abbrev pub record_in : List ℕ → Reading
record_in line = record_in_fields (fields_of line)

-- The numbers of a `keepfails`, which is no record where it does not come first: one or more, each of 32 bits.
abbrev pub numbers_of : List (List ℕ) → Option (List ℕ)
numbers_of [] = Some []
numbers_of (field ∷ fields) = option_and_then (λ n. option_map (λ ns. n ∷ ns) (numbers_of fields)) (number_of 32 field)

abbrev pub keepfails_fields : List (List ℕ) → Option (List ℕ)
keepfails_fields [] = None
keepfails_fields (field ∷ fields) = numbers_of (field ∷ fields)

unfoldable pub keepfails_of : List (List ℕ) → Option (List ℕ)
keepfails_of [] = None
keepfails_of (name ∷ fields) = if bytes_eq name (codes "keepfails") then keepfails_fields fields else None

abbrev pub fails_in : List ℕ → Option (List ℕ)
fails_in line = option_and_then keepfails_of (fields_of line)
