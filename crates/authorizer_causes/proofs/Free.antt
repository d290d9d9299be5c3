-- Answers that no authorizer has part in tell none of its kinds.
use Rattle.std.proofs.Common.{◌≡◌, ℕ, Bool, true, false, List, [], ◌∷◌, Option, Some, None, Ok, Err, refl}
use Rattle.std.specs.Prelude.{IfSome}
use Rattle.std.specs.Option.{option_map}
use Rattle.api_model.specs.Definition.{Definition}
use Rattle.api_model.specs.Getters.{or_second, validator_of}
use Rattle.api_parts.specs.declared.parts.Parameter.{Parameter}
use Rattle.api_parts.specs.declared.parts.Validator.{Validator}
use Rattle.backend_core.specs.declared.outcome.Outcome.{Outcome}
use Rattle.backend_core.specs.declared.outcome.Outcome.TheVariants as outcomes
use Rattle.book_rules.specs.declared.replies.Reply.{Reply}
use Rattle.book_rules.specs.declared.replies.Reply.TheVariants.{Entered, NoStage, Remembered, NotRemembered, Learned, Admitted, InvalidKey, Throttled, QuotaExceeded, Store, Left, Done, Deployed, Usage, Refused}
use Rattle.call_facts.specs.declared.answer.Answer.{Answer}
use Rattle.call_facts.specs.declared.kind.Kind.{Kind}
use Rattle.call_facts.specs.declared.kind.Kind.TheVariants.{AccessDenied, AuthorizerConfigurationError, AuthorizerFailure, Unauthorized}
use Rattle.call_facts.specs.declared.request.Request.{Request}
use Rattle.call_facts.specs.declared.request.WireReply.{WireReply}
use Rattle.call_facts.specs.declared.target.Target.{Target}
use Rattle.gate_walk.specs.Walk.{admission_of}
use Rattle.integration_flow.specs.Choosing.{chosen, rules_of}
use Rattle.integration_flow.specs.Mocking.{mock_reply}
use Rattle.integration_flow.specs.Stopping.{Flow}
use Rattle.integration_flow.specs.declared.stops.FlowStop.{FlowStop}
use Rattle.integration_flow.specs.declared.stops.FlowStop.TheVariants.{Media, Config, Memory}
use Rattle.integration_request.specs.Requests.{wire_of}
use Rattle.integration_request.specs.declared.made.Prepared.{Prepared}
use Rattle.integration_request.specs.declared.made.Prepared.TheVariants.{Mock, Wire, Proxy}
use Rattle.method_answers.specs.Calls.{Call}
use Rattle.method_answers.specs.Keys.{key_required}
use Rattle.method_answers.specs.Outcomes.{answered_by, mapped_made, outcome_made, reply_made, ruled, stopped}
use Rattle.method_answers.specs.Plans.{Planned, Way, admits, admitted, answered, checked, exchanges, goes, keyed, let_by, prepared, validated, with_key}
use Rattle.media_types.specs.MediaTypes.{media_type}
use Rattle.method_checks.specs.Missing.{missing_names}
use Rattle.method_checks.specs.Validating.{Failed, failed_body, failed_by, failed_by_names, failed_check, failed_if, failed_parameters, model_for, parameters_of, refuses}
use Rattle.method_flow.specs.declared.answers.Made.{Made}
use Rattle.resource_tree.specs.declared.found.Found.{Found}

abbrev pub tells_authorizer : Kind → Bool
tells_authorizer AccessDenied = true
tells_authorizer AuthorizerConfigurationError = true
tells_authorizer AuthorizerFailure = true
tells_authorizer Unauthorized = true
tells_authorizer kind = false

-- the cause of an answer is none of them
abbrev pub NoneTold : Made → Type 0
NoneTold made = IfSome made.cause (λ kind. tells_authorizer kind ≡ false)

-- nor is that of any answer that a plan may come to, and a way, whatever the book replies to its Admit
abbrev pub NoneEach : Planned → Type 0
NoneEach (answered made) = NoneTold made
NoneEach (exchanges request next) = (outcome : Outcome) → NoneTold (next outcome)

abbrev pub NoneOn : Way → Type 0
NoneOn (goes plan) = NoneEach plan
NoneOn (admits target value next) = (reply : Reply) → NoneEach (next (admission_of reply))

-- a check fails by no such kind
abbrev Fails : Failed → Type 0
Fails failed = IfSome failed (λ p. tells_authorizer p.0 ≡ false)

by_names : (names : List (List ℕ)) → Fails (failed_by_names names)
by_names [] = tt
by_names (name ∷ names) = refl

by_parameters : (b : Bool) (r : Request) (t : Target) (found : Found) (ps : List Parameter) → Fails (failed_parameters b r t found ps)
by_parameters true r t found ps = by_names (missing_names r t found ps)
by_parameters false r t found ps = tt

by_refusal : (b : Bool) → Fails (failed_if b)
by_refusal true = refl
by_refusal false = tt

by_body : (b : Bool) (d : Definition) (n : ℕ) (r : Request) → Fails (failed_body b d n r)
by_body true d n r = by_refusal (refuses (model_for d n (media_type r.headers)) r.body)
by_body false d n r = tt

by_either : (a b : Failed) → Fails a → Fails b → Fails (or_second a b)
by_either (Some p) b first second = first
by_either None b first second = second

by_validator : (v : Option Validator) (d : Definition) (n : ℕ) (r : Request) (t : Target) (found : Found) → Fails (failed_by v d n r t found)
by_validator None d n r t found = tt
by_validator (Some v) d n r t found =
    by_either (failed_parameters v.parameters r t found (parameters_of d n)) (failed_body v.body d n r) (by_parameters v.parameters r t found (parameters_of d n)) (by_body v.body d n r)

by_check : (d : Definition) (n : ℕ) (r : Request) (t : Target) (found : Found) → Fails (failed_check d n r t found)
unfolding failed_check
by_check d n r t found = by_validator (option_map (λ (v : List ℕ × Validator). v.1) (validator_of d n)) d n r t found

-- nor does an integration
of_stop : (c : Call) (stop : FlowStop) → NoneTold (stopped c stop)
of_stop c Media = refl
of_stop c Config = refl
of_stop c Memory = refl

of_answer : (c : Call) (made : Flow Answer) → NoneTold (answered_by c made)
of_answer c (Ok answer) = tt
of_answer c (Err stop) = of_stop c stop

of_mapped : (c : Call) (reply : WireReply) → NoneTold (mapped_made c reply)
unfolding mapped_made
of_mapped c reply = of_answer c (ruled c reply (chosen (rules_of c.definition c.method) reply.status))

of_reply : (passes : Bool) (c : Call) (reply : WireReply) → NoneTold (reply_made passes c reply)
of_reply true c reply = tt
of_reply false c reply = of_mapped c reply

of_outcome : (passes : Bool) (c : Call) (outcome : Outcome) → NoneTold (outcome_made passes c outcome)
of_outcome passes c (outcomes.Reply reply) = of_reply passes c reply
of_outcome passes c outcomes.Failed = refl
of_outcome passes c outcomes.TimedOut = refl
of_outcome passes c outcomes.Memory = refl

of_prepared : (c : Call) (made : Flow Prepared) → NoneEach (prepared c made)
of_prepared c (Err stop) = of_stop c stop
of_prepared c (Ok (Mock status)) = of_mapped c (mock_reply status)
of_prepared c (Ok (Wire request)) = of_outcome false c
of_prepared c (Ok (Proxy request)) = of_outcome true c

of_checked : (c : Call) (failed : Failed) → Fails failed → NoneEach (checked c failed)
of_checked c (Some failed) fails = fails
of_checked c None fails = of_prepared c (wire_of c.definition c.method c.request c.target c.found c.facts)

of_checks : (c : Call) → NoneEach (validated c)
of_checks c = of_checked c (failed_check c.definition c.method c.request c.target c.found) (by_check c.definition c.method c.request c.target c.found)

-- nor does an admission, by a reply of the book
of_reply_to_admit : (c : Call) (reply : Reply) → NoneEach (admitted c (admission_of reply))
of_reply_to_admit c (Admitted key plan) = of_checks (with_key c key)
of_reply_to_admit c InvalidKey = refl
of_reply_to_admit c (Throttled level) = refl
of_reply_to_admit c (QuotaExceeded allowance used) = refl
of_reply_to_admit c Store = refl
of_reply_to_admit c (Entered view) = refl
of_reply_to_admit c NoStage = refl
of_reply_to_admit c (Remembered policy) = refl
of_reply_to_admit c NotRemembered = refl
of_reply_to_admit c Learned = refl
of_reply_to_admit c (Left closing) = refl
of_reply_to_admit c Done = refl
of_reply_to_admit c (Deployed number) = refl
of_reply_to_admit c (Usage usage) = refl
of_reply_to_admit c (Refused refusal) = refl

of_keyed : (b : Bool) (c : Call) → NoneOn (keyed b c)
of_keyed true c = of_reply_to_admit c
of_keyed false c = of_checks c

-- so none is told of a call that no authorizer keeps back
pub of_let_by : (c : Call) → NoneOn (let_by c)
of_let_by c = of_keyed (key_required c.definition c.method) c
