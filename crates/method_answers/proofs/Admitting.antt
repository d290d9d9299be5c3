-- The kinds that tell of an admission come of one alone.
use Rattle.std.proofs.Common.{◌≡◌, ℕ, Bool, true, false, ◌&&◌, List, [], ◌∷◌, Option, Some, None, Result, Ok, Err, refl}
use Rattle.std.specs.Prelude.{IfSome}
use Rattle.std.specs.Option.{option_map}
use Rattle.api_model.specs.Definition.{Definition}
use Rattle.api_model.specs.Getters.{authorizer_of, or_second, validator_of}
use Rattle.api_parts.specs.declared.parts.Parameter.{Parameter}
use Rattle.api_parts.specs.declared.parts.TokenAuthorizer.{TokenAuthorizer}
use Rattle.api_parts.specs.declared.parts.Validator.{Validator}
use Rattle.authorizer_call.specs.Names.{arn_of}
use Rattle.authorizer_call.specs.Outcomes.{allows}
use Rattle.authorizer_call.specs.declared.fault.AuthorizerFault.{AuthorizerFault}
use Rattle.authorizer_call.specs.declared.fault.AuthorizerFault.TheVariants as fault
use Rattle.backend_core.specs.declared.outcome.Outcome.{Outcome}
use Rattle.backend_core.specs.declared.outcome.Outcome.TheVariants as outcomes
use Rattle.call_facts.specs.declared.answer.Answer.{Answer}
use Rattle.call_facts.specs.declared.facts.CallFacts.{CallFacts}
use Rattle.call_facts.specs.declared.request.Request.{Request}
use Rattle.call_facts.specs.declared.request.WireReply.{WireReply}
use Rattle.call_facts.specs.declared.target.Target.{Target}
use Rattle.integration_flow.specs.Choosing.{chosen, rules_of}
use Rattle.integration_flow.specs.Mocking.{mock_reply}
use Rattle.integration_flow.specs.Stopping.{Flow}
use Rattle.integration_flow.specs.declared.stops.FlowStop.{FlowStop}
use Rattle.integration_flow.specs.declared.stops.FlowStop.TheVariants.{Media, Config, Memory}
use Rattle.integration_request.specs.Requests.{wire_of}
use Rattle.integration_request.specs.declared.made.Prepared.{Prepared}
use Rattle.integration_request.specs.declared.made.Prepared.TheVariants.{Mock, Wire, Proxy}
use Rattle.method_answers.specs.Admitting.{AsksWhereKeyed, TellsAlong, TellsBy, TellsItsAdmission, TellsNone, TellsNoneEach, TellsOn, asks_admission, hits_keyed, is_authorized, is_let_by, lets_by, tells_admission, way_along}
use Rattle.method_answers.specs.Calls.{Call}
use Rattle.method_answers.specs.Failing.{failed_by as failure}
use Rattle.method_answers.specs.Keys.{key_required}
use Rattle.method_answers.specs.Outcomes.{answered_by, mapped_made, outcome_made, reply_made, ruled, stopped}
use Rattle.method_answers.specs.Plans.{admitted, asked, authorized, call_at, checked, decided_by, fault_kind, judged, keyed, let_by, planned, prepared, refused_by, routed, validated, with_key, with_policy}
use Rattle.method_answers.specs.declared.keys.Admission.{Admission}
use Rattle.method_answers.specs.declared.keys.Admission.TheVariants.{Admitted, Refused}
use Rattle.media_types.specs.MediaTypes.{media_type}
use Rattle.method_checks.specs.Missing.{missing_names}
use Rattle.method_checks.specs.Routing.{route_of}
use Rattle.method_checks.specs.Tokens.{token_of}
use Rattle.method_checks.specs.Validating.{Failed, failed_body, failed_by, failed_by_names, failed_check, failed_if, failed_parameters, model_for, parameters_of, refuses}
use Rattle.method_checks.specs.declared.routes.Route.{Route}
use Rattle.method_checks.specs.declared.routes.Route.TheVariants.{TextApi, Hit, Missing}
use Rattle.method_checks.specs.declared.tokens.Token.{Token}
use Rattle.method_checks.specs.declared.tokens.Token.TheVariants as token
use Rattle.policy_core.specs.Decisions.{decision}
use Rattle.policy_core.specs.declared.policy.Policy.{Policy}
use Rattle.resource_tree.specs.declared.found.Found.{Found}

-- a check fails by no such kind
abbrev Fails : Failed → Type 0
Fails failed = IfSome failed (λ p. tells_admission p.0 ≡ false)

by_names : (names : List (List ℕ)) → Fails (failed_by_names names)
by_names [] = tt
by_names (name ∷ names) = refl

by_parameters : (b : Bool) (r : Request) (t : Target) (found : Found) (ps : List Parameter) → Fails (failed_parameters b r t found ps)
by_parameters true r t found ps = by_names (missing_names r t found ps)
by_parameters false r t found ps = tt

by_refusal : (b : Bool) → Fails (failed_if b)
by_refusal true = refl
by_refusal false = tt

by_body : (b : Bool) (d : Definition) (n : ℕ) (r : Request) → Fails (failed_body b d n r)
by_body true d n r = by_refusal (refuses (model_for d n (media_type r.headers)) r.body)
by_body false d n r = tt

by_either : (a b : Failed) → Fails a → Fails b → Fails (or_second a b)
by_either (Some p) b first second = first
by_either None b first second = second

by_validator : (v : Option Validator) (d : Definition) (n : ℕ) (r : Request) (t : Target) (found : Found) → Fails (failed_by v d n r t found)
by_validator None d n r t found = tt
by_validator (Some v) d n r t found =
    by_either (failed_parameters v.parameters r t found (parameters_of d n)) (failed_body v.body d n r) (by_parameters v.parameters r t found (parameters_of d n)) (by_body v.body d n r)

by_check : (d : Definition) (n : ℕ) (r : Request) (t : Target) (found : Found) → Fails (failed_check d n r t found)
unfolding failed_check
by_check d n r t found = by_validator (option_map (λ (v : List ℕ × Validator). v.1) (validator_of d n)) d n r t found

-- nor does an integration
of_stop : (c : Call) (stop : FlowStop) → TellsNone (stopped c stop)
of_stop c Media = refl
of_stop c Config = refl
of_stop c Memory = refl

of_answer : (c : Call) (made : Flow Answer) → TellsNone (answered_by c made)
of_answer c (Ok answer) = tt
of_answer c (Err stop) = of_stop c stop

of_mapped : (c : Call) (reply : WireReply) → TellsNone (mapped_made c reply)
unfolding mapped_made
of_mapped c reply = of_answer c (ruled c reply (chosen (rules_of c.definition c.method) reply.status))

of_reply : (passes : Bool) (c : Call) (reply : WireReply) → TellsNone (reply_made passes c reply)
of_reply true c reply = tt
of_reply false c reply = of_mapped c reply

of_outcome : (passes : Bool) (c : Call) (outcome : Outcome) → TellsNone (outcome_made passes c outcome)
of_outcome passes c (outcomes.Reply reply) = of_reply passes c reply
of_outcome passes c outcomes.Failed = refl
of_outcome passes c outcomes.TimedOut = refl
of_outcome passes c outcomes.Memory = refl

of_prepared : (c : Call) (made : Flow Prepared) → TellsNoneEach (prepared c made)
of_prepared c (Err stop) = of_stop c stop
of_prepared c (Ok (Mock status)) = of_mapped c (mock_reply status)
of_prepared c (Ok (Wire request)) = of_outcome false c
of_prepared c (Ok (Proxy request)) = of_outcome true c

of_checked : (c : Call) (failed : Failed) → Fails failed → TellsNoneEach (checked c failed)
of_checked c (Some failed) fails = fails
of_checked c None fails = of_prepared c (wire_of c.definition c.method c.request c.target c.found c.facts)

of_checks : (c : Call) → TellsNoneEach (validated c)
of_checks c = of_checked c (failed_check c.definition c.method c.request c.target c.found) (by_check c.definition c.method c.request c.target c.found)

of_admission : (c : Call) (a : Admission) → TellsBy a (admitted c a)
of_admission c (Admitted key) = of_checks (with_key c key)
of_admission c (Refused kind) = (failure kind c.definition c.facts, refl, refl)

of_keyed : (b : Bool) (c : Call) → TellsOn (keyed b c)
of_keyed true c = of_admission c
of_keyed false c = of_checks c

of_let_by : (c : Call) → TellsOn (let_by c)
of_let_by c = of_keyed (key_required c.definition c.method) c

of_decision : (b : Bool) (c : Call) → TellsOn (decided_by b c)
of_decision true c = of_let_by c
of_decision false c = refl

of_fault : (c : Call) (why : AuthorizerFault) → TellsOn (refused_by c (fault_kind why))
of_fault c fault.Failure = refl
of_fault c fault.Configuration = refl
of_fault c fault.Memory = refl

of_given : (c : Call) (arn : List ℕ) (given : Result Policy AuthorizerFault) → TellsOn (judged c arn given)
of_given c arn (Ok policy) = of_decision (allows (decision policy arn)) (with_policy c policy)
of_given c arn (Err why) = of_fault c why

of_asked : (c : Call) (arn text : List ℕ) (a : Option TokenAuthorizer) → TellsAlong (asked c arn text a)
of_asked c arn text None = of_let_by c
of_asked c arn text (Some a) = of_given c arn

of_token : (c : Call) (t : Token) → TellsAlong (authorized c t)
of_token c token.None = of_let_by c
of_token c token.Bad = refl
of_token c (token.Taken text) = of_asked c (arn_of c.target c.request.method) text (authorizer_of c.definition c.method)

of_route : (d : Definition) (r : Request) (t : Target) (f : CallFacts) (route : Route) → TellsAlong (routed d r t f route)
of_route d r t f TextApi = refl
of_route d r t f (Hit found method) = of_token (call_at d r t f found method) (token_of d method r)
of_route d r t f Missing = refl

pub tells_its_admission : TellsItsAdmission
unfolding planned
tells_its_admission d r t f = of_route d r t f (route_of d r t)

-- where an admission is asked for
asks_by : (b : Bool) (c : Call) → asks_admission (keyed b c) ≡ b
asks_by true c = refl
asks_by false c = refl

asks_let_by : (c : Call) → asks_admission (let_by c) ≡ key_required c.definition c.method
asks_let_by c = asks_by (key_required c.definition c.method) c

asks_decided : (b : Bool) (c : Call) → asks_admission (decided_by b c) ≡ (b && key_required c.definition c.method)
asks_decided true c = asks_let_by c
asks_decided false c = refl

asks_given : (c : Call) (arn : List ℕ) (given : Result Policy AuthorizerFault) → asks_admission (judged c arn given) ≡ (lets_by arn given && key_required c.definition c.method)
asks_given c arn (Ok policy) = asks_decided (allows (decision policy arn)) (with_policy c policy)
asks_given c arn (Err why) = refl

asks_asked :
    (c : Call) (arn text : List ℕ) (given : Result Policy AuthorizerFault) (a : Option TokenAuthorizer)
    → asks_admission (way_along given (asked c arn text a)) ≡ (is_let_by arn given a && key_required c.definition c.method)
asks_asked c arn text given None = asks_let_by c
asks_asked c arn text given (Some a) = asks_given c arn given

asks_token :
    (c : Call) (given : Result Policy AuthorizerFault) (t : Token)
    → asks_admission (way_along given (authorized c t)) ≡ (is_authorized c.definition c.request c.target c.method given t && key_required c.definition c.method)
asks_token c given token.None = asks_let_by c
asks_token c given token.Bad = refl
asks_token c given (token.Taken text) = asks_asked c (arn_of c.target c.request.method) text given (authorizer_of c.definition c.method)

asks_at :
    (d : Definition) (r : Request) (t : Target) (f : CallFacts) (given : Result Policy AuthorizerFault) (route : Route)
    → asks_admission (way_along given (routed d r t f route)) ≡ hits_keyed d r t given route
asks_at d r t f given TextApi = refl
asks_at d r t f given (Hit found method) = asks_token (call_at d r t f found method) given (token_of d method r)
asks_at d r t f given Missing = refl

pub asks_where_keyed : AsksWhereKeyed
unfolding planned
asks_where_keyed d r t f given = asks_at d r t f given (route_of d r t)
