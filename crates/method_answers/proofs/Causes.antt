-- Each answer to a request for an API that is a document names its cause.
use Rattle.std.proofs.Common.{ℕ, Bool, true, false, List, Option, Some, None, Result, Ok, Err}
use Rattle.api_model.specs.Definition.{Definition}
use Rattle.api_model.specs.Getters.{authorizer_of}
use Rattle.api_parts.specs.declared.parts.ResponseRule.{ResponseRule}
use Rattle.api_parts.specs.declared.parts.TokenAuthorizer.{TokenAuthorizer}
use Rattle.authorizer_call.specs.Names.{arn_of}
use Rattle.authorizer_call.specs.Outcomes.{allows}
use Rattle.authorizer_call.specs.declared.fault.AuthorizerFault.{AuthorizerFault}
use Rattle.backend_core.specs.declared.outcome.Outcome.{Outcome}
use Rattle.backend_core.specs.declared.outcome.Outcome.TheVariants as outcomes
use Rattle.call_facts.specs.declared.answer.Answer.{Answer}
use Rattle.call_facts.specs.declared.facts.CallFacts.{CallFacts}
use Rattle.call_facts.specs.declared.kind.Kind.{Kind}
use Rattle.call_facts.specs.declared.request.Request.{Request}
use Rattle.call_facts.specs.declared.request.WireReply.{WireReply}
use Rattle.call_facts.specs.declared.target.Target.{Target}
use Rattle.gateway_answers.proofs.Causes.{names_one_cause}
use Rattle.gateway_answers.specs.Answers.{failed_made}
use Rattle.integration_flow.specs.Choosing.{chosen, rules_of}
use Rattle.integration_flow.specs.Mocking.{mock_reply}
use Rattle.integration_flow.specs.Stopping.{Flow}
use Rattle.integration_request.specs.Requests.{wire_of}
use Rattle.integration_request.specs.declared.made.Prepared.{Prepared}
use Rattle.integration_request.specs.declared.made.Prepared.TheVariants.{Mock, Wire, Proxy}
use Rattle.method_answers.specs.Calls.{Call}
use Rattle.method_answers.specs.Causes.{Names, NamesAlong, NamesEach, NamesOn, NamesItsCause}
use Rattle.method_answers.specs.Keys.{key_required}
use Rattle.method_answers.specs.Outcomes.{answered_by, mapped_made, outcome_made, reply_made, ruled}
use Rattle.method_answers.specs.Plans.{admitted, asked, authorized, call_at, checked, decided_by, judged, keyed, let_by, planned, prepared, routed, validated, with_key, with_policy}
use Rattle.method_answers.specs.declared.keys.Admission.{Admission}
use Rattle.method_answers.specs.declared.keys.Admission.TheVariants.{Admitted, Refused}
use Rattle.method_answers.proofs.Free.{NamesNone, client_names_none, proxied_names_none}
use Rattle.method_checks.specs.Routing.{route_of}
use Rattle.method_checks.specs.Tokens.{token_of}
use Rattle.method_checks.specs.Validating.{failed_check}
use Rattle.method_checks.specs.declared.routes.Route.{Route}
use Rattle.method_checks.specs.declared.routes.Route.TheVariants.{TextApi, Hit, Missing}
use Rattle.method_checks.specs.declared.tokens.Token.{Token}
use Rattle.method_checks.specs.declared.tokens.Token.TheVariants as token
use Rattle.policy_core.specs.Decisions.{decision}
use Rattle.policy_core.specs.declared.policy.Policy.{Policy}

of_failure : (kind : Kind) (message : List ℕ) (d : Option Definition) (f : CallFacts) → Names (failed_made kind message d f)
of_failure kind message d f = names_one_cause kind message d f

of_answer : (c : Call) (made : Flow Answer) → NamesNone made → Names (answered_by c made)
of_answer c (Ok answer) none = none
of_answer c (Err stop) none = of_failure _ _ _ _

of_rule : (c : Call) (reply : WireReply) (rule : Option ResponseRule) → NamesNone (ruled c reply rule)
of_rule c reply None = tt
of_rule c reply (Some rule) = client_names_none rule c.request c.target c.found c.facts reply

of_mapped : (c : Call) (reply : WireReply) → Names (mapped_made c reply)
unfolding mapped_made
of_mapped c reply = of_answer c _ (of_rule c reply (chosen (rules_of c.definition c.method) reply.status))

of_reply : (passes : Bool) (c : Call) (reply : WireReply) → Names (reply_made passes c reply)
of_reply true c reply = proxied_names_none reply
of_reply false c reply = of_mapped c reply

of_outcome : (passes : Bool) (c : Call) (outcome : Outcome) → Names (outcome_made passes c outcome)
of_outcome passes c (outcomes.Reply reply) = of_reply passes c reply
of_outcome passes c outcomes.Failed = of_failure _ _ _ _
of_outcome passes c outcomes.TimedOut = of_failure _ _ _ _
of_outcome passes c outcomes.Memory = of_failure _ _ _ _

of_prepared : (c : Call) (made : Flow Prepared) → NamesEach (prepared c made)
of_prepared c (Err stop) = of_failure _ _ _ _
of_prepared c (Ok (Mock status)) = of_mapped c (mock_reply status)
of_prepared c (Ok (Wire request)) = of_outcome false c
of_prepared c (Ok (Proxy request)) = of_outcome true c

of_check : (c : Call) (failed : Option (Kind × List ℕ)) → NamesEach (checked c failed)
of_check c (Some failed) = of_failure _ _ _ _
of_check c None = of_prepared c (wire_of c.definition c.method c.request c.target c.found c.facts)

of_checks : (c : Call) → NamesEach (validated c)
of_checks c = of_check c (failed_check c.definition c.method c.request c.target c.found)

of_admission : (c : Call) (a : Admission) → NamesEach (admitted c a)
of_admission c (Admitted key) = of_checks (with_key c key)
of_admission c (Refused kind) = of_failure _ _ _ _

of_keyed : (b : Bool) (c : Call) → NamesOn (keyed b c)
of_keyed true c = of_admission c
of_keyed false c = of_checks c

of_let_by : (c : Call) → NamesOn (let_by c)
of_let_by c = of_keyed (key_required c.definition c.method) c

of_decision : (b : Bool) (c : Call) → NamesOn (decided_by b c)
of_decision true c = of_let_by c
of_decision false c = of_failure _ _ _ _

of_given : (c : Call) (arn : List ℕ) (given : Result Policy AuthorizerFault) → NamesOn (judged c arn given)
of_given c arn (Ok policy) = of_decision (allows (decision policy arn)) (with_policy c policy)
of_given c arn (Err why) = of_failure _ _ _ _

of_asked : (c : Call) (arn text : List ℕ) (a : Option TokenAuthorizer) → NamesAlong (asked c arn text a)
of_asked c arn text None = of_let_by c
of_asked c arn text (Some a) = of_given c arn

of_token : (c : Call) (t : Token) → NamesAlong (authorized c t)
of_token c token.None = of_let_by c
of_token c token.Bad = of_failure _ _ _ _
of_token c (token.Taken text) = of_asked c (arn_of c.target c.request.method) text (authorizer_of c.definition c.method)

of_found : (d : Definition) (r : Request) (t : Target) (f : CallFacts) (route : Route) → NamesAlong (routed d r t f route)
of_found d r t f TextApi = of_failure _ _ _ _
of_found d r t f (Hit found method) = of_token (call_at d r t f found method) (token_of d method r)
of_found d r t f Missing = of_failure _ _ _ _

pub names_each : NamesItsCause
unfolding planned
names_each d r t f = of_found d r t f (route_of d r t)
