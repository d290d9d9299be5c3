-- What a request to an API that is a document comes to.
use Rattle.std.specs.Prelude.{ℕ, Bool, true, false, List, [], slice_get, Option, Some, None, Result, Ok, Err}
use Rattle.std.specs.Option.{option_map, unwrap_or}
use Rattle.api_model.specs.Definition.{Definition, parts_of}
use Rattle.api_model.specs.Getters.{authorizer_of}
use Rattle.api_parts.specs.declared.parts.TokenAuthorizer.{TokenAuthorizer}
use Rattle.api_resources.specs.Resources.{path_of}
use Rattle.authorizer_call.specs.Names.{arn_of}
use Rattle.authorizer_call.specs.Outcomes.{allows}
use Rattle.authorizer_call.specs.declared.fault.AuthorizerFault.{AuthorizerFault}
use Rattle.authorizer_call.specs.declared.fault.AuthorizerFault.TheVariants as fault
use Rattle.backend_core.specs.declared.outcome.Outcome.{Outcome}
use Rattle.backend_core.specs.declared.request.WireRequest.{WireRequest}
use Rattle.call_facts.specs.declared.facts.CallFacts.{CallFacts}
use Rattle.call_facts.specs.declared.kind.Kind.{Kind}
use Rattle.call_facts.specs.declared.kind.Kind.TheVariants.{AccessDenied, ApiConfigurationError, AuthorizerConfigurationError, AuthorizerFailure, MissingAuthenticationToken, Unauthorized}
use Rattle.call_facts.specs.declared.request.Request.{Request}
use Rattle.call_facts.specs.declared.target.Target.{Target}
use Rattle.gateway_answers.specs.Answers.{failed_made}
use Rattle.integration_flow.specs.Mocking.{mock_reply}
use Rattle.integration_flow.specs.Stopping.{Flow}
use Rattle.integration_request.specs.Requests.{wire_of}
use Rattle.integration_request.specs.declared.made.Prepared.{Prepared}
use Rattle.integration_request.specs.declared.made.Prepared.TheVariants.{Mock, Wire, Proxy}
use Rattle.method_answers.specs.Calls.{Call}
use Rattle.method_answers.specs.Failing.{failed_by}
use Rattle.method_answers.specs.Keys.{key_required, key_value}
use Rattle.method_answers.specs.Outcomes.{mapped_made, outcome_made, stopped}
use Rattle.method_answers.specs.Questions.{Question, question_of}
use Rattle.method_answers.specs.declared.keys.Admission.{Admission}
use Rattle.method_answers.specs.declared.keys.Admission.TheVariants.{Admitted, Refused}
use Rattle.method_answers.specs.declared.plans.Course.{Course as Coursing}
use Rattle.method_answers.specs.declared.plans.Course.TheVariants.{Free, Consults}
use Rattle.method_answers.specs.declared.plans.Plan.{Plan}
use Rattle.method_answers.specs.declared.plans.Plan.TheVariants.{Answered, Asks}
use Rattle.method_answers.specs.declared.plans.Way.{Way as Planning}
use Rattle.method_answers.specs.declared.plans.Way.TheVariants.{Goes, Admits}
use Rattle.method_checks.specs.Routing.{route_of}
use Rattle.method_checks.specs.Tokens.{token_of}
use Rattle.method_checks.specs.Validating.{failed_check}
use Rattle.method_checks.specs.declared.tokens.Token.{Token}
use Rattle.method_checks.specs.declared.tokens.Token.TheVariants as token
use Rattle.method_checks.specs.declared.routes.Route.{Route}
use Rattle.method_checks.specs.declared.routes.Route.TheVariants.{TextApi, Hit, Missing}
use Rattle.method_flow.specs.declared.answers.Made.{Made}
use Rattle.policy_core.specs.Decisions.{decision}
use Rattle.policy_core.specs.declared.policy.Policy.{Policy}
use Rattle.resource_tree.specs.declared.found.Found.{Found}

-- an answer; or a request to a backend, and what each outcome of that exchange is answered
pub data Planned : Type 0 where
  answered : Made → Planned
  exchanges : WireRequest → (Outcome → Made) → Planned

-- what is planned; or the stage that is to admit the call by the value that it hands in, and what each admission leads to
pub data Way : Type 0 where
  goes : Planned → Way
  admits : Target → List ℕ → (Admission → Planned) → Way

-- the way; or the stage under which an authorizer is asked a question, and the way that its policy, or the want of one, leads to
pub data Course : Type 0 where
  free : Way → Course
  consults : Target → Question → (Result Policy AuthorizerFault → Way) → Course

-- what is known of a call behind its route: the resource's path too, as the document has it
abbrev pub at_resource : Definition → CallFacts → ℕ → CallFacts
at_resource d f n = record f { resource = unwrap_or (option_map path_of (slice_get (parts_of d).resources n)) [] }

-- by what the integration prepares: a status for its response rules, or a request whose reply is mapped, or passed on
abbrev pub prepared : Call → Flow Prepared → Planned
prepared c (Err stop) = answered (stopped c stop)
prepared c (Ok (Mock status)) = answered (mapped_made c (mock_reply status))
prepared c (Ok (Wire request)) = exchanges request (outcome_made false c)
prepared c (Ok (Proxy request)) = exchanges request (outcome_made true c)

abbrev pub integrated : Call → Planned
integrated c = prepared c (wire_of c.definition c.method c.request c.target c.found c.facts)

-- behind the checks: what failed is told with its message, and where nothing failed, the method is integrated
abbrev pub checked : Call → Option (Kind × List ℕ) → Planned
checked c (Some failed) = answered (failed_made failed.0 failed.1 (Some c.definition) c.facts)
checked c None = integrated c

abbrev pub call_at : Definition → Request → Target → CallFacts → Found → ℕ → Call
call_at d r t f found method = record { definition = d; method = method; request = r; target = t; found = found; facts = at_resource d f found.resource }

-- the method's checks are made
abbrev pub validated : Call → Planned
validated c = checked c (failed_check c.definition c.method c.request c.target c.found)

abbrev pub with_key : Call → List ℕ → Call
with_key c key = record { definition = c.definition; method = c.method; request = c.request; target = c.target; found = c.found; facts = record c.facts { key = Some key } }

-- a call that a key admits goes on, and the key is known of it; one that none admits is answered with the kind that tells why
abbrev pub admitted : Call → Admission → Planned
admitted c (Admitted key) = validated (with_key c key)
admitted c (Refused kind) = answered (failed_by kind c.definition c.facts)

-- before the checks: where the method asks for a key, the call must be admitted
abbrev pub keyed : Bool → Call → Way
keyed true c = admits c.target (key_value c.request) (admitted c)
keyed false c = goes (validated c)

-- behind the authorizer
abbrev pub let_by : Call → Way
let_by c = keyed (key_required c.definition c.method) c

abbrev pub with_policy : Call → Policy → Call
with_policy c policy = record { definition = c.definition; method = c.method; request = c.request; target = c.target; found = c.found; facts = record c.facts { policy = Some policy } }

abbrev pub refused_by : Call → Kind → Way
refused_by c kind = goes (answered (failed_by kind c.definition c.facts))

abbrev pub decided_by : Bool → Call → Way
decided_by true c = let_by c
decided_by false c = refused_by c AccessDenied

-- The kind that tells why an authorizer gives no policy. Want of memory has none: it comes to no answer at all.
abbrev pub fault_kind : AuthorizerFault → Kind
fault_kind fault.Failure = AuthorizerFailure
fault_kind fault.Configuration = AuthorizerConfigurationError
fault_kind fault.Memory = AuthorizerFailure

-- a call that the policy allows by its name goes on, and the policy is known of it; where there is none, it is told why
abbrev pub judged : Call → List ℕ → Result Policy AuthorizerFault → Way
judged c arn (Ok policy) = decided_by (allows (decision policy arn)) (with_policy c policy)
judged c arn (Err why) = refused_by c (fault_kind why)

abbrev pub asked : Call → List ℕ → List ℕ → Option TokenAuthorizer → Course
asked c arn token None = free (let_by c)
asked c arn token (Some a) = consults c.target (question_of a.authorizer token arn) (judged c arn)

-- by the token that the call hands in: a token is taken for an authorizer alone
abbrev pub authorized : Call → Token → Course
authorized c token.None = free (let_by c)
authorized c token.Bad = free (refused_by c Unauthorized)
authorized c (token.Taken text) = asked c (arn_of c.target c.request.method) text (authorizer_of c.definition c.method)

-- behind the route, where it hits a method
abbrev pub routed : Definition → Request → Target → CallFacts → Route → Course
routed d r t f Missing = free (goes (answered (failed_by MissingAuthenticationToken d f)))
routed d r t f (Hit found method) = authorized (call_at d r t f found method) (token_of d method r)
routed d r t f TextApi = free (goes (answered (failed_by ApiConfigurationError d f)))

-- what a request comes to: the first of the route, the authorizer, the key, the parameters and the body that fails is answered,
-- else the method's integration
unfoldable pub planned : Definition → Request → Target → CallFacts → Course
planned d r t f = routed d r t f (route_of d r t)

-- what a plan is
abbrev pub plan_of : Plan → Planned
plan_of (Answered made) = answered made
plan_of (Asks exchange) = exchanges exchange.request (outcome_made exchange.passes exchange.call)

-- what a way is
abbrev pub way_of : Planning → Way
way_of (Goes plan) = goes (plan_of plan)
way_of (Admits keyed) = admits keyed.call.target (key_value keyed.call.request) (admitted keyed.call)

-- what a course is
abbrev pub course_of : Coursing → Course
course_of (Free way) = free (way_of way)
course_of (Consults asking) = consults asking.call.target asking.question (judged asking.call asking.arn)
