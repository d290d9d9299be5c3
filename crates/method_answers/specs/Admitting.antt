-- What tells of an admission, and where one is asked for.
use Rattle.std.specs.Prelude.{◌≡◌, Bool, true, false, ◌&&◌, List, ℕ, Some, IfSome, Option, None, Result, Ok, Err}
use Rattle.api_model.specs.Definition.{Definition}
use Rattle.api_model.specs.Getters.{authorizer_of}
use Rattle.api_parts.specs.declared.parts.TokenAuthorizer.{TokenAuthorizer}
use Rattle.authorizer_call.specs.Names.{arn_of}
use Rattle.authorizer_call.specs.Outcomes.{allows}
use Rattle.authorizer_call.specs.declared.fault.AuthorizerFault.{AuthorizerFault}
use Rattle.backend_core.specs.declared.outcome.Outcome.{Outcome}
use Rattle.call_facts.specs.declared.facts.CallFacts.{CallFacts}
use Rattle.call_facts.specs.declared.kind.Kind.{Kind}
use Rattle.call_facts.specs.declared.kind.Kind.TheVariants.{InvalidApiKey, QuotaExceeded, StoreFailure, Throttled}
use Rattle.call_facts.specs.declared.request.Request.{Request}
use Rattle.call_facts.specs.declared.target.Target.{Target}
use Rattle.method_answers.specs.Keys.{key_required}
use Rattle.method_answers.specs.Plans.{Course, Planned, Way, admits, answered, consults, exchanges, free, goes, planned}
use Rattle.method_answers.specs.declared.keys.Admission.{Admission}
use Rattle.method_answers.specs.declared.keys.Admission.TheVariants.{Admitted, Refused}
use Rattle.method_checks.specs.Routing.{route_of}
use Rattle.method_checks.specs.Tokens.{token_of}
use Rattle.method_checks.specs.declared.tokens.Token.{Token}
use Rattle.method_checks.specs.declared.tokens.Token.TheVariants as token
use Rattle.method_checks.specs.declared.routes.Route.{Route}
use Rattle.method_checks.specs.declared.routes.Route.TheVariants.{TextApi, Hit, Missing}
use Rattle.method_flow.specs.declared.answers.Made.{Made}
use Rattle.policy_core.specs.Decisions.{decision}
use Rattle.policy_core.specs.declared.policy.Policy.{Policy}

-- the kinds that tell why a call is not admitted
abbrev pub tells_admission : Kind → Bool
tells_admission InvalidApiKey = true
tells_admission QuotaExceeded = true
tells_admission StoreFailure = true
tells_admission Throttled = true
tells_admission kind = false

-- the cause of an answer is none of them
abbrev pub TellsNone : Made → Type 0
TellsNone made = IfSome made.cause (λ kind. tells_admission kind ≡ false)

-- nor is that of any answer that a plan may come to
abbrev pub TellsNoneEach : Planned → Type 0
TellsNoneEach (answered made) = TellsNone made
TellsNoneEach (exchanges request next) = (outcome : Outcome) → TellsNone (next outcome)

-- a refusal comes to the answer of its kind, and a call that is admitted to none of these kinds
abbrev pub TellsBy : Admission → Planned → Type 0
TellsBy (Admitted key) plan = TellsNoneEach plan
TellsBy (Refused kind) plan = (made : Made) × (plan ≡ answered made) × (made.cause ≡ Some kind)

abbrev pub TellsOn : Way → Type 0
TellsOn (goes plan) = TellsNoneEach plan
TellsOn (admits target value next) = (a : Admission) → TellsBy a (next a)

abbrev pub TellsAlong : Course → Type 0
TellsAlong (free way) = TellsOn way
TellsAlong (consults target question next) = (given : Result Policy AuthorizerFault) → TellsOn (next given)

-- whatever a request to an API that is a document comes to, these kinds tell of its admission alone
abbrev pub TellsItsAdmission : Type 0
TellsItsAdmission = (d : Definition) (r : Request) (t : Target) (f : CallFacts) → TellsAlong (planned d r t f)

abbrev pub asks_admission : Way → Bool
asks_admission (goes plan) = false
asks_admission (admits target value next) = true

-- the way that a course takes, where an authorizer that it consults gives this
abbrev pub way_along : Result Policy AuthorizerFault → Course → Way
way_along given (free way) = way
way_along given (consults target question next) = next given

-- what an authorizer gives lets the call of this name by: a policy that allows it
abbrev pub lets_by : List ℕ → Result Policy AuthorizerFault → Bool
lets_by arn (Ok policy) = allows (decision policy arn)
lets_by arn (Err why) = false

-- the authorizer, where there is one, lets the call by
abbrev pub is_let_by : List ℕ → Result Policy AuthorizerFault → Option TokenAuthorizer → Bool
is_let_by arn given None = true
is_let_by arn given (Some a) = lets_by arn given

-- a call is authorized: its method has no authorizer, or it hands in a good token, with which the authorizer lets it by
abbrev pub is_authorized : Definition → Request → Target → ℕ → Result Policy AuthorizerFault → Token → Bool
is_authorized d r t method given token.None = true
is_authorized d r t method given token.Bad = false
is_authorized d r t method given (token.Taken text) = is_let_by (arn_of t r.method) given (authorizer_of d method)

-- a route hits a method that asks for a key, and the call is authorized
abbrev pub hits_keyed : Definition → Request → Target → Result Policy AuthorizerFault → Route → Bool
hits_keyed d r t given Missing = false
hits_keyed d r t given (Hit found method) = is_authorized d r t method given (token_of d method r) && key_required d method
hits_keyed d r t given TextApi = false

-- so does that of a request
abbrev pub is_keyed : Definition → Request → Target → Result Policy AuthorizerFault → Bool
is_keyed d r t given = hits_keyed d r t given (route_of d r t)

-- an admission is asked for exactly there, whatever an authorizer gives
abbrev pub AsksWhereKeyed : Type 0
AsksWhereKeyed =
    (d : Definition) (r : Request) (t : Target) (f : CallFacts) (given : Result Policy AuthorizerFault) → asks_admission (way_along given (planned d r t f)) ≡ is_keyed d r t given
