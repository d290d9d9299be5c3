-- The causes that answers name.
use Rattle.std.specs.Prelude.{◌≡◌, List, [], ◌∷◌, ℕ, Option, Some, None, Result}
use Rattle.authorizer_call.specs.declared.fault.AuthorizerFault.{AuthorizerFault}
use Rattle.api_model.specs.Definition.{Definition}
use Rattle.backend_core.specs.declared.outcome.Outcome.{Outcome}
use Rattle.call_facts.specs.Kinds.{kind_name}
use Rattle.call_facts.specs.declared.facts.CallFacts.{CallFacts}
use Rattle.call_facts.specs.declared.kind.Kind.{Kind}
use Rattle.call_facts.specs.declared.request.Request.{Request}
use Rattle.call_facts.specs.declared.target.Target.{Target}
use Rattle.gateway_answers.specs.Causes.{causes_in}
use Rattle.method_answers.specs.Plans.{Course, Planned, Way, admits, answered, consults, exchanges, free, goes, planned}
use Rattle.method_answers.specs.declared.keys.Admission.{Admission}
use Rattle.method_flow.specs.declared.answers.Made.{Made}
use Rattle.policy_core.specs.declared.policy.Policy.{Policy}

abbrev pub names_of : Option Kind → List (List ℕ)
names_of None = []
names_of (Some kind) = kind_name kind ∷ []

-- the headers of an answer name its cause, and no other
abbrev pub Names : Made → Type 0
Names made = causes_in made.answer.headers ≡ names_of made.cause

-- so does each answer that a plan may come to
abbrev pub NamesEach : Planned → Type 0
NamesEach (answered made) = Names made
NamesEach (exchanges request next) = (outcome : Outcome) → Names (next outcome)

-- and each that a way leads to, whatever its admission
abbrev pub NamesOn : Way → Type 0
NamesOn (goes plan) = NamesEach plan
NamesOn (admits target value next) = (a : Admission) → NamesEach (next a)

-- and whatever an authorizer gives
abbrev pub NamesAlong : Course → Type 0
NamesAlong (free way) = NamesOn way
NamesAlong (consults target question next) = (given : Result Policy AuthorizerFault) → NamesOn (next given)

-- and whatever a request to an API that is a document comes to
abbrev pub NamesItsCause : Type 0
NamesItsCause = (d : Definition) (r : Request) (t : Target) (f : CallFacts) → NamesAlong (planned d r t f)
