-- Behind what an authorizer's answers stand (API Gateway Developer Guide, "Gateway response types": UNAUTHORIZED, ACCESS_DENIED,
-- AUTHORIZER_FAILURE, AUTHORIZER_CONFIGURATION_ERROR).
use Rattle.std.specs.Prelude.{◌≡◌, ◌⊎◌, ℕ, Bool, true, false, List, [], ◌∷◌, ◌++◌, Option, Some, None, Result, Ok, Err}
use Rattle.std.specs.Option.{option_map}
use Rattle.authorizer_call.specs.Names.{arn_of}
use Rattle.authorizer_call.specs.Outcomes.{allows, policy_of}
use Rattle.authorizer_call.specs.declared.fault.AuthorizerFault.{AuthorizerFault}
use Rattle.authorizer_call.specs.declared.fault.AuthorizerFault.TheVariants.{Configuration}
use Rattle.book_rules.specs.declared.events.Event.{Event}
use Rattle.book_rules.specs.declared.events.Event.TheVariants.{Enter, Recall, Learn, Admit, Admin, Leave}
use Rattle.book_rules.specs.declared.replies.Reply.{Reply}
use Rattle.call_facts.specs.Target.{target_of}
use Rattle.call_facts.specs.declared.kind.Kind.{Kind}
use Rattle.call_facts.specs.declared.kind.Kind.TheVariants.{AccessDenied, AuthorizerConfigurationError, AuthorizerFailure, Unauthorized}
use Rattle.gate_walk.specs.Acts.{Act, took, refused, sent, Goes}
use Rattle.gate_walk.specs.Walk.{answers, policy_in, walk}
use Rattle.gate_walk.specs.declared.message.Message.{Message}
use Rattle.method_answers.specs.Plans.{fault_kind}
use Rattle.policy_core.specs.Decisions.{decision}
use Rattle.policy_core.specs.declared.policy.Policy.{Policy}

-- the policy that a Recall is replied, where one is remembered
abbrev pub recalled_by : Event → Reply → Option Policy
recalled_by (Enter moment word api stage) reply = None
recalled_by (Recall moment name) reply = policy_in reply
recalled_by (Learn moment name policy ttl) reply = None
recalled_by (Admit moment api stage value) reply = None
recalled_by (Admin moment command) reply = None
recalled_by (Leave status cause) reply = None

-- what an act gives of an authorizer: a policy that is remembered, or what an exchange comes to
abbrev pub given_by : Act → Option (Result Policy AuthorizerFault)
given_by (took event kept reply) = option_map Ok (recalled_by event reply)
given_by (refused event full) = None
given_by (sent request outcome) = Some (policy_of outcome)

-- one of the acts gives this
abbrev pub Gave : List Act → Result Policy AuthorizerFault → Type 0
Gave acts given = (front : List Act) × (act : Act) × (rest : List Act) × (acts ≡ front ++ act ∷ rest) × (given_by act ≡ Some given)

-- none of the acts gives anything
abbrev pub GaveNothing : List Act → Type 0
GaveNothing [] = Unit {0}
GaveNothing (act ∷ acts) = (given_by act ≡ None) × GaveNothing acts

-- behind these acts an answer to the call of this name may have this cause
abbrev pub StandsBehind : List ℕ → Kind → List Act → Type 0
StandsBehind arn AccessDenied acts = (policy : Policy) × Gave acts (Ok policy) × (allows (decision policy arn) ≡ false)
StandsBehind arn AuthorizerConfigurationError acts = Gave acts (Err Configuration) ⊎ GaveNothing acts
StandsBehind arn AuthorizerFailure acts = (why : AuthorizerFault) × Gave acts (Err why) × (fault_kind why ≡ AuthorizerFailure)
StandsBehind arn Unauthorized acts = GaveNothing acts
StandsBehind arn kind acts = Unit {0}

-- AN AUTHORIZER'S ANSWER STANDS BEHIND ITS CAUSE, whatever a message is replied
abbrev pub TellsItsAuthorizer : Type 0
TellsItsAuthorizer =
    (m : Message) (acts : List Act) (kind : Kind) (bytes : List ℕ) (closing : Bool) → Goes (walk m) acts (answers (Some kind) bytes closing)
    → StandsBehind (arn_of (target_of m.request.target) m.request.method) kind acts
