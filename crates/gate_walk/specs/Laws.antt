-- What holds of ways and of histories.
use Rattle.std.specs.Prelude.{◌≡◌, ◌≤◌, ℕ, Bool, true, false, List, [], ◌∷◌, ◌++◌, length, Option, Some, None, Result}
use Rattle.std.specs.List.{filter}
use Rattle.authorizer_call.specs.declared.fault.AuthorizerFault.{AuthorizerFault}
use Rattle.book_rules.specs.History.{Base}
use Rattle.book_rules.specs.declared.events.Entry.{Entry}
use Rattle.book_rules.specs.declared.events.Event.{Event}
use Rattle.book_rules.specs.declared.events.Event.TheVariants.{Enter, Recall, Learn, Admit, Admin, Leave}
use Rattle.book_rules.specs.declared.replies.Reply.{Reply}
use Rattle.book_rules.specs.declared.replies.Reply.TheVariants.{Entered}
use Rattle.book_rules.specs.declared.replies.View.{View}
use Rattle.call_facts.specs.declared.kind.Kind.{Kind}
use Rattle.call_facts.specs.declared.request.Request.{Request}
use Rattle.call_facts.specs.declared.target.Target.{Target}
use Rattle.gateway_answers.specs.Causes.{causes_in}
use Rattle.gate_walk.specs.Acts.{Act, took, refused, sent, Goes, Stand, entries_of}
use Rattle.gate_walk.specs.Planning.{planned_for}
use Rattle.gate_walk.specs.Walk.{Call, admission_of, answers, is_head, walk}
use Rattle.gate_walk.specs.declared.message.Message.{Message}
use Rattle.http_edge.specs.Answers.{spelled}
use Rattle.method_answers.specs.Admitting.{asks_admission as way_asks, is_keyed, tells_admission, way_along}
use Rattle.method_answers.specs.Causes.{names_of}
use Rattle.method_answers.specs.declared.keys.Admission.TheVariants.{Refused}
use Rattle.method_flow.specs.declared.answers.Made.{Made}
use Rattle.policy_core.specs.declared.policy.Policy.{Policy}

-- acts that stand in a history stand in each longer one in which their seat has no further entry
abbrev pub StandsInLonger : Type 0
StandsInLonger =
    (base : Base) (n : ℕ) (acts : List Act) (before after more : List Entry) → Stand base n before acts after → entries_of n more ≡ [] → Stand base n before acts (after ++ more)

-- An answer that a way comes to is spelled of one whose headers name its cause, and no other.
abbrev pub NamesItsCause : Type 0
NamesItsCause =
    (m : Message) (acts : List Act) (cause : Option Kind) (bytes : List ℕ) (closing : Bool) → Goes (walk m) acts (answers cause bytes closing)
    → (made : Made) × (made.cause ≡ cause) × (bytes ≡ spelled made.answer (is_head m.request) closing) × (causes_in made.answer.headers ≡ names_of cause)

abbrev pub is_admit : Event → Bool
is_admit (Enter moment word api stage) = false
is_admit (Recall moment name) = false
is_admit (Learn moment name policy ttl) = false
is_admit (Admit moment api stage value) = true
is_admit (Admin moment command) = false
is_admit (Leave status cause) = false

-- one of the acts is an Admit whose reply refuses for a reason of this kind
abbrev pub WasRefusedAs : Kind → List Act → Type 0
WasRefusedAs kind acts =
    (front : List Act) × (event : Event) × (kept : Bool) × (reply : Reply) × (rest : List Act)
    × (acts ≡ front ++ took event kept reply ∷ rest) × (is_admit event ≡ true) × (admission_of reply ≡ Refused kind)

-- An answer with one of the kinds that tell of an admission stands only behind an Admit of its way that was replied so.
abbrev pub TellsItsAdmission : Type 0
TellsItsAdmission =
    (m : Message) (acts : List Act) (kind : Kind) (bytes : List ℕ) (closing : Bool) → Goes (walk m) acts (answers (Some kind) bytes closing)
    → tells_admission kind ≡ true → WasRefusedAs kind acts

-- the acts that ask for an admission, whether they were taken or refused
abbrev pub asks_admission : Act → Bool
asks_admission (took event kept reply) = is_admit event
asks_admission (refused event full) = is_admit event
asks_admission (sent request outcome) = false

-- On a way an admission is asked for at most once.
abbrev pub AdmitsOnce : Type 0
AdmitsOnce = (m : Message) (acts : List Act) (after : Call) → Goes (walk m) acts after → length (filter asks_admission acts) ≤ 1

-- a stage's API is a document, and the route of a request to it hits a method that asks for a key; where the method has an authorizer,
-- what that gives lets the request by
abbrev pub is_keyed_under : Bool → View → Request → Target → Result Policy AuthorizerFault → Bool
is_keyed_under true view r target given = false
is_keyed_under false view r target given = is_keyed view.api r target given

abbrev pub is_keyed_by : Reply → Request → Target → Result Policy AuthorizerFault → Bool
is_keyed_by (Entered view) r target given = is_keyed_under view.api.is_text view r target given
is_keyed_by reply r target given = false

-- and its body is not too large
abbrev pub is_keyed_for : Bool → Reply → Request → Target → Result Policy AuthorizerFault → Bool
is_keyed_for true reply r target given = false
is_keyed_for false reply r target given = is_keyed_by reply r target given

-- An admission is asked for exactly there, whatever an authorizer gives.
abbrev pub AsksWhereKeyed : Type 0
AsksWhereKeyed =
    (large : Bool) (reply : Reply) (r : Request) (target : Target) (given : Result Policy AuthorizerFault)
    → way_asks (way_along given (planned_for large reply r target)) ≡ is_keyed_for large reply r target given
