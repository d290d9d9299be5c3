-- The way of one message through the gateway, as a tree of what is asked next.
use Rattle.std.specs.Prelude.{ℕ, ◌==◌, Bool, true, false, ◌||◌, List, codes, Option, Some, None, Result, Ok, Err}
use Rattle.std.specs.Str.{bytes_eq}
use Rattle.admin_routes.specs.Answers.{replied_made}
use Rattle.admin_routes.specs.Orders.{order_of}
use Rattle.admin_routes.specs.Routes.{is_admin}
use Rattle.authorizer_call.specs.Outcomes.{policy_of}
use Rattle.authorizer_call.specs.declared.fault.AuthorizerFault.{AuthorizerFault}
use Rattle.authorizer_call.specs.declared.fault.AuthorizerFault.TheVariants.{Configuration}
use Rattle.backend_core.specs.declared.outcome.Outcome.{Outcome}
use Rattle.backend_core.specs.declared.request.WireRequest.{WireRequest}
use Rattle.book_rules.specs.declared.events.Command.{Command}
use Rattle.book_rules.specs.declared.events.Event.{Event}
use Rattle.book_rules.specs.declared.events.Event.TheVariants.{Enter, Recall, Learn, Admit, Admin, Leave}
use Rattle.book_rules.specs.declared.replies.Reply.{Reply}
use Rattle.book_rules.specs.declared.replies.Reply.TheVariants.{Entered, NoStage, Remembered, NotRemembered, Learned, Admitted, InvalidKey, Throttled, QuotaExceeded, Store, Left, Done, Deployed, Usage, Refused}
use Rattle.call_facts.specs.Target.{target_of}
use Rattle.call_facts.specs.declared.kind.Kind.{Kind}
use Rattle.call_facts.specs.declared.kind.Kind.TheVariants as kinds
use Rattle.call_facts.specs.declared.request.Request.{Request}
use Rattle.call_facts.specs.declared.target.Target.{Target}
use Rattle.gate_walk.specs.Closing.{closes}
use Rattle.gate_walk.specs.Planning.{planned_for}
use Rattle.gate_walk.specs.declared.message.Message.{Message}
use Rattle.http_edge.specs.Answers.{spelled}
use Rattle.method_answers.specs.Plans.{Course, Planned, Way, admits, answered as answered_by, consults, exchanges, free, goes}
use Rattle.method_answers.specs.Questions.{Question}
use Rattle.method_answers.specs.declared.keys.Admission.{Admission}
use Rattle.method_answers.specs.declared.keys.Admission.TheVariants as admission
use Rattle.method_flow.specs.declared.answers.Made.{Made}
use Rattle.policy_core.specs.declared.policy.Policy.{Policy}
use Rattle.policy_memory.specs.declared.names.PolicyName.{PolicyName}

-- What comes next: a step of the book, and what its reply leads to; an exchange with a backend, and what its outcome leads to; or
-- the answer, with its cause, its bytes, and whether the connection closes behind it.
pub data Call : Type 0 where
  asks : Event → (Reply → Call) → Call
  sends : WireRequest → (Outcome → Call) → Call
  answers : Option Kind → List ℕ → Bool → Call

-- a reply to a Leave tells that the session is closing
abbrev pub closing_by : Reply → Bool
closing_by (Left closing) = closing
closing_by (Entered view) = false
closing_by NoStage = false
closing_by (Remembered policy) = false
closing_by NotRemembered = false
closing_by Learned = false
closing_by (Admitted key plan) = false
closing_by InvalidKey = false
closing_by (Throttled level) = false
closing_by (QuotaExceeded allowance used) = false
closing_by Store = false
closing_by Done = false
closing_by (Deployed number) = false
closing_by (Usage usage) = false
closing_by (Refused refusal) = false

abbrev pub is_head : Request → Bool
is_head r = bytes_eq r.method (codes "HEAD")

-- the connection closes behind a message that left with this reply: by itself, or since the session is closing
abbrev pub closes_by : Message → Reply → Bool
closes_by m reply = closes m.number m.too_large m.request || closing_by reply

abbrev pub answered : Message → Made → Reply → Call
answered m made reply = answers made.cause (spelled made.answer (is_head m.request) (closes_by m reply)) (closes_by m reply)

-- a message with this answer leaves, before the first byte of it is written
abbrev pub leaves : Message → Made → Call
leaves m made = asks (Leave made.answer.status made.cause) (answered m made)

-- what is planned is done: the answer leaves, or a request is sent, and what its outcome is answered leaves
abbrev pub performs : Message → Planned → Call
performs m (answered_by made) = leaves m made
performs m (exchanges request next) = sends request (λ outcome. leaves m (next outcome))

-- What a reply to an Admit is to the call. The book replies to it by the first five alone; whatever else it replied would admit
-- nothing, as a change that could not be kept does.
abbrev pub admission_of : Reply → Admission
admission_of (Admitted key plan) = admission.Admitted key
admission_of InvalidKey = admission.Refused kinds.InvalidApiKey
admission_of (Throttled level) = admission.Refused kinds.Throttled
admission_of (QuotaExceeded allowance used) = admission.Refused kinds.QuotaExceeded
admission_of Store = admission.Refused kinds.StoreFailure
admission_of (Entered view) = admission.Refused kinds.StoreFailure
admission_of NoStage = admission.Refused kinds.StoreFailure
admission_of (Remembered policy) = admission.Refused kinds.StoreFailure
admission_of NotRemembered = admission.Refused kinds.StoreFailure
admission_of Learned = admission.Refused kinds.StoreFailure
admission_of (Left closing) = admission.Refused kinds.StoreFailure
admission_of Done = admission.Refused kinds.StoreFailure
admission_of (Deployed number) = admission.Refused kinds.StoreFailure
admission_of (Usage usage) = admission.Refused kinds.StoreFailure
admission_of (Refused refusal) = admission.Refused kinds.StoreFailure

-- it goes on, or asks its stage, once, to admit it by the value that it hands in
abbrev pub follows : Message → Way → Call
follows m (goes plan) = performs m plan
follows m (admits target value next) = asks (Admit m.moment target.api target.stage value) (λ reply. performs m (next (admission_of reply)))

-- the name under which the policy of a question is remembered, at the stage that is called
abbrev pub name_of : Target → Question → PolicyName
name_of target q = record { api = target.api; stage = target.stage; authorizer = q.authorizer; token = q.token }

-- a policy that may not be remembered decides at once; another one is learned before it decides
abbrev pub learns : Bool → Message → Target → Question → (Result Policy AuthorizerFault → Way) → Policy → Call
learns true m target q next policy = follows m (next (Ok policy))
learns false m target q next policy = asks (Learn m.moment (name_of target q) policy q.ttl) (λ reply. follows m (next (Ok policy)))

-- what the authorizer gives decides
abbrev pub gives : Message → Target → Question → (Result Policy AuthorizerFault → Way) → Result Policy AuthorizerFault → Call
gives m target q next (Ok policy) = learns (q.ttl == 0) m target q next policy
gives m target q next (Err why) = follows m (next (Err why))

-- a request to the authorizer is sent; where its uri leads nowhere there is none, and it gives no policy
abbrev pub inquires_by : Option WireRequest → Message → Target → Question → (Result Policy AuthorizerFault → Way) → Call
inquires_by None m target q next = gives m target q next (Err Configuration)
inquires_by (Some request) m target q next = sends request (λ outcome. gives m target q next (policy_of outcome))

-- the authorizer is asked
abbrev pub inquires : Message → Target → Question → (Result Policy AuthorizerFault → Way) → Call
inquires m target q next = inquires_by q.request m target q next

-- the policy that a reply to a Recall remembers
abbrev pub policy_in : Reply → Option Policy
policy_in (Entered view) = None
policy_in NoStage = None
policy_in (Remembered policy) = Some policy
policy_in NotRemembered = None
policy_in Learned = None
policy_in (Admitted key plan) = None
policy_in InvalidKey = None
policy_in (Throttled level) = None
policy_in (QuotaExceeded allowance used) = None
policy_in Store = None
policy_in (Left closing) = None
policy_in Done = None
policy_in (Deployed number) = None
policy_in (Usage usage) = None
policy_in (Refused refusal) = None

-- a policy that is remembered decides; where none is, the authorizer is asked
abbrev pub recalled : Message → Target → Question → (Result Policy AuthorizerFault → Way) → Option Policy → Call
recalled m target q next (Some policy) = follows m (next (Ok policy))
recalled m target q next None = inquires m target q next

-- where its policies may not be remembered, none is recalled
abbrev pub consulted : Bool → Message → Target → Question → (Result Policy AuthorizerFault → Way) → Call
consulted true m target q next = inquires m target q next
consulted false m target q next = asks (Recall m.moment (name_of target q)) (λ reply. recalled m target q next (policy_in reply))

-- it takes its way, or an authorizer is consulted first
abbrev pub pursues : Message → Course → Call
pursues m (free way) = follows m way
pursues m (consults target q next) = consulted (q.ttl == 0) m target q next

-- what follows its Enter
abbrev pub entered : Message → Target → Reply → Call
entered m target reply = pursues m (planned_for m.too_large reply m.request target)

abbrev pub walk_to : Message → Target → Call
walk_to m target = asks (Enter m.moment m.word target.api target.stage) (entered m target)

-- an administration request: a command is asked of the book, and its reply answered; else it is answered at once
abbrev pub administered : Message → Result Command Made → Call
administered m (Ok command) = asks (Admin m.moment command) (λ reply. leaves m (replied_made reply))
administered m (Err made) = leaves m made

abbrev pub way_to : Bool → Message → Target → Call
way_to true m target = administered m (order_of m.too_large m.request target)
way_to false m target = walk_to m target

-- the whole way: to the administration, or to the stage that its target names
unfoldable pub walk : Message → Call
walk m = way_to (is_admin (target_of m.request.target)) m (target_of m.request.target)
