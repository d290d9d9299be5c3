-- Each answer names its cause.
use Rattle.std.proofs.Common.{◌≡◌, ℕ, ◌==◌, Bool, true, false, List, Option, Some, None, Result, Ok, Err, refl}
use Rattle.admin_routes.specs.Answers.{json_answer, json_made, replied_made, reply_status}
use Rattle.admin_routes.specs.Asked.{Asked, asked_by}
use Rattle.admin_routes.specs.Origins.{has_foreign_origin}
use Rattle.admin_routes.specs.Orders.{order_at, order_by, order_from, order_of}
use Rattle.admin_routes.specs.Routes.{is_admin, route_in, segments_of}
use Rattle.admin_routes.specs.declared.routes.Route.{Route}
use Rattle.backend_core.specs.declared.request.WireRequest.{WireRequest}
use Rattle.book_rules.specs.declared.events.Command.{Command}
use Rattle.book_rules.specs.declared.replies.Reply.{Reply}
use Rattle.book_rules.specs.declared.replies.Reply.TheVariants.{Entered, NoStage, Remembered, NotRemembered, Learned, Admitted, InvalidKey, Throttled, QuotaExceeded, Store, Left, Done, Deployed, Usage, Refused}
use Rattle.book_rules.specs.declared.replies.View.{View}
use Rattle.call_facts.specs.Target.{target_of}
use Rattle.call_facts.specs.declared.kind.Kind.{Kind}
use Rattle.call_facts.specs.declared.request.Request.{Request}
use Rattle.call_facts.specs.declared.target.Target.{Target}
use Rattle.gate_walk.specs.Planning.{facts_of, planned_at, planned_by, planned_for, too_large_made}
use Rattle.gateway_answers.proofs.Causes.{names_one_cause}
use Rattle.gateway_answers.specs.Answers.{failed_made}
use Rattle.gateway_answers.specs.Causes.{causes_in}
use Rattle.method_answers.proofs.Causes.{names_each}
use Rattle.method_answers.specs.Causes.{Names, NamesAlong, NamesEach, NamesOn, names_of}
use Rattle.method_answers.specs.Plans.{Course, Planned, Way, admits, answered, consults, exchanges, free, goes, planned}
use Rattle.method_answers.specs.Questions.{Question}
use Rattle.authorizer_call.specs.Outcomes.{policy_of}
use Rattle.authorizer_call.specs.declared.fault.AuthorizerFault.{AuthorizerFault}
use Rattle.authorizer_call.specs.declared.fault.AuthorizerFault.TheVariants.{Configuration}
use Rattle.api_model.specs.Definition.{Definition}
use Rattle.call_facts.specs.declared.facts.CallFacts.{CallFacts}
use Rattle.gate_walk.specs.Laws.{NamesItsCause}
use Rattle.gate_walk.specs.Walk.{administered, admission_of, consulted, follows, gives, inquires, inquires_by, is_head, learns, leaves, performs, policy_in, pursues, recalled, walk, way_to}
use Rattle.gate_walk.specs.declared.message.Message.{Message}
use Rattle.gate_walk.proofs.Ways.{Each, each_answer}
use Rattle.http_edge.specs.Answers.{spelled}
use Rattle.method_flow.specs.Answers.{gateway_answer, gateway_made, text_answer, text_made}
use Rattle.method_flow.specs.declared.answers.Made.{Made}
use Rattle.policy_core.specs.declared.policy.Policy.{Policy}
use Rattle.vtl_eval.specs.declared.stop.Rendered.{Rendered}
use Rattle.vtl_eval.specs.declared.stop.Stop.{Stop}

-- so does the answer of a message that asks nothing of the book
abbrev IsErrNamed : Result Command Made → Type 0
IsErrNamed (Ok command) = Unit {0}
IsErrNamed (Err made) = Names made

of_gateway : (kind : Kind) → Names (gateway_made kind)
unfolding gateway_answer
of_gateway kind = refl

of_text : (r : Result Rendered Stop) → Names (text_made r)
unfolding text_answer
of_text (Ok rendered) = refl
of_text (Err stop) = of_gateway _

of_failure : (kind : Kind) (message : List ℕ) (d : Option Definition) (f : CallFacts) → Names (failed_made kind message d f)
of_failure kind message d f = names_one_cause kind message d f

-- whatever is answered: at once, or to an outcome
of_text_api : (r : Result Rendered Stop) → NamesAlong (free (goes (answered (text_made r))))
of_text_api r = of_text r

at_view : (is_text : Bool) (view : View) (r : Request) (target : Target) → NamesAlong (planned_at is_text view r target)
at_view true view r target = of_text_api _
at_view false view r target = names_each _ _ _ _

by_reply : (reply : Reply) (r : Request) (target : Target) → NamesAlong (planned_by reply r target)
by_reply (Entered view) r target = at_view view.api.is_text view r target
by_reply NoStage r target = of_gateway _
by_reply (Remembered policy) r target = of_gateway _
by_reply NotRemembered r target = of_gateway _
by_reply Learned r target = of_gateway _
by_reply (Admitted key plan) r target = of_gateway _
by_reply InvalidKey r target = of_gateway _
by_reply (Throttled level) r target = of_gateway _
by_reply (QuotaExceeded allowance used) r target = of_gateway _
by_reply Store r target = of_gateway _
by_reply (Left closing) r target = of_gateway _
by_reply Done r target = of_gateway _
by_reply (Deployed number) r target = of_gateway _
by_reply (Usage usage) r target = of_gateway _
by_reply (Refused refusal) r target = of_gateway _

by_size : (reply : Reply) (target : Target) → Names (too_large_made reply target)
by_size (Entered view) target = of_failure _ _ _ _
by_size NoStage target = of_gateway _
by_size (Remembered policy) target = of_gateway _
by_size NotRemembered target = of_gateway _
by_size Learned target = of_gateway _
by_size (Admitted key plan) target = of_gateway _
by_size InvalidKey target = of_gateway _
by_size (Throttled level) target = of_gateway _
by_size (QuotaExceeded allowance used) target = of_gateway _
by_size Store target = of_gateway _
by_size (Left closing) target = of_gateway _
by_size Done target = of_gateway _
by_size (Deployed number) target = of_gateway _
by_size (Usage usage) target = of_gateway _
by_size (Refused refusal) target = of_gateway _

for_message : (large : Bool) (reply : Reply) (r : Request) (target : Target) → NamesAlong (planned_for large reply r target)
for_message true reply r target = by_size reply target
for_message false reply r target = by_reply reply r target

abbrev Named : Message → Option Kind → List ℕ → Bool → Bool → Type 0
Named m cause bytes closing told = (made : Made) × (made.cause ≡ cause) × (bytes ≡ spelled made.answer (is_head m.request) closing) × (causes_in made.answer.headers ≡ names_of cause)

on_leave : (m : Message) (made : Made) → Names made → Each (Named m) false (leaves m made)
on_leave m made names reply = (made, refl, refl, names)

-- an answer of the administration names none
of_json : (status : ℕ) (body : List ℕ) → Names (json_made status body)
unfolding json_answer
of_json status body = refl

of_order : (asked : Asked) → IsErrNamed (order_by asked)
of_order (Ok command) = tt
of_order (Err why) = of_json 400 _

of_route : (route : Option Route) (body : List ℕ) → IsErrNamed (order_at route body)
of_route None body = of_json 404 _
of_route (Some route) body = of_order (asked_by route body)

of_sender : (foreign : Bool) (r : Request) (target : Target) → IsErrNamed (order_from foreign r target)
of_sender true r target = of_json 403 _
of_sender false r target = of_route (route_in r.method (segments_of target)) r.body

of_request : (large : Bool) (r : Request) (target : Target) → IsErrNamed (order_of large r target)
of_request true r target = of_json 413 _
of_request false r target = of_sender (has_foreign_origin r.headers) r target

on_order : (m : Message) (order : Result Command Made) → IsErrNamed order → Each (Named m) false (administered m order)
on_order m (Ok command) names = λ reply. on_leave m (replied_made reply) (of_json (reply_status reply) _)
on_order m (Err made) names = on_leave m made names

on_plan : (m : Message) (p : Planned) → NamesEach p → Each (Named m) false (performs m p)
on_plan m (answered made) names = on_leave m made names
on_plan m (exchanges request next) names = λ outcome. on_leave m (next outcome) (names outcome)

on_planned : (m : Message) (w : Way) → NamesOn w → Each (Named m) false (follows m w)
on_planned m (goes plan) names = on_plan m plan names
on_planned m (admits target value next) names = λ reply. on_plan m (next (admission_of reply)) (names (admission_of reply))

on_learn : (b : Bool) (m : Message) (target : Target) (q : Question) (next : Result Policy AuthorizerFault → Way) (names : (given : Result Policy AuthorizerFault) → NamesOn (next given)) (policy : Policy) → Each (Named m) false (learns b m target q next policy)
on_learn true m target q next names policy = on_planned m (next (Ok policy)) (names (Ok policy))
on_learn false m target q next names policy = λ reply. on_planned m (next (Ok policy)) (names (Ok policy))

on_given : (m : Message) (target : Target) (q : Question) (next : Result Policy AuthorizerFault → Way) (names : (given : Result Policy AuthorizerFault) → NamesOn (next given)) (given : Result Policy AuthorizerFault) → Each (Named m) false (gives m target q next given)
on_given m target q next names (Ok policy) = on_learn (q.ttl == 0) m target q next names policy
on_given m target q next names (Err why) = on_planned m (next (Err why)) (names (Err why))

on_request : (request : Option WireRequest) (m : Message) (target : Target) (q : Question) (next : Result Policy AuthorizerFault → Way) (names : (given : Result Policy AuthorizerFault) → NamesOn (next given)) → Each (Named m) false (inquires_by request m target q next)
on_request None m target q next names = on_given m target q next names (Err Configuration)
on_request (Some request) m target q next names = λ outcome. on_given m target q next names (policy_of outcome)

on_inquiry : (m : Message) (target : Target) (q : Question) (next : Result Policy AuthorizerFault → Way) (names : (given : Result Policy AuthorizerFault) → NamesOn (next given)) → Each (Named m) false (inquires m target q next)
on_inquiry m target q next names = on_request q.request m target q next names

on_recall : (m : Message) (target : Target) (q : Question) (next : Result Policy AuthorizerFault → Way) (names : (given : Result Policy AuthorizerFault) → NamesOn (next given)) (found : Option Policy) → Each (Named m) false (recalled m target q next found)
on_recall m target q next names (Some policy) = on_planned m (next (Ok policy)) (names (Ok policy))
on_recall m target q next names None = on_inquiry m target q next names

on_consulting : (b : Bool) (m : Message) (target : Target) (q : Question) (next : Result Policy AuthorizerFault → Way) (names : (given : Result Policy AuthorizerFault) → NamesOn (next given)) → Each (Named m) false (consulted b m target q next)
on_consulting true m target q next names = on_inquiry m target q next names
on_consulting false m target q next names = λ reply. on_recall m target q next names (policy_in reply)

on_course : (m : Message) (c : Course) → NamesAlong c → Each (Named m) false (pursues m c)
on_course m (free way) names = on_planned m way names
on_course m (consults target q next) names = on_consulting (q.ttl == 0) m target q next names

on_target : (admin : Bool) (m : Message) (target : Target) → Each (Named m) false (way_to admin m target)
on_target true m target = on_order m (order_of m.too_large m.request target) (of_request m.too_large m.request target)
on_target false m target = λ reply. on_course m (planned_for m.too_large reply m.request target) (for_message m.too_large reply m.request target)

on_way : (m : Message) → Each (Named m) false (walk m)
unfolding walk
on_way m = on_target (is_admin (target_of m.request.target)) m (target_of m.request.target)

pub names_its_cause : NamesItsCause
names_its_cause m acts cause bytes closing g = each_answer (Named m) acts false (walk m) cause bytes closing (on_way m) g
