-- The kinds that tell of an admission stand behind an Admit, and a way has at most one.
use Rattle.std.proofs.Common.{◌≡◌, ◌≤◌, ◌⊎◌, inl, inr, ℕ, ◌+◌, ◌==◌, Bool, true, false, cond, List, [], ◌∷◌, ◌++◌, length, Option, Some, None, Result, Ok, Err, ap, sym, ◌∙◌, append-nil, append_assoc, subst, refl, arith}
use Rattle.std.specs.Prelude.{IfSome}
use Rattle.std.specs.List.{filter}
use Rattle.admin_routes.specs.Answers.{replied_made}
use Rattle.admin_routes.specs.Asked.{Asked, asked_by}
use Rattle.admin_routes.specs.Origins.{has_foreign_origin}
use Rattle.admin_routes.specs.Orders.{order_at, order_by, order_from, order_of}
use Rattle.admin_routes.specs.Routes.{is_admin, route_in, segments_of}
use Rattle.admin_routes.specs.declared.routes.Route.{Route}
use Rattle.backend_core.specs.declared.outcome.Outcome.{Outcome}
use Rattle.backend_core.specs.declared.request.WireRequest.{WireRequest}
use Rattle.book_rules.specs.declared.events.Command.{Command}
use Rattle.book_rules.specs.declared.events.Event.{Event}
use Rattle.book_rules.specs.declared.events.Event.TheVariants.{Enter, Recall, Learn, Admit, Admin, Leave}
use Rattle.book_rules.specs.declared.replies.Reply.{Reply}
use Rattle.book_rules.specs.declared.replies.Reply.TheVariants.{Entered, NoStage, Remembered, NotRemembered, Learned, Admitted, InvalidKey, Throttled, QuotaExceeded, Store, Left, Done, Deployed, Usage, Refused}
use Rattle.book_rules.specs.declared.replies.View.{View}
use Rattle.call_facts.specs.Target.{target_of}
use Rattle.call_facts.specs.declared.kind.Kind.{Kind}
use Rattle.call_facts.specs.declared.request.Request.{Request}
use Rattle.call_facts.specs.declared.target.Target.{Target}
use Rattle.gate_walk.specs.Acts.{Act, took, refused, sent, Goes}
use Rattle.gate_walk.specs.Laws.{AdmitsOnce, AsksWhereKeyed, TellsItsAdmission, WasRefusedAs, asks_admission, is_admit, is_keyed_by, is_keyed_under}
use Rattle.gate_walk.specs.Planning.{planned_at, planned_by, planned_for, too_large_made}
use Rattle.gate_walk.specs.Walk.{Call, asks, sends, answers, administered, admission_of, consulted, follows, gives, inquires, inquires_by, learns, leaves, name_of, performs, policy_in, pursues, recalled, walk, way_to}
use Rattle.gate_walk.specs.declared.message.Message.{Message}
use Rattle.method_answers.proofs.Admitting.{asks_where_keyed as method_asks, tells_its_admission}
use Rattle.method_answers.specs.Admitting.{TellsBy, TellsAlong, TellsNone, TellsNoneEach, TellsOn, asks_admission as way_asks, tells_admission, way_along}
use Rattle.method_answers.specs.Plans.{Course, Planned, Way, admits, answered, consults, exchanges, free, goes}
use Rattle.method_answers.specs.Questions.{Question}
use Rattle.authorizer_call.specs.Outcomes.{policy_of}
use Rattle.authorizer_call.specs.declared.fault.AuthorizerFault.{AuthorizerFault}
use Rattle.authorizer_call.specs.declared.fault.AuthorizerFault.TheVariants.{Configuration}
use Rattle.method_answers.specs.declared.keys.Admission.{Admission}
use Rattle.method_answers.specs.declared.keys.Admission.TheVariants as admission
use Rattle.method_flow.specs.Answers.{text_made}
use Rattle.method_flow.specs.declared.answers.Made.{Made}
use Rattle.policy_core.specs.declared.policy.Policy.{Policy}
use Rattle.vtl_eval.specs.declared.stop.Rendered.{Rendered}
use Rattle.vtl_eval.specs.declared.stop.Stop.{Stop}

-- It holds of each answer that a way may come to behind these acts, with all acts that lead there.
abbrev EachBehind : (List Act → Option Kind → Type 0) → List Act → Call → Type 0
EachBehind P acts (asks event next) = (kept : Bool) (reply : Reply) → EachBehind P (acts ++ took event kept reply ∷ []) (next reply)
EachBehind P acts (sends request next) = (outcome : Outcome) → EachBehind P (acts ++ sent request outcome ∷ []) (next outcome)
EachBehind P acts (answers cause bytes closes) = P acts cause

-- and so of the one that it came to
behind : (P : List Act → Option Kind → Type 0) (seen acts : List Act) (call : Call) (cause : Option Kind) (bytes : List ℕ) (closes : Bool)
    → EachBehind P seen call → Goes call acts (answers cause bytes closes) → P (seen ++ acts) cause
behind P seen [] call cause bytes closes h g =
    subst (λ x. P x cause) (sym (append-nil seen)) (subst (EachBehind P seen) (sym g) h)
behind P seen (took event kept reply ∷ acts) (asks e next) cause bytes closes h g =
    let on = behind P (seen ++ took e kept reply ∷ []) acts (next reply) cause bytes closes (h kept reply) g.1 in
    subst (λ x. P (seen ++ took x kept reply ∷ acts) cause) (sym g.0) (subst (λ x. P x cause) (append_assoc seen (took e kept reply ∷ []) acts) on)
behind P seen (took event kept reply ∷ acts) (sends request next) cause bytes closes h g = absurd g
behind P seen (took event kept reply ∷ acts) (answers a b c) cause bytes closes h g = absurd g
behind P seen (refused event full ∷ acts) (asks e next) cause bytes closes h g = absurd (no_answer g.2)
  where
    no_answer : answers cause bytes closes ≡ asks e next → ⊥
    no_answer e = cc
behind P seen (refused event full ∷ acts) (sends request next) cause bytes closes h g = absurd g
behind P seen (refused event full ∷ acts) (answers a b c) cause bytes closes h g = absurd g
behind P seen (sent request outcome ∷ acts) (asks e next) cause bytes closes h g = absurd g
behind P seen (sent request outcome ∷ acts) (sends other next) cause bytes closes h g =
    let on = behind P (seen ++ sent other outcome ∷ []) acts (next outcome) cause bytes closes (h outcome) g.1 in
    subst (λ x. P (seen ++ sent x outcome ∷ acts) cause) (sym g.0) (subst (λ x. P x cause) (append_assoc seen (sent other outcome ∷ []) acts) on)
behind P seen (sent request outcome ∷ acts) (answers a b c) cause bytes closes h g = absurd g

abbrev Told : List Act → Option Kind → Type 0
Told acts cause = IfSome cause (λ kind. tells_admission kind ≡ true → WasRefusedAs kind acts)

differ : {b : Bool} → b ≡ false → b ≡ true → ⊥
differ e f = cc

-- an answer whose cause is none of them
none_told : (cause : Option Kind) (acts : List Act) → IfSome cause (λ kind. tells_admission kind ≡ false) → Told acts cause
none_told None acts none = tt
none_told (Some kind) acts none = λ some. absurd (differ none some)

on_leave : (m : Message) (made : Made) (acts : List Act) → TellsNone made → EachBehind Told acts (leaves m made)
on_leave m made acts none kept reply = none_told made.cause _ none

on_plan : (m : Message) (p : Planned) (acts : List Act) → TellsNoneEach p → EachBehind Told acts (performs m p)
on_plan m (answered made) acts none = on_leave m made acts none
on_plan m (exchanges request next) acts none = λ outcome. on_leave m (next outcome) (acts ++ sent request outcome ∷ []) (none outcome)

-- a refusal is told behind its Admit
told_as : (kind : Kind) (cause : Option Kind) (acts : List Act) → cause ≡ Some kind → WasRefusedAs kind acts → Told acts cause
told_as kind cause acts is was = subst (Told acts) (sym is) (λ some. was)

on_refusal : (m : Message) (made : Made) (front : List Act) (event : Event) (admit_kept : Bool) (admit_reply : Reply) (kind : Kind) → is_admit event ≡ true
    → admission_of admit_reply ≡ admission.Refused kind → made.cause ≡ Some kind → EachBehind Told (front ++ took event admit_kept admit_reply ∷ []) (leaves m made)
on_refusal m made front event admit_kept admit_reply kind admits_it refuses is kept reply =
    let leave : Act = took (Leave made.answer.status made.cause) kept reply in
    told_as kind made.cause ((front ++ took event admit_kept admit_reply ∷ []) ++ leave ∷ []) is
    (front, event, admit_kept, admit_reply, leave ∷ [], append_assoc front (took event admit_kept admit_reply ∷ []) (leave ∷ []), admits_it, refuses)

on_admission : (m : Message) (p : Planned) (front : List Act) (event : Event) (kept : Bool) (reply : Reply) (a : Admission) → is_admit event ≡ true → admission_of reply ≡ a
    → TellsBy a p → EachBehind Told (front ++ took event kept reply ∷ []) (performs m p)
on_admission m p front event kept reply (admission.Admitted key) admits_it is none = on_plan m p (front ++ took event kept reply ∷ []) none
on_admission m p front event kept reply (admission.Refused kind) admits_it is (made, same, cause) =
    subst (λ q. EachBehind Told (front ++ took event kept reply ∷ []) (performs m q)) (sym same) (on_refusal m made front event kept reply kind admits_it is cause)

on_way : (m : Message) (w : Way) (acts : List Act) → TellsOn w → EachBehind Told acts (follows m w)
on_way m (goes plan) acts none = on_plan m plan acts none
on_way m (admits target value next) acts tells = λ kept reply.
    on_admission m (next (admission_of reply)) acts (Admit m.moment target.api target.stage value) kept reply (admission_of reply) refl refl (tells (admission_of reply))

-- and so where an authorizer is consulted first, which asks for no admission
on_learn : (b : Bool) (m : Message) (target : Target) (q : Question) (next : Result Policy AuthorizerFault → Way) (tells : (given : Result Policy AuthorizerFault) → TellsOn (next given)) (acts : List Act) (policy : Policy) → EachBehind Told acts (learns b m target q next policy)
on_learn true m target q next tells acts policy = on_way m (next (Ok policy)) acts (tells (Ok policy))
on_learn false m target q next tells acts policy = λ kept reply. on_way m (next (Ok policy)) _ (tells (Ok policy))

on_given : (m : Message) (target : Target) (q : Question) (next : Result Policy AuthorizerFault → Way) (tells : (given : Result Policy AuthorizerFault) → TellsOn (next given)) (acts : List Act) (given : Result Policy AuthorizerFault) → EachBehind Told acts (gives m target q next given)
on_given m target q next tells acts (Ok policy) = on_learn (q.ttl == 0) m target q next tells acts policy
on_given m target q next tells acts (Err why) = on_way m (next (Err why)) acts (tells (Err why))

on_request : (request : Option WireRequest) (m : Message) (target : Target) (q : Question) (next : Result Policy AuthorizerFault → Way) (tells : (given : Result Policy AuthorizerFault) → TellsOn (next given)) (acts : List Act) → EachBehind Told acts (inquires_by request m target q next)
on_request None m target q next tells acts = on_given m target q next tells acts (Err Configuration)
on_request (Some request) m target q next tells acts = λ outcome. on_given m target q next tells _ (policy_of outcome)

on_inquiry : (m : Message) (target : Target) (q : Question) (next : Result Policy AuthorizerFault → Way) (tells : (given : Result Policy AuthorizerFault) → TellsOn (next given)) (acts : List Act) → EachBehind Told acts (inquires m target q next)
on_inquiry m target q next tells acts = on_request q.request m target q next tells acts

on_recall : (m : Message) (target : Target) (q : Question) (next : Result Policy AuthorizerFault → Way) (tells : (given : Result Policy AuthorizerFault) → TellsOn (next given)) (acts : List Act) (found : Option Policy) → EachBehind Told acts (recalled m target q next found)
on_recall m target q next tells acts (Some policy) = on_way m (next (Ok policy)) acts (tells (Ok policy))
on_recall m target q next tells acts None = on_inquiry m target q next tells acts

on_consulting : (b : Bool) (m : Message) (target : Target) (q : Question) (next : Result Policy AuthorizerFault → Way) (tells : (given : Result Policy AuthorizerFault) → TellsOn (next given)) (acts : List Act) → EachBehind Told acts (consulted b m target q next)
on_consulting true m target q next tells acts = on_inquiry m target q next tells acts
on_consulting false m target q next tells acts = λ kept reply. on_recall m target q next tells _ (policy_in reply)

on_course : (m : Message) (c : Course) (acts : List Act) → TellsAlong c → EachBehind Told acts (pursues m c)
on_course m (free way) acts tells = on_way m way acts tells
on_course m (consults target q next) acts tells = on_consulting (q.ttl == 0) m target q next tells acts

-- what a message comes to by the reply to its Enter
of_text : (r : Result Rendered Stop) → TellsNone (text_made r)
of_text (Ok rendered) = tt
of_text (Err stop) = refl

at_view : (is_text : Bool) (view : View) (r : Request) (target : Target) → TellsAlong (planned_at is_text view r target)
at_view true view r target = of_text _
at_view false view r target = tells_its_admission _ _ _ _

by_reply : (reply : Reply) (r : Request) (target : Target) → TellsAlong (planned_by reply r target)
by_reply (Entered view) r target = at_view view.api.is_text view r target
by_reply NoStage r target = refl
by_reply (Remembered policy) r target = refl
by_reply NotRemembered r target = refl
by_reply Learned r target = refl
by_reply (Admitted key plan) r target = refl
by_reply InvalidKey r target = refl
by_reply (Throttled level) r target = refl
by_reply (QuotaExceeded allowance used) r target = refl
by_reply Store r target = refl
by_reply (Left closing) r target = refl
by_reply Done r target = refl
by_reply (Deployed number) r target = refl
by_reply (Usage usage) r target = refl
by_reply (Refused refusal) r target = refl

by_size : (reply : Reply) (target : Target) → TellsNone (too_large_made reply target)
by_size (Entered view) target = refl
by_size NoStage target = refl
by_size (Remembered policy) target = refl
by_size NotRemembered target = refl
by_size Learned target = refl
by_size (Admitted key plan) target = refl
by_size InvalidKey target = refl
by_size (Throttled level) target = refl
by_size (QuotaExceeded allowance used) target = refl
by_size Store target = refl
by_size (Left closing) target = refl
by_size Done target = refl
by_size (Deployed number) target = refl
by_size (Usage usage) target = refl
by_size (Refused refusal) target = refl

for_message : (large : Bool) (reply : Reply) (r : Request) (target : Target) → TellsAlong (planned_for large reply r target)
for_message true reply r target = by_size reply target
for_message false reply r target = by_reply reply r target

-- the administration tells no kind
abbrev IsErrFree : Result Command Made → Type 0
IsErrFree (Ok command) = Unit {0}
IsErrFree (Err made) = TellsNone made

of_order : (asked : Asked) → IsErrFree (order_by asked)
of_order (Ok command) = tt
of_order (Err why) = tt

of_route : (route : Option Route) (body : List ℕ) → IsErrFree (order_at route body)
of_route None body = tt
of_route (Some route) body = of_order (asked_by route body)

of_sender : (foreign : Bool) (r : Request) (target : Target) → IsErrFree (order_from foreign r target)
of_sender true r target = tt
of_sender false r target = of_route (route_in r.method (segments_of target)) r.body

of_request : (large : Bool) (r : Request) (target : Target) → IsErrFree (order_of large r target)
of_request true r target = tt
of_request false r target = of_sender (has_foreign_origin r.headers) r target

on_order : (m : Message) (order : Result Command Made) → IsErrFree order → EachBehind Told [] (administered m order)
on_order m (Ok command) none = λ kept reply. on_leave m (replied_made reply) (took (Admin m.moment command) kept reply ∷ []) tt
on_order m (Err made) none = on_leave m made [] none

on_target : (admin : Bool) (m : Message) (target : Target) → EachBehind Told [] (way_to admin m target)
on_target true m target = on_order m (order_of m.too_large m.request target) (of_request m.too_large m.request target)
on_target false m target = λ kept reply.
    on_course m (planned_for m.too_large reply m.request target) (took (Enter m.moment m.word target.api target.stage) kept reply ∷ []) (for_message m.too_large reply m.request target)

on_walk : (m : Message) → EachBehind Told [] (walk m)
unfolding walk
on_walk m = on_target (is_admin (target_of m.request.target)) m (target_of m.request.target)

pub stands_behind_an_admit : TellsItsAdmission
stands_behind_an_admit m acts kind bytes closing g some = behind Told [] acts (walk m) (Some kind) bytes closing (on_walk m) g some

-- No admission is asked for on it, or one at most.
abbrev AdmitsNone : Call → Type 0
AdmitsNone (asks event next) = (is_admit event ≡ false) × ((reply : Reply) → AdmitsNone (next reply))
AdmitsNone (sends request next) = (outcome : Outcome) → AdmitsNone (next outcome)
AdmitsNone (answers cause bytes closes) = Unit {0}

abbrev AdmitsAtMost : Call → Type 0
AdmitsAtMost (asks event next) = ((reply : Reply) → AdmitsNone (next reply)) ⊎ ((is_admit event ≡ false) × ((reply : Reply) → AdmitsAtMost (next reply)))
AdmitsAtMost (sends request next) = (outcome : Outcome) → AdmitsAtMost (next outcome)
AdmitsAtMost (answers cause bytes closes) = Unit {0}

at_most : (call : Call) → AdmitsNone call → AdmitsAtMost call
at_most (asks event next) h = inr (h.0, λ reply. at_most (next reply) (h.1 reply))
at_most (sends request next) h = λ outcome. at_most (next outcome) (h outcome)
at_most (answers cause bytes closes) h = tt

without : (b : Bool) (x : Act) (xs : List Act) → b ≡ false → cond b (x ∷ xs) xs ≡ xs
without true x xs is = absurd cc
without false x xs is = refl

perhaps : (b : Bool) (x : Act) (xs : List Act) → xs ≡ [] → length (cond b (x ∷ xs) xs) ≤ 1
perhaps true x xs none = subst (λ l. length (x ∷ l) ≤ 1) (sym none) (omega arith)
perhaps false x xs none = subst (λ l. length l ≤ 1) (sym none) (omega arith)

none_in : (acts : List Act) (call after : Call) → AdmitsNone call → Goes call acts after → filter asks_admission acts ≡ []
none_in [] call after h g = refl
none_in (took event kept reply ∷ acts) (asks e next) after h g =
    without (is_admit event) (took event kept reply) (filter asks_admission acts) (ap is_admit g.0 ∙ h.0) ∙ none_in acts (next reply) after (h.1 reply) g.1
none_in (took event kept reply ∷ acts) (sends request next) after h g = absurd g
none_in (took event kept reply ∷ acts) (answers a b c) after h g = absurd g
none_in (refused event full ∷ acts) (asks e next) after h g =
    without (is_admit event) (refused event full) (filter asks_admission acts) (ap is_admit g.0 ∙ h.0) ∙ ap (λ xs. filter asks_admission xs) g.1
none_in (refused event full ∷ acts) (sends request next) after h g = absurd g
none_in (refused event full ∷ acts) (answers a b c) after h g = absurd g
none_in (sent request outcome ∷ acts) (asks e next) after h g = absurd g
none_in (sent request outcome ∷ acts) (sends other next) after h g = none_in acts (next outcome) after (h outcome) g.1
none_in (sent request outcome ∷ acts) (answers a b c) after h g = absurd g

once_in : (acts : List Act) (call after : Call) → AdmitsAtMost call → Goes call acts after → length (filter asks_admission acts) ≤ 1
once_in [] call after h g = omega arith
once_in (took event kept reply ∷ acts) (asks e next) after (inl none) g =
    perhaps (is_admit event) (took event kept reply) (filter asks_admission acts) (none_in acts (next reply) after (none reply) g.1)
once_in (took event kept reply ∷ acts) (asks e next) after (inr (isnt, later)) g =
    subst (λ xs. length xs ≤ 1) (sym (without (is_admit event) (took event kept reply) (filter asks_admission acts) (ap is_admit g.0 ∙ isnt)))
    (once_in acts (next reply) after (later reply) g.1)
once_in (took event kept reply ∷ acts) (sends request next) after h g = absurd g
once_in (took event kept reply ∷ acts) (answers a b c) after h g = absurd g
once_in (refused event full ∷ acts) (asks e next) after h g =
    perhaps (is_admit event) (refused event full) (filter asks_admission acts) (ap (λ xs. filter asks_admission xs) g.1)
once_in (refused event full ∷ acts) (sends request next) after h g = absurd g
once_in (refused event full ∷ acts) (answers a b c) after h g = absurd g
once_in (sent request outcome ∷ acts) (asks e next) after h g = absurd g
once_in (sent request outcome ∷ acts) (sends other next) after h g = once_in acts (next outcome) after (h outcome) g.1
once_in (sent request outcome ∷ acts) (answers a b c) after h g = absurd g

leaves_none : (m : Message) (made : Made) → AdmitsNone (leaves m made)
leaves_none m made = (refl, λ reply. tt)

plan_none : (m : Message) (p : Planned) → AdmitsNone (performs m p)
plan_none m (answered made) = leaves_none m made
plan_none m (exchanges request next) = λ outcome. leaves_none m (next outcome)

way_once : (m : Message) (w : Way) → AdmitsAtMost (follows m w)
way_once m (goes plan) = at_most (performs m plan) (plan_none m plan)
way_once m (admits target value next) = inl (λ reply. plan_none m (next (admission_of reply)))

learns_once : (b : Bool) (m : Message) (target : Target) (q : Question) (next : Result Policy AuthorizerFault → Way) (policy : Policy) → AdmitsAtMost (learns b m target q next policy)
learns_once true m target q next policy = way_once m (next (Ok policy))
learns_once false m target q next policy = inr (refl, λ reply. way_once m (next (Ok policy)))

gives_once : (m : Message) (target : Target) (q : Question) (next : Result Policy AuthorizerFault → Way) (given : Result Policy AuthorizerFault) → AdmitsAtMost (gives m target q next given)
gives_once m target q next (Ok policy) = learns_once (q.ttl == 0) m target q next policy
gives_once m target q next (Err why) = way_once m (next (Err why))

inquired_once : (request : Option WireRequest) (m : Message) (target : Target) (q : Question) (next : Result Policy AuthorizerFault → Way) → AdmitsAtMost (inquires_by request m target q next)
inquired_once None m target q next = gives_once m target q next (Err Configuration)
inquired_once (Some request) m target q next = λ outcome. gives_once m target q next (policy_of outcome)

inquires_once : (m : Message) (target : Target) (q : Question) (next : Result Policy AuthorizerFault → Way) → AdmitsAtMost (inquires m target q next)
inquires_once m target q next = inquired_once q.request m target q next

recalled_once : (m : Message) (target : Target) (q : Question) (next : Result Policy AuthorizerFault → Way) (found : Option Policy) → AdmitsAtMost (recalled m target q next found)
recalled_once m target q next (Some policy) = way_once m (next (Ok policy))
recalled_once m target q next None = inquires_once m target q next

consulted_once : (b : Bool) (m : Message) (target : Target) (q : Question) (next : Result Policy AuthorizerFault → Way) → AdmitsAtMost (consulted b m target q next)
consulted_once true m target q next = inquires_once m target q next
consulted_once false m target q next = inr (refl, λ reply. recalled_once m target q next (policy_in reply))

course_once : (m : Message) (c : Course) → AdmitsAtMost (pursues m c)
course_once m (free way) = way_once m way
course_once m (consults target q next) = consulted_once (q.ttl == 0) m target q next

order_none : (m : Message) (order : Result Command Made) → AdmitsNone (administered m order)
order_none m (Ok command) = (refl, λ reply. leaves_none m (replied_made reply))
order_none m (Err made) = leaves_none m made

target_once : (admin : Bool) (m : Message) (target : Target) → AdmitsAtMost (way_to admin m target)
target_once true m target = at_most (administered m (order_of m.too_large m.request target)) (order_none m (order_of m.too_large m.request target))
target_once false m target = inr (refl, λ reply. course_once m (planned_for m.too_large reply m.request target))

walk_once : (m : Message) → AdmitsAtMost (walk m)
unfolding walk
walk_once m = target_once (is_admin (target_of m.request.target)) m (target_of m.request.target)

pub admits_once : AdmitsOnce
admits_once m acts after g = once_in acts (walk m) after (walk_once m) g

-- where an admission is asked for
asks_at : (is_text : Bool) (view : View) (r : Request) (target : Target) (given : Result Policy AuthorizerFault)
    → way_asks (way_along given (planned_at is_text view r target)) ≡ is_keyed_under is_text view r target given
asks_at true view r target given = refl
asks_at false view r target given = method_asks _ _ _ _ given

asks_by : (reply : Reply) (r : Request) (target : Target) (given : Result Policy AuthorizerFault) → way_asks (way_along given (planned_by reply r target)) ≡ is_keyed_by reply r target given
asks_by (Entered view) r target given = asks_at view.api.is_text view r target given
asks_by NoStage r target given = refl
asks_by (Remembered policy) r target given = refl
asks_by NotRemembered r target given = refl
asks_by Learned r target given = refl
asks_by (Admitted key plan) r target given = refl
asks_by InvalidKey r target given = refl
asks_by (Throttled level) r target given = refl
asks_by (QuotaExceeded allowance used) r target given = refl
asks_by Store r target given = refl
asks_by (Left closing) r target given = refl
asks_by Done r target given = refl
asks_by (Deployed number) r target given = refl
asks_by (Usage usage) r target given = refl
asks_by (Refused refusal) r target given = refl

pub asks_where_keyed : AsksWhereKeyed
asks_where_keyed true reply r target given = refl
asks_where_keyed false reply r target given = asks_by reply r target given
