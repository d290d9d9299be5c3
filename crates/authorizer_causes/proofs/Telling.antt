-- An authorizer's answers, each behind its cause.
use Rattle.std.proofs.Common.{◌≡◌, ◌⊎◌, inl, inr, ℕ, ◌==◌, Bool, true, false, List, [], ◌∷◌, ◌++◌, Option, Some, None, Result, Ok, Err, ap, sym, ◌∙◌, append-nil, append_assoc, subst, refl}
use Rattle.std.specs.Prelude.{IfSome}
use Rattle.std.specs.Option.{option_map}
use Rattle.admin_routes.specs.Answers.{replied_made}
use Rattle.admin_routes.specs.Asked.{Asked, asked_by}
use Rattle.admin_routes.specs.Origins.{has_foreign_origin}
use Rattle.admin_routes.specs.Orders.{order_at, order_by, order_from, order_of}
use Rattle.admin_routes.specs.Routes.{is_admin, route_in, segments_of}
use Rattle.admin_routes.specs.declared.routes.Route.{Route}
use Rattle.api_model.specs.Definition.{Definition}
use Rattle.api_model.specs.Getters.{authorizer_of}
use Rattle.api_parts.specs.declared.parts.TokenAuthorizer.{TokenAuthorizer}
use Rattle.authorizer_call.specs.Names.{arn_of}
use Rattle.authorizer_call.specs.Outcomes.{allows, policy_of}
use Rattle.authorizer_call.specs.declared.fault.AuthorizerFault.{AuthorizerFault}
use Rattle.authorizer_call.specs.declared.fault.AuthorizerFault.TheVariants as fault
use Rattle.backend_core.specs.declared.outcome.Outcome.{Outcome}
use Rattle.backend_core.specs.declared.request.WireRequest.{WireRequest}
use Rattle.book_rules.specs.declared.events.Command.{Command}
use Rattle.book_rules.specs.declared.events.Event.{Event}
use Rattle.book_rules.specs.declared.events.Event.TheVariants.{Enter, Recall, Learn, Admit, Admin, Leave}
use Rattle.book_rules.specs.declared.replies.Reply.{Reply}
use Rattle.book_rules.specs.declared.replies.Reply.TheVariants.{Entered, NoStage, Remembered, NotRemembered, Learned, Admitted, InvalidKey, Throttled, QuotaExceeded, Store, Left, Done, Deployed, Usage, Refused}
use Rattle.book_rules.specs.declared.replies.View.{View}
use Rattle.call_facts.specs.Target.{target_of}
use Rattle.call_facts.specs.declared.facts.CallFacts.{CallFacts}
use Rattle.call_facts.specs.declared.kind.Kind.{Kind}
use Rattle.call_facts.specs.declared.kind.Kind.TheVariants.{AccessDenied, AuthorizerConfigurationError, AuthorizerFailure, Unauthorized}
use Rattle.call_facts.specs.declared.request.Request.{Request}
use Rattle.call_facts.specs.declared.target.Target.{Target}
use Rattle.gate_walk.specs.Acts.{Act, took, refused, sent, Goes}
use Rattle.gate_walk.specs.Planning.{facts_of, planned_at, planned_by, planned_for, too_large_made}
use Rattle.gate_walk.specs.Walk.{Call, asks, sends, answers, administered, admission_of, consulted, follows, gives, inquires_by, learns, leaves, name_of, performs, policy_in, pursues, recalled, walk, way_to}
use Rattle.gate_walk.specs.declared.message.Message.{Message}
use Rattle.method_answers.specs.Calls.{Call as Routed}
use Rattle.method_answers.specs.Plans.{Planned, Way, admits, answered, asked, authorized, call_at, decided_by, exchanges, fault_kind, goes, judged, let_by, planned, refused_by, routed, with_policy}
use Rattle.method_answers.specs.Questions.{Question, question_of}
use Rattle.method_checks.specs.Routing.{route_of}
use Rattle.method_checks.specs.Tokens.{token_of}
use Rattle.method_checks.specs.declared.routes.Route.{Route as Found}
use Rattle.method_checks.specs.declared.routes.Route.TheVariants.{TextApi, Hit, Missing}
use Rattle.method_checks.specs.declared.tokens.Token.{Token}
use Rattle.method_checks.specs.declared.tokens.Token.TheVariants as token
use Rattle.method_flow.specs.Answers.{text_made}
use Rattle.method_flow.specs.declared.answers.Made.{Made}
use Rattle.policy_core.specs.Decisions.{decision}
use Rattle.policy_core.specs.declared.policy.Policy.{Policy}
use Rattle.vtl_eval.specs.declared.stop.Rendered.{Rendered}
use Rattle.vtl_eval.specs.declared.stop.Stop.{Stop}
use Rattle.authorizer_causes.specs.Laws.{Gave, GaveNothing, StandsBehind, TellsItsAuthorizer, given_by, recalled_by}
use Rattle.authorizer_causes.proofs.Free.{NoneEach, NoneOn, NoneTold, of_let_by, tells_authorizer}

-- It holds of each answer that a way may come to behind these acts, with all acts that lead there.
abbrev EachBehind : (List Act → Option Kind → Type 0) → List Act → Call → Type 0
EachBehind P acts (asks event next) = (kept : Bool) (reply : Reply) → EachBehind P (acts ++ took event kept reply ∷ []) (next reply)
EachBehind P acts (sends request next) = (outcome : Outcome) → EachBehind P (acts ++ sent request outcome ∷ []) (next outcome)
EachBehind P acts (answers cause bytes closes) = P acts cause

-- and so of the one that it came to
behind : (P : List Act → Option Kind → Type 0) (seen acts : List Act) (call : Call) (cause : Option Kind) (bytes : List ℕ) (closes : Bool)
    → EachBehind P seen call → Goes call acts (answers cause bytes closes) → P (seen ++ acts) cause
behind P seen [] call cause bytes closes h g =
    subst (λ x. P x cause) (sym (append-nil seen)) (subst (EachBehind P seen) (sym g) h)
behind P seen (took event kept reply ∷ acts) (asks e next) cause bytes closes h g =
    let on = behind P (seen ++ took e kept reply ∷ []) acts (next reply) cause bytes closes (h kept reply) g.1 in
    subst (λ x. P (seen ++ took x kept reply ∷ acts) cause) (sym g.0) (subst (λ x. P x cause) (append_assoc seen (took e kept reply ∷ []) acts) on)
behind P seen (took event kept reply ∷ acts) (sends request next) cause bytes closes h g = absurd g
behind P seen (took event kept reply ∷ acts) (answers a b c) cause bytes closes h g = absurd g
behind P seen (refused event full ∷ acts) (asks e next) cause bytes closes h g = absurd (no_answer g.2)
  where
    no_answer : answers cause bytes closes ≡ asks e next → ⊥
    no_answer e = cc
behind P seen (refused event full ∷ acts) (sends request next) cause bytes closes h g = absurd g
behind P seen (refused event full ∷ acts) (answers a b c) cause bytes closes h g = absurd g
behind P seen (sent request outcome ∷ acts) (asks e next) cause bytes closes h g = absurd g
behind P seen (sent request outcome ∷ acts) (sends other next) cause bytes closes h g =
    let on = behind P (seen ++ sent other outcome ∷ []) acts (next outcome) cause bytes closes (h outcome) g.1 in
    subst (λ x. P (seen ++ sent x outcome ∷ acts) cause) (sym g.0) (subst (λ x. P x cause) (append_assoc seen (sent other outcome ∷ []) acts) on)
behind P seen (sent request outcome ∷ acts) (answers a b c) cause bytes closes h g = absurd g

-- what acts gave they gave with more behind them
gave_on : (acts more : List Act) (given : Result Policy AuthorizerFault) → Gave acts given → Gave (acts ++ more) given
gave_on acts more given (front, act, rest, is, gave) = (front, act, rest ++ more, ap (λ l. l ++ more) is ∙ append_assoc front (act ∷ rest) more, gave)

nothing_on : (acts : List Act) (act : Act) → GaveNothing acts → given_by act ≡ None → GaveNothing (acts ++ act ∷ [])
nothing_on [] act nothing none = (none, tt)
nothing_on (first ∷ acts) act (here, nothing) none = (here, nothing_on acts act nothing none)

abbrev Told : List ℕ → List Act → Option Kind → Type 0
Told arn acts cause = IfSome cause (λ kind. StandsBehind arn kind acts)

-- an answer whose cause is none of the four
free_kind : (arn : List ℕ) (kind : Kind) (acts : List Act) → tells_authorizer kind ≡ false → StandsBehind arn kind acts
free_kind arn AccessDenied acts e = absurd cc
free_kind arn AuthorizerConfigurationError acts e = absurd cc
free_kind arn AuthorizerFailure acts e = absurd cc
free_kind arn Unauthorized acts e = absurd cc
free_kind arn kind acts e = tt

none_told : (arn : List ℕ) (cause : Option Kind) (acts : List Act) → IfSome cause (λ kind. tells_authorizer kind ≡ false) → Told arn acts cause
none_told arn None acts none = tt
none_told arn (Some kind) acts none = free_kind arn kind acts none

on_leave : (arn : List ℕ) (m : Message) (made : Made) (acts : List Act) → NoneTold made → EachBehind (Told arn) acts (leaves m made)
on_leave arn m made acts none kept reply = none_told arn made.cause _ none

on_plan : (arn : List ℕ) (m : Message) (p : Planned) (acts : List Act) → NoneEach p → EachBehind (Told arn) acts (performs m p)
on_plan arn m (answered made) acts none = on_leave arn m made acts none
on_plan arn m (exchanges request next) acts none = λ outcome. on_leave arn m (next outcome) (acts ++ sent request outcome ∷ []) (none outcome)

on_way : (arn : List ℕ) (m : Message) (w : Way) (acts : List Act) → NoneOn w → EachBehind (Told arn) acts (follows m w)
on_way arn m (goes plan) acts none = on_plan arn m plan acts none
on_way arn m (admits target value next) acts none = λ kept reply. on_plan arn m (next (admission_of reply)) _ (none reply)

-- what an authorizer gave decides
on_decision : (b : Bool) (arn : List ℕ) (m : Message) (c : Routed) (policy : Policy) (acts : List Act) → allows (decision policy arn) ≡ b → Gave acts (Ok policy)
    → EachBehind (Told arn) acts (follows m (decided_by b c))
on_decision true arn m c policy acts is gave = on_way arn m (let_by c) acts (of_let_by c)
on_decision false arn m c policy acts is gave = λ kept reply. (policy, gave_on acts _ (Ok policy) gave, is)

on_fault : (why : AuthorizerFault) (arn : List ℕ) (m : Message) (c : Routed) (acts : List Act) → Gave acts (Err why) → EachBehind (Told arn) acts (follows m (refused_by c (fault_kind why)))
on_fault fault.Failure arn m c acts gave = λ kept reply. (fault.Failure, gave_on acts _ (Err fault.Failure) gave, refl)
on_fault fault.Configuration arn m c acts gave = λ kept reply. inl (gave_on acts _ (Err fault.Configuration) gave)
on_fault fault.Memory arn m c acts gave = λ kept reply. (fault.Memory, gave_on acts _ (Err fault.Memory) gave, refl)

on_judged : (given : Result Policy AuthorizerFault) (arn : List ℕ) (m : Message) (c : Routed) (acts : List Act) → Gave acts given → EachBehind (Told arn) acts (follows m (judged c arn given))
on_judged (Ok policy) arn m c acts gave = on_decision (allows (decision policy arn)) arn m (with_policy c policy) policy acts refl gave
on_judged (Err why) arn m c acts gave = on_fault why arn m c acts gave

on_learn : (b : Bool) (policy : Policy) (arn : List ℕ) (m : Message) (target : Target) (q : Question) (c : Routed) (acts : List Act) → Gave acts (Ok policy)
    → EachBehind (Told arn) acts (learns b m target q (judged c arn) policy)
on_learn true policy arn m target q c acts gave = on_judged (Ok policy) arn m c acts gave
on_learn false policy arn m target q c acts gave = λ kept reply. on_judged (Ok policy) arn m c _ (gave_on acts _ (Ok policy) gave)

on_given : (given : Result Policy AuthorizerFault) (arn : List ℕ) (m : Message) (target : Target) (q : Question) (c : Routed) (acts : List Act) → Gave acts given
    → EachBehind (Told arn) acts (gives m target q (judged c arn) given)
on_given (Ok policy) arn m target q c acts gave = on_learn (q.ttl == 0) policy arn m target q c acts gave
on_given (Err why) arn m target q c acts gave = on_judged (Err why) arn m c acts gave

-- and nothing was given before an authorizer is asked
on_request : (request : Option WireRequest) (arn : List ℕ) (m : Message) (target : Target) (q : Question) (c : Routed) (acts : List Act) → GaveNothing acts
    → EachBehind (Told arn) acts (inquires_by request m target q (judged c arn))
on_request None arn m target q c acts nothing = λ kept reply. inr (nothing_on acts _ nothing refl)
on_request (Some request) arn m target q c acts nothing = λ outcome.
    on_given (policy_of outcome) arn m target q c (acts ++ sent request outcome ∷ []) (acts, sent request outcome, [], refl, refl)

on_recalled : (found : Option Policy) (arn : List ℕ) (m : Message) (target : Target) (q : Question) (c : Routed) (acts : List Act) (kept : Bool) (reply : Reply) → GaveNothing acts → policy_in reply ≡ found
    → EachBehind (Told arn) (acts ++ took (Recall m.moment (name_of target q)) kept reply ∷ []) (recalled m target q (judged c arn) found)
on_recalled (Some policy) arn m target q c acts kept reply nothing is =
    let recall : Act = took (Recall m.moment (name_of target q)) kept reply in
    on_judged (Ok policy) arn m c (acts ++ recall ∷ []) (acts, recall, [], refl, ap (option_map Ok) is)
on_recalled None arn m target q c acts kept reply nothing is =
    let recall : Act = took (Recall m.moment (name_of target q)) kept reply in
    on_request q.request arn m target q c (acts ++ recall ∷ []) (nothing_on acts recall nothing (ap (option_map Ok) is))

on_consulting : (b : Bool) (arn : List ℕ) (m : Message) (target : Target) (q : Question) (c : Routed) (acts : List Act) → GaveNothing acts
    → EachBehind (Told arn) acts (consulted b m target q (judged c arn))
on_consulting true arn m target q c acts nothing = on_request q.request arn m target q c acts nothing
on_consulting false arn m target q c acts nothing = λ kept reply. on_recalled (policy_in reply) arn m target q c acts kept reply nothing refl

-- by the token that a call hands in
abbrev name : Routed → List ℕ
name c = arn_of c.target c.request.method

on_authorizer : (a : Option TokenAuthorizer) (text : List ℕ) (m : Message) (c : Routed) (acts : List Act) → GaveNothing acts → EachBehind (Told (name c)) acts (pursues m (asked c (name c) text a))
on_authorizer None text m c acts nothing = on_way (name c) m (let_by c) acts (of_let_by c)
on_authorizer (Some a) text m c acts nothing =
    on_consulting (a.authorizer.ttl == 0) (name c) m c.target (question_of a.authorizer text (name c)) c acts nothing

on_token : (t : Token) (m : Message) (c : Routed) (acts : List Act) → GaveNothing acts → EachBehind (Told (name c)) acts (pursues m (authorized c t))
on_token token.None m c acts nothing = on_way (name c) m (let_by c) acts (of_let_by c)
on_token token.Bad m c acts nothing = λ kept reply. nothing_on acts _ nothing refl
on_token (token.Taken text) m c acts nothing = on_authorizer (authorizer_of c.definition c.method) text m c acts nothing

on_route : (route : Found) (d : Definition) (r : Request) (t : Target) (f : CallFacts) (m : Message) (acts : List Act) → GaveNothing acts
    → EachBehind (Told (arn_of t r.method)) acts (pursues m (routed d r t f route))
on_route TextApi d r t f m acts nothing = λ kept reply. tt
on_route (Hit found method) d r t f m acts nothing = on_token (token_of d method r) m (call_at d r t f found method) acts nothing
on_route Missing d r t f m acts nothing = λ kept reply. tt

on_document : (d : Definition) (r : Request) (t : Target) (f : CallFacts) (m : Message) (acts : List Act) → GaveNothing acts
    → EachBehind (Told (arn_of t r.method)) acts (pursues m (planned d r t f))
unfolding planned
on_document d r t f m acts nothing = on_route (route_of d r t) d r t f m acts nothing

-- by the reply to the message's Enter
of_text : (r : Result Rendered Stop) → NoneTold (text_made r)
of_text (Ok rendered) = tt
of_text (Err stop) = refl

on_view : (is_text : Bool) (view : View) (r : Request) (t : Target) (m : Message) (acts : List Act) → GaveNothing acts
    → EachBehind (Told (arn_of t r.method)) acts (pursues m (planned_at is_text view r t))
on_view true view r t m acts nothing = on_leave (arn_of t r.method) m (text_made _) acts (of_text _)
on_view false view r t m acts nothing = on_document view.api r t (facts_of t view) m acts nothing

on_reply : (reply : Reply) (r : Request) (t : Target) (m : Message) (acts : List Act) → GaveNothing acts → EachBehind (Told (arn_of t r.method)) acts (pursues m (planned_by reply r t))
on_reply (Entered view) r t m acts nothing = on_view view.api.is_text view r t m acts nothing
on_reply reply r t m acts nothing = λ left replied. tt

by_size : (reply : Reply) (target : Target) → NoneTold (too_large_made reply target)
by_size (Entered view) target = refl
by_size NoStage target = refl
by_size (Remembered policy) target = refl
by_size NotRemembered target = refl
by_size Learned target = refl
by_size (Admitted key plan) target = refl
by_size InvalidKey target = refl
by_size (Throttled level) target = refl
by_size (QuotaExceeded allowance used) target = refl
by_size Store target = refl
by_size (Left closing) target = refl
by_size Done target = refl
by_size (Deployed number) target = refl
by_size (Usage usage) target = refl
by_size (Refused refusal) target = refl

on_message : (large : Bool) (reply : Reply) (r : Request) (t : Target) (m : Message) (acts : List Act) → GaveNothing acts
    → EachBehind (Told (arn_of t r.method)) acts (pursues m (planned_for large reply r t))
on_message true reply r t m acts nothing = on_leave (arn_of t r.method) m (too_large_made reply t) acts (by_size reply t)
on_message false reply r t m acts nothing = on_reply reply r t m acts nothing

-- the administration tells no kind
abbrev IsErrFree : Result Command Made → Type 0
IsErrFree (Ok command) = Unit {0}
IsErrFree (Err made) = NoneTold made

of_order : (asked : Asked) → IsErrFree (order_by asked)
of_order (Ok command) = tt
of_order (Err why) = tt

of_route : (route : Option Route) (body : List ℕ) → IsErrFree (order_at route body)
of_route None body = tt
of_route (Some route) body = of_order (asked_by route body)

of_sender : (foreign : Bool) (r : Request) (target : Target) → IsErrFree (order_from foreign r target)
of_sender true r target = tt
of_sender false r target = of_route (route_in r.method (segments_of target)) r.body

of_request : (large : Bool) (r : Request) (target : Target) → IsErrFree (order_of large r target)
of_request true r target = tt
of_request false r target = of_sender (has_foreign_origin r.headers) r target

on_order : (arn : List ℕ) (m : Message) (order : Result Command Made) → IsErrFree order → EachBehind (Told arn) [] (administered m order)
on_order arn m (Ok command) none = λ kept reply. on_leave arn m (replied_made reply) (took (Admin m.moment command) kept reply ∷ []) tt
on_order arn m (Err made) none = on_leave arn m made [] none

on_target : (admin : Bool) (m : Message) (t : Target) → EachBehind (Told (arn_of t m.request.method)) [] (way_to admin m t)
on_target true m t = on_order (arn_of t m.request.method) m (order_of m.too_large m.request t) (of_request m.too_large m.request t)
on_target false m t = λ kept reply. on_message m.too_large reply m.request t m (took (Enter m.moment m.word t.api t.stage) kept reply ∷ []) (refl, tt)

on_walk : (m : Message) → EachBehind (Told (arn_of (target_of m.request.target) m.request.method)) [] (walk m)
unfolding walk
on_walk m = on_target (is_admin (target_of m.request.target)) m (target_of m.request.target)

pub stands_behind_its_cause : TellsItsAuthorizer
stands_behind_its_cause m acts kind bytes closing g =
    behind (Told (arn_of (target_of m.request.target) m.request.method)) [] acts (walk m) (Some kind) bytes closing (on_walk m) g
