-- What holds of every way of a message.
use Rattle.std.proofs.Common.{◌≡◌, ℕ, ◌+◌, ◌≤◌, ◌==◌, arith, Bool, true, false, ◌||◌, List, [], ◌∷◌, Option, Some, None, Result, Ok, Err, ap, sym, subst, refl}
use Rattle.admin_routes.specs.Answers.{replied_made}
use Rattle.admin_routes.specs.Orders.{order_of}
use Rattle.admin_routes.specs.Routes.{is_admin}
use Rattle.authorizer_call.specs.Outcomes.{policy_of}
use Rattle.authorizer_call.specs.declared.fault.AuthorizerFault.{AuthorizerFault}
use Rattle.authorizer_call.specs.declared.fault.AuthorizerFault.TheVariants.{Configuration}
use Rattle.backend_core.specs.declared.outcome.Outcome.{Outcome}
use Rattle.backend_core.specs.declared.request.WireRequest.{WireRequest}
use Rattle.book_rules.specs.declared.events.Command.{Command}
use Rattle.book_rules.specs.declared.replies.Reply.{Reply}
use Rattle.call_facts.specs.Target.{target_of}
use Rattle.call_facts.specs.declared.kind.Kind.{Kind}
use Rattle.call_facts.specs.declared.request.Request.{Request}
use Rattle.call_facts.specs.declared.target.Target.{Target}
use Rattle.std.proofs.lemmas.Grind.{common_steps}
use Rattle.gate_walk.specs.Acts.{Act, took, refused, sent, Goes, sent_by, given_to, leaves_closing, tell_closing}
use Rattle.gate_walk.specs.Closing.{asks_close, closes, most_messages}
use Rattle.gate_walk.specs.Planning.{planned_for}
use Rattle.gate_walk.specs.Walk.{Call, asks, sends, answers, administered, admission_of, closing_by, consulted, follows, gives, inquires, inquires_by, learns, leaves, performs, policy_in, pursues, recalled, walk, way_to}
use Rattle.gate_walk.specs.declared.message.Message.{Message}
use Rattle.method_answers.specs.Plans.{Course, Planned, Way, admits, answered, consults, exchanges, free, goes}
use Rattle.method_answers.specs.Questions.{Question}
use Rattle.method_flow.specs.declared.answers.Made.{Made}
use Rattle.policy_core.specs.declared.policy.Policy.{Policy}

-- It holds of each answer that a way may come to, with whether a Leave on it was replied that the session is closing.
abbrev pub Each : (Option Kind → List ℕ → Bool → Bool → Type 0) → Bool → Call → Type 0
Each P closing (asks event next) = (reply : Reply) → Each P (closing || leaves_closing event reply) (next reply)
Each P closing (sends request next) = (outcome : Outcome) → Each P closing (next outcome)
Each P closing (answers cause bytes closes) = P cause bytes closes closing

or_none : (b : Bool) → (b || false) ≡ b
or_none true = refl
or_none false = refl

or_assoc : (a b c : Bool) → ((a || b) || c) ≡ (a || (b || c))
or_assoc true b c = refl
or_assoc false b c = refl

-- and so of the one that it came to
pub each_answer : (P : Option Kind → List ℕ → Bool → Bool → Type 0) (acts : List Act) (closing : Bool) (call : Call) (cause : Option Kind) (bytes : List ℕ) (closes : Bool)
    → Each P closing call → Goes call acts (answers cause bytes closes) → P cause bytes closes (closing || tell_closing acts)
each_answer P [] closing call cause bytes closes h g =
    subst (P cause bytes closes) (sym (or_none closing)) (subst (Each P closing) (sym g) h)
each_answer P (took event kept reply ∷ acts) closing (asks e next) cause bytes closes h g =
    let on = each_answer P acts (closing || leaves_closing e reply) (next reply) cause bytes closes (h reply) g.1 in
    subst (λ x. P cause bytes closes (closing || (leaves_closing x reply || tell_closing acts))) (sym g.0)
    (subst (P cause bytes closes) (or_assoc closing (leaves_closing e reply) (tell_closing acts)) on)
each_answer P (took event kept reply ∷ acts) closing (sends request next) cause bytes closes h g = absurd g
each_answer P (took event kept reply ∷ acts) closing (answers a b c) cause bytes closes h g = absurd g
each_answer P (refused event full ∷ acts) closing (asks e next) cause bytes closes h g = absurd (no_answer g.2)
  where
    no_answer : answers cause bytes closes ≡ asks e next → ⊥
    no_answer e = cc
each_answer P (refused event full ∷ acts) closing (sends request next) cause bytes closes h g = absurd g
each_answer P (refused event full ∷ acts) closing (answers a b c) cause bytes closes h g = absurd g
each_answer P (sent request outcome ∷ acts) closing (asks e next) cause bytes closes h g = absurd g
each_answer P (sent request outcome ∷ acts) closing (sends other next) cause bytes closes h g =
    each_answer P acts closing (next outcome) cause bytes closes (h outcome) g.1
each_answer P (sent request outcome ∷ acts) closing (answers a b c) cause bytes closes h g = absurd g

or_parts : (a b : Bool) → (a || b) ≡ false → (a ≡ false) × (b ≡ false)
or_parts true b e = absurd cc
or_parts false b e = (refl, e)

-- The connection stays open only behind a message that does not close it, and where no Leave was replied that the session is closing.
abbrev Closes : Message → Option Kind → List ℕ → Bool → Bool → Type 0
Closes m cause bytes stays closing = stays ≡ false → (closes m.number m.too_large m.request ≡ false) × (closing ≡ false)

leaves_closes : (m : Message) (made : Made) → Each (Closes m) false (leaves m made)
leaves_closes m made reply open_still = or_parts (closes m.number m.too_large m.request) (closing_by reply) open_still

order_closes : (m : Message) (order : Result Command Made) → Each (Closes m) false (administered m order)
order_closes m (Ok command) = λ reply. leaves_closes m (replied_made reply)
order_closes m (Err made) = leaves_closes m made

plan_closes : (m : Message) (p : Planned) → Each (Closes m) false (performs m p)
plan_closes m (answered made) = leaves_closes m made
plan_closes m (exchanges request next) = λ outcome. leaves_closes m (next outcome)

follows_closes : (m : Message) (w : Way) → Each (Closes m) false (follows m w)
follows_closes m (goes plan) = plan_closes m plan
follows_closes m (admits target value next) = λ reply. plan_closes m (next (admission_of reply))

learns_closes : (b : Bool) (m : Message) (target : Target) (q : Question) (next : Result Policy AuthorizerFault → Way) (policy : Policy) → Each (Closes m) false (learns b m target q next policy)
learns_closes true m target q next policy = follows_closes m (next (Ok policy))
learns_closes false m target q next policy = λ reply. follows_closes m (next (Ok policy))

gives_closes : (m : Message) (target : Target) (q : Question) (next : Result Policy AuthorizerFault → Way) (given : Result Policy AuthorizerFault) → Each (Closes m) false (gives m target q next given)
gives_closes m target q next (Ok policy) = learns_closes (q.ttl == 0) m target q next policy
gives_closes m target q next (Err why) = follows_closes m (next (Err why))

inquired_closes : (request : Option WireRequest) (m : Message) (target : Target) (q : Question) (next : Result Policy AuthorizerFault → Way) → Each (Closes m) false (inquires_by request m target q next)
inquired_closes None m target q next = gives_closes m target q next (Err Configuration)
inquired_closes (Some request) m target q next = λ outcome. gives_closes m target q next (policy_of outcome)

inquires_closes : (m : Message) (target : Target) (q : Question) (next : Result Policy AuthorizerFault → Way) → Each (Closes m) false (inquires m target q next)
inquires_closes m target q next = inquired_closes q.request m target q next

recalled_closes : (m : Message) (target : Target) (q : Question) (next : Result Policy AuthorizerFault → Way) (found : Option Policy) → Each (Closes m) false (recalled m target q next found)
recalled_closes m target q next (Some policy) = follows_closes m (next (Ok policy))
recalled_closes m target q next None = inquires_closes m target q next

consulted_closes : (b : Bool) (m : Message) (target : Target) (q : Question) (next : Result Policy AuthorizerFault → Way) → Each (Closes m) false (consulted b m target q next)
consulted_closes true m target q next = inquires_closes m target q next
consulted_closes false m target q next = λ reply. recalled_closes m target q next (policy_in reply)

course_closes : (m : Message) (c : Course) → Each (Closes m) false (pursues m c)
course_closes m (free way) = follows_closes m way
course_closes m (consults target q next) = consulted_closes (q.ttl == 0) m target q next

way_closes : (admin : Bool) (m : Message) (target : Target) → Each (Closes m) false (way_to admin m target)
way_closes true m target = order_closes m (order_of m.too_large m.request target)
way_closes false m target = λ reply. course_closes m (planned_for m.too_large reply m.request target)

walk_closes : (m : Message) → Each (Closes m) false (walk m)
unfolding walk
walk_closes m = way_closes (is_admin (target_of m.request.target)) m (target_of m.request.target)

pub stays_open : (m : Message) (acts : List Act) (cause : Option Kind) (bytes : List ℕ) (closing : Bool)
    → Goes (walk m) acts (answers cause bytes closing) → closing ≡ false → (closes m.number m.too_large m.request ≡ false) × (tell_closing acts ≡ false)
stays_open m acts cause bytes closing g e = each_answer (Closes m) acts false (walk m) cause bytes closing (walk_closes m) g e

-- No backend is asked on it.
abbrev pub AsksNone : Call → Type 0
AsksNone (asks event next) = (reply : Reply) → AsksNone (next reply)
AsksNone (sends request next) = ⊥
AsksNone (answers cause bytes closes) = Unit {0}

pub none_sent : (acts : List Act) (call after : Call) → AsksNone call → Goes call acts after → (sent_by acts ≡ []) × (given_to acts ≡ [])
none_sent [] call after h g = (refl, refl)
none_sent (took event kept reply ∷ acts) (asks e next) after h g = none_sent acts (next reply) after (h reply) g.1
none_sent (took event kept reply ∷ acts) (sends request next) after h g = absurd g
none_sent (took event kept reply ∷ acts) (answers a b c) after h g = absurd g
none_sent (refused event full ∷ acts) (asks e next) after h g = (ap sent_by g.1, ap given_to g.1)
none_sent (refused event full ∷ acts) (sends request next) after h g = absurd g
none_sent (refused event full ∷ acts) (answers a b c) after h g = absurd g
none_sent (sent request outcome ∷ acts) (asks e next) after h g = absurd g
none_sent (sent request outcome ∷ acts) (sends other next) after h g = absurd h
none_sent (sent request outcome ∷ acts) (answers a b c) after h g = absurd g

-- neither by a message that leaves, nor by the administration
pub leaving_asks_none : (m : Message) (made : Made) → AsksNone (leaves m made)
leaving_asks_none m made = λ left. tt

pub order_asks_none : (m : Message) (order : Result Command Made) → AsksNone (administered m order)
order_asks_none m (Ok command) = λ reply left. tt
order_asks_none m (Err made) = λ left. tt

last_stays : (number : ℕ) → number ≤ 1000 → (number == 1000) ≡ false → number + 1 ≤ 1000
last_stays number h e = grind (arith, common_steps)

-- the thousandth message is the last
pub another : (number : ℕ) (large : Bool) (r : Request) → number ≤ 1000 → closes number large r ≡ false → number + 1 ≤ 1000
unfolding most_messages
another number large r h e =
    let unasked = (or_parts large (r.http10 || (asks_close r || number == 1000)) e).1 in
    let unnumbered = (or_parts r.http10 (asks_close r || number == 1000) unasked).1 in
    last_stays number h (or_parts (asks_close r) (number == 1000) unnumbered).1
