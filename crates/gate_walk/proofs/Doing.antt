-- What is done on a way, where all that is outside of the book is told and the seat is alone: the acts are fixed.
use Rattle.std.proofs.Common.{◌≡◌, ◌⊎◌, inl, inr, ℕ, Bool, true, false, not, ◌||◌, cond, List, [], ◌∷◌, ◌++◌, drop, length, Option, Some, None, IsSome, ap, sym, ◌∙◌, subst, refl, append_assoc}
use Rattle.backend_core.specs.Exchanges.{next_of}
use Rattle.backend_core.specs.declared.outcome.Outcome.{Outcome}
use Rattle.backend_core.specs.declared.request.WireRequest.{WireRequest}
use Rattle.book_rules.specs.History.{Base, Answers, IsAsPlanned, is_changing, is_full, reply as reply_to, total_size}
use Rattle.book_rules.specs.declared.events.Entry.{Entry}
use Rattle.book_rules.specs.declared.events.Event.{Event}
use Rattle.book_rules.specs.declared.replies.Reply.{Reply}
use Rattle.call_facts.specs.declared.kind.Kind.{Kind}
use Rattle.gate_walk.specs.Acts.{Act, took, refused, sent, Draws, Goes, IsFullAt, entry_of, given_to}
use Rattle.gate_walk.specs.Told.{is_kept, is_planned, entry_at, reply_at, numbers_of}
use Rattle.gate_walk.specs.Walk.{Call, asks, sends, answers}
use Rattle.gate_walk.specs.declared.ended.SessionFull.{SessionFull}
use Rattle.gate_walk.proofs.Following.{Follow}
use Rattle.keeper_core.specs.Keeping.{Planned}

-- a step there, and what follows it
abbrev step_by : Bool → ℕ → Base → List Entry → Event → List Act → List Act
step_by true n base h e then = refused e (numbers_of h) ∷ []
step_by false n base h e then = took e (is_kept base h e) (reply_at base h e) ∷ then

-- the acts from here on, where backends give these outcomes
abbrev pub doing : Base → ℕ → Call → List Entry → List Outcome → List Act
doing base n (asks e next) h script = step_by (is_full base.limits h e) n base h e (doing base n (next (reply_at base h e)) (h ++ entry_at n base h e ∷ []) script)
doing base n (sends request next) h script = sent request (next_of script) ∷ doing base n (next (next_of script)) h (drop 1 script)
doing base n (answers cause bytes closing) h script = []

-- the acts came to an answer, or to a refusal
abbrev pub IsAnswer : Call → Type 0
IsAnswer (asks e next) = ⊥
IsAnswer (sends request next) = ⊥
IsAnswer (answers cause bytes closing) = Unit {0}

abbrev pub EndsRefused : List Act → Type 0
EndsRefused acts = (front : List Act) × (event : Event) × (full : SessionFull) × (acts ≡ front ++ refused event full ∷ [])

abbrev pub IsOver : List Act → Call → Type 0
IsOver acts after = IsAnswer after ⊎ EndsRefused acts

none_refused : (front : List Act) (act : Act) → [] ≡ front ++ act ∷ [] → ⊥
none_refused [] act e = cc
none_refused (x ∷ xs) act e = cc

tail_of : (x y : Act) (xs ys : List Act) → x ∷ xs ≡ y ∷ ys → xs ≡ ys
tail_of x y xs ys e = cc

head_of : (x y : Act) (xs ys : List Act) → x ∷ xs ≡ y ∷ ys → x ≡ y
head_of x y xs ys e = cc

took_refused : {e f : Event} {kept : Bool} {r : Reply} {full : SessionFull} → took e kept r ≡ refused f full → ⊥
took_refused e = cc

sent_refused : {request : WireRequest} {outcome : Outcome} {f : Event} {full : SessionFull} → sent request outcome ≡ refused f full → ⊥
sent_refused e = cc

-- behind a step that was taken, or an exchange, the acts are over as they were with it
over_behind : (act : Act) (acts : List Act) (after : Call) → ((event : Event) (full : SessionFull) → act ≡ refused event full → ⊥) → IsOver (act ∷ acts) after → IsOver acts after
over_behind act acts after other (inl answer) = inl answer
over_behind act acts after other (inr ([], event, full, is)) = absurd (other event full (head_of act (refused event full) acts [] is))
over_behind act acts after other (inr (x ∷ front, event, full, is)) = inr (front, event, full, tail_of act x acts (front ++ refused event full ∷ []) is)

not_over : (call after : Call) → after ≡ call → (IsAnswer call → ⊥) → IsOver [] after → ⊥
not_over call after is none (inl answer) = none (subst IsAnswer is answer)
not_over call after is none (inr (front, event, full, e)) = none_refused front (refused event full) e

-- whether it was kept follows from the calls that are told to fail
kept_by : (changing kept planned : Bool) → (changing ≡ false → kept ≡ true) → (changing ≡ true → kept ≡ planned) → kept ≡ (not changing || planned)
kept_by true kept planned else_kept as_planned = as_planned refl
kept_by false kept planned else_kept as_planned = else_kept refl

kept_at : (base : Base) (history : List Entry) (entry : Entry) (planned : Option Planned) → IsSome planned
    → (is_changing base.opening history entry.event ≡ false → entry.kept ≡ true) → IsAsPlanned base history entry planned
    → entry.kept ≡ (not (is_changing base.opening history entry.event) || is_planned base history entry.event planned)
kept_at base history entry None told else_kept as_planned = absurd (none_told told)
  where
    none_told : IsSome {T = Planned} None → ⊥
    none_told h = cc
kept_at base history entry (Some known) told else_kept as_planned = kept_by (is_changing base.opening history entry.event) entry.kept (is_planned base history entry.event (Some known)) else_kept as_planned

pub kept_as_told : (base : Base) (history : List Entry) (entry : Entry) (answer : Reply) → IsSome base.start.planned → Answers base history entry answer → entry.kept ≡ is_kept base history entry.event
kept_as_told base history entry answer told a = kept_at base history entry base.start.planned told a.else_kept a.planned

same_numbers : (full : SessionFull) (history : List Entry) → full.entries ≡ length history → full.bytes ≡ total_size history → full ≡ numbers_of history
same_numbers full history e b = ap (λ n. record { entries = n; bytes = full.bytes }) e ∙ ap (λ n. record { entries = length history; bytes = n }) b

module _ (base : Base) (n : ℕ) (told : IsSome base.start.planned) where
  at_step : (full : Bool) (h : List Entry) (e : Event) (then acts : List Act) → is_full base.limits h e ≡ full → step_by full n base h e then ≡ acts → step_by (is_full base.limits h e) n base h e then ≡ acts
  at_step full h e then acts is s = ap (λ b. step_by b n base h e then) is ∙ s

  -- the acts that lead to an answer, or to a refusal, are these
  pub acts_are : (call after : Call) (acts : List Act) (h end : List Entry) (script left : List Outcome) → Goes call acts after → IsOver acts after → Follow base n h acts end
      → Draws script (given_to acts) left → doing base n call h script ≡ acts
  acts_are (answers cause bytes closing) after [] h end script left goes over f d = refl
  acts_are (answers cause bytes closing) after (act ∷ acts) h end script left goes over f d = absurd goes
  acts_are (asks e next) after [] h end script left goes over f d = absurd (not_over (asks e next) after goes (λ x. x) over)
  acts_are (asks e next) after (took event kept reply ∷ acts) h end script left (is, goes) over (answer, f) d =
      let is_told : kept ≡ is_kept base h event = kept_as_told base h (entry_of n event kept) reply told answer in
      let reply_is : reply ≡ reply_at base h event = answer.reply ∙ ap (λ k. reply_of k) is_told in
      let room : is_full base.limits h e ≡ false = ap (is_full base.limits h) (sym is) ∙ answer.room in
      let later : doing base n (next reply) (h ++ entry_of n event kept ∷ []) script ≡ acts =
      acts_are (next reply) after acts (h ++ entry_of n event kept ∷ []) end script left goes (over_behind (took event kept reply) acts after (λ x full. took_refused) over) f d in
      at_step false h e _ (took event kept reply ∷ acts) room
      (ap (λ x. took x (is_kept base h x) (reply_at base h x) ∷ doing base n (next (reply_at base h x)) (h ++ entry_at n base h x ∷ []) script) (sym is)
      ∙ ap (λ (p : Reply). took event (is_kept base h event) p ∷ doing base n (next p) (h ++ entry_at n base h event ∷ []) script) (sym reply_is)
      ∙ ap (λ (k : Bool). took event k reply ∷ doing base n (next reply) (h ++ entry_of n event k ∷ []) script) (sym is_told)
      ∙ ap (λ l. took event kept reply ∷ l) later)
    where
      reply_of : Bool → Reply
      reply_of k = reply_to base.opening h event k
  acts_are (asks e next) after (refused event full ∷ acts) h end script left (is, no_more, same) over (there, f) d =
      let full_is : full ≡ numbers_of h = same_numbers full h there.1 there.2 in
      at_step true h e _ (refused event full ∷ acts) (ap (is_full base.limits h) (sym is) ∙ there.0)
      (ap (λ x. refused x (numbers_of h) ∷ []) (sym is) ∙ ap (λ x. refused event x ∷ []) (sym full_is) ∙ ap (λ l. refused event full ∷ l) (sym no_more))
  acts_are (asks e next) after (sent request outcome ∷ acts) h end script left goes over f d = absurd goes
  acts_are (sends request next) after [] h end script left goes over f d = absurd (not_over (sends request next) after goes (λ x. x) over)
  acts_are (sends request next) after (took event kept reply ∷ acts) h end script left goes over f d = absurd goes
  acts_are (sends request next) after (refused event full ∷ acts) h end script left goes over f d = absurd goes
  acts_are (sends request next) after (sent other outcome ∷ acts) h end script left (is, goes) over f (same, d) =
      let later : doing base n (next outcome) h (drop 1 script) ≡ acts =
      acts_are (next outcome) after acts h end (drop 1 script) left goes (over_behind (sent other outcome) acts after (λ x full. sent_refused) over) f d in
      ap (λ r. sent r (next_of script) ∷ doing base n (next (next_of script)) h (drop 1 script)) (sym is)
      ∙ ap (λ (o : Outcome). sent other o ∷ doing base n (next o) h (drop 1 script)) (sym same)
      ∙ ap (λ l. sent other outcome ∷ l) later

-- acts lead to one place
pub one_place : (call : Call) (acts : List Act) (a b : Call) → Goes call acts a → Goes call acts b → a ≡ b
one_place call [] a b g h = g ∙ sym h
one_place (asks e next) (took event kept reply ∷ acts) a b g h = one_place (next reply) acts a b g.1 h.1
one_place (asks e next) (refused event full ∷ acts) a b g h = g.2 ∙ sym h.2
one_place (asks e next) (sent request outcome ∷ acts) a b g h = absurd g
one_place (sends request next) (took event kept reply ∷ acts) a b g h = absurd g
one_place (sends request next) (refused event full ∷ acts) a b g h = absurd g
one_place (sends request next) (sent other outcome ∷ acts) a b g h = one_place (next outcome) acts a b g.1 h.1
one_place (answers cause bytes closing) (act ∷ acts) a b g h = absurd g
