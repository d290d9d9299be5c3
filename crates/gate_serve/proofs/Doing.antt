-- What a call of the desk does.
use Rattle.std.proofs.Common.{◌≡◌, ℕ, ◌+◌, ◌==◌, Bool, true, false, ◌||◌, List, [], ◌∷◌, ◌++◌, length, Option, Some, None, IfSome, Result, Ok, Err, ap, sym, ◌∙◌, append-nil, append_assoc, length-append, subst, refl, arith, rules}
use Rattle.backend_core.specs.declared.outcome.Outcome.{Outcome}
use Rattle.backend_core.specs.declared.request.WireRequest.{WireRequest}
use Rattle.book_core.specs.Books.{Refuses}
use Rattle.book_core.specs.declared.book.StepFault.{StepFault}
use Rattle.book_core.specs.declared.book.StepFault.TheVariants as step
use Rattle.book_rules.specs.History.{Base, Answers}
use Rattle.book_rules.specs.declared.events.Entry.{Entry}
use Rattle.book_rules.specs.declared.events.Event.{Event}
use Rattle.book_rules.specs.declared.replies.Reply.{Reply}
use Rattle.gate_serve.specs.Serving.{Asked, BackendTold, Did, Reaches, Gives, called_by, seat_of}
use Rattle.gate_serve.proofs.Asking.{asked_both, asked_none, asked_nothing}
use Rattle.gate_serve.specs.declared.called.Called.{Called}
use Rattle.gate_serve.specs.declared.called.Called.TheVariants.{Answered, Full, Memory}
use Rattle.gate_walk.specs.Acts.{Act, took, refused, sent, Goes, Stand, WentOn, entry_of, entries_of, made_by, tell_closing, leaves_closing}
use Rattle.gate_walk.specs.Walk.{Call, asks, sends, answers}
use Rattle.gate_walk.specs.declared.ended.SessionFull.{SessionFull as Numbers}
use Rattle.gate_walk.proofs.Standing.{entries_both, stays, stand_both, made_both, closing_both}
use Rattle.turn_desk.specs.Calls.{SeatFacts, IsSameSeat, HasItsOwn, Taken, NotTaken}
use Rattle.turn_desk.specs.Entries.{HasNoneFrom}

abbrev pub Seats : Type 0
Seats = SeatFacts Entry Base

abbrev pub event_of : Entry → Event
event_of e = e.event

same_at : (k : Seats) → IsSameSeat k k
same_at k = (refl, refl, refl, refl, refl, refl)

-- nothing was done
pub did_nothing : (k : Seats) → HasItsOwn seat_of k → Did k k []
did_nothing k own = record { same = same_at k; stand = none k.base; mine = sym (append-nil k.mine); own = own; none_from = λ h. h }
  where
    none : (base : Option Base) → IfSome base (λ b. Stand b k.number k.seen [] k.seen)
    none None = tt
    none (Some b) = stays k.number k.seen

same_both : (k l m : Seats) → IsSameSeat k l → IsSameSeat l m → IsSameSeat k m
same_both k l m a b = (b.0 ∙ a.0, b.1 ∙ a.1, b.2 ∙ a.2, b.3 ∙ a.3, b.4 ∙ a.4, b.5 ∙ a.5)

-- one thing was done, and then another
pub did_both : (k l m : Seats) (acts next : List Act) → Did k l acts → Did l m next → Did k m (acts ++ next)
did_both k l m acts next a b =
    let second : IfSome k.base (λ base. Stand base k.number l.seen next m.seen) =
    subst (λ n. IfSome k.base (λ base. Stand base n l.seen next m.seen)) a.same.2 (subst (λ x. IfSome x (λ base. Stand base l.number l.seen next m.seen)) a.same.3 b.stand) in
    record {
      same = same_both k l m a.same b.same;
      stand = stand k.base a.stand second;
      mine = b.mine ∙ ap (λ x. x ++ made_by l.number next) a.mine ∙ append_assoc k.mine (made_by k.number acts) (made_by l.number next)
          ∙ ap (λ n. k.mine ++ (made_by k.number acts ++ made_by n next)) a.same.2 ∙ ap (λ x. k.mine ++ x) (sym (made_both k.number acts next));
      own = b.own;
      none_from = λ h. b.none_from (a.none_from h);
    }
  where
    stand : (base : Option Base) → IfSome base (λ b. Stand b k.number k.seen acts l.seen) → IfSome base (λ b. Stand b k.number l.seen next m.seen) → IfSome base (λ b. Stand b k.number k.seen (acts ++ next) m.seen)
    stand None x y = tt
    stand (Some b) x y = stand_both b k.number acts next k.seen l.seen m.seen x y

nothing_between : {A : Type 0} (mine more : List A) → mine ≡ mine ++ more → more ≡ []
nothing_between mine [] e = refl
nothing_between mine (x ∷ xs) e = absurd (longer (ap length e ∙ length-append mine (x ∷ xs)))
  where
    longer : length mine ≡ length mine + length (x ∷ xs) → ⊥
    longer h = omega (arith, h)

-- what a seat had seen goes on without an entry of its own
between : (k l : Seats) (more : List Entry) → HasItsOwn seat_of k → HasItsOwn seat_of l → l.number ≡ k.number → l.seen ≡ k.seen ++ more → l.mine ≡ k.mine → entries_of k.number more ≡ []
between k l more own now same seen mine =
    nothing_between k.mine (entries_of k.number more)
    (sym mine ∙ now ∙ ap (λ n. entries_of n l.seen) same ∙ ap (entries_of k.number) seen ∙ entries_both k.number k.seen more ∙ ap (λ x. x ++ entries_of k.number more) (sym own))

-- an event was refused, since the session is full, or memory was wanting
pub did_refuse : (k l : Seats) (event : Event) (full : Numbers) → HasItsOwn seat_of k → HasItsOwn seat_of l → HasNoneFrom seat_of l.seats l.seen → IsSameSeat k l
    → NotTaken Refuses k l event (step.SessionFull full.entries full.bytes) → Did k l (refused event full ∷ [])
did_refuse k l event full own now apart same n =
    let free = between k l n.after.0 own now same.2 (sym n.after.1) n.mine in
    record {
      same = same;
      stand = subst (λ x. IfSome x (λ base. Stand base k.number k.seen (refused event full ∷ []) l.seen)) (sym n.based)
          (l.seen, (n.after.0, sym n.after.1, free), (n.fault.0, n.fault.1, n.fault.2), stays k.number l.seen);
      mine = n.mine ∙ sym (append-nil k.mine);
      own = now;
      none_from = λ _. apart;
    }

pub did_lack : (k l : Seats) (event : Event) → HasItsOwn seat_of k → HasItsOwn seat_of l → HasNoneFrom seat_of l.seats l.seen → IsSameSeat k l → NotTaken Refuses k l event step.Memory → Did k l []
did_lack k l event own now apart same n =
    let free = between k l n.after.0 own now same.2 (sym n.after.1) n.mine in
    record {
      same = same;
      stand = subst (λ x. IfSome x (λ base. Stand base k.number k.seen [] l.seen)) (sym n.based) (n.after.0, sym n.after.1, free);
      mine = n.mine ∙ sym (append-nil k.mine);
      own = now;
      none_from = λ _. apart;
    }

-- an event was taken
is_entry : (entry : Entry) (n : ℕ) (event : Event) → entry.seat ≡ n → entry.event ≡ event → entry ≡ entry_of n event entry.kept
is_entry entry n event s e = ap (λ x. record { seat = x; event = entry.event; kept = entry.kept }) s ∙ ap (λ x. record { seat = n; event = x; kept = entry.kept }) e

own_one : (n : ℕ) (event : Event) (kept : Bool) → entries_of n (entry_of n event kept ∷ []) ≡ entry_of n event kept ∷ []
own_one n event kept = grind (arith, rules)

same_end : {A : Type 0} (mine more : List A) (x : A) → mine ++ x ∷ [] ≡ mine ++ (more ++ x ∷ []) → more ≡ []
same_end mine [] x e = refl
same_end mine (y ∷ ys) x e = absurd (longer (sym (length-append mine (x ∷ [])) ∙ ap length e ∙ length-append mine (y ∷ (ys ++ x ∷ []))) (length-append ys (x ∷ [])))
  where
    longer : length mine + length (x ∷ []) ≡ length mine + length (y ∷ (ys ++ x ∷ [])) → length (ys ++ x ∷ []) ≡ length ys + length (x ∷ []) → ⊥
    longer h l = omega (arith, h, l)

pub did_take : (k l : Seats) (event : Event) (reply : Reply) → HasItsOwn seat_of k → HasItsOwn seat_of l → HasNoneFrom seat_of l.seats l.seen → IsSameSeat k l
    → Taken seat_of event_of Answers k l event reply → (kept : Bool) × Did k l (took event kept reply ∷ [])
did_take k l event reply own now apart same t =
    let n = k.number in
    let kept = t.entry.kept in
    let e : Entry = entry_of n event kept in
    let is : t.entry ≡ e = is_entry t.entry n event t.seat t.event in
    let more = t.after.0 in
    let seen : l.seen ≡ t.before ++ e ∷ [] = t.seen ∙ ap (λ x. t.before ++ x ∷ []) is in
    let mine : l.mine ≡ k.mine ++ e ∷ [] = t.mine ∙ ap (λ x. k.mine ++ x ∷ []) is in
    let whole : entries_of n l.seen ≡ k.mine ++ (entries_of n more ++ e ∷ []) =
    ap (entries_of n) seen ∙ entries_both n t.before (e ∷ []) ∙ ap (λ x. entries_of n t.before ++ x) (own_one n event kept)
    ∙ ap (λ x. entries_of n x ++ e ∷ []) (sym t.after.1) ∙ ap (λ x. x ++ e ∷ []) (entries_both n k.seen more)
    ∙ ap (λ x. (x ++ entries_of n more) ++ e ∷ []) (sym own) ∙ append_assoc k.mine (entries_of n more) (e ∷ []) in
    let free : entries_of n more ≡ [] = same_end k.mine (entries_of n more) e (sym mine ∙ now ∙ ap (λ x. entries_of x l.seen) same.2 ∙ whole) in (
      kept,
      record {
        same = same;
        stand = subst (λ x. IfSome x (λ base. Stand base n k.seen (took event kept reply ∷ []) l.seen)) (sym t.based)
            (t.before, (more, sym t.after.1, free), subst (λ x. Answers t.base t.before x reply) is t.reply, subst (λ x. WentOn n (t.before ++ e ∷ []) x) (sym seen) (stays n (t.before ++ e ∷ [])));
        mine = mine;
        own = now;
        none_from = λ _. apart;
      },
    )

-- where an event was taken, what follows its reply follows the step
pub through : (k l m : Seats) (event : Event) (reply : Reply) (next : Reply → Call) (called : Called) (closing : Bool) (acts : List Act)
    → (first : (kept : Bool) × Did k l (took event kept reply ∷ [])) → leaves_closing event reply ≡ false
    → Did l m acts → Reaches (next reply) acts called → closing ≡ tell_closing acts
    → Did k m (took event first.0 reply ∷ acts) × Reaches (asks event next) (took event first.0 reply ∷ acts) called × (closing ≡ tell_closing (took event first.0 reply ∷ acts))
through k l m event reply next (Answered cause bytes closes) closing acts first open_still did reach tells = (
  did_both k l m (took event first.0 reply ∷ []) acts first.1 did,
  (refl, reach),
  tells ∙ ap (λ b. b || tell_closing acts) (sym open_still),
)
through k l m event reply next (Full full) closing acts first open_still did reach tells = (
  did_both k l m (took event first.0 reply ∷ []) acts first.1 did,
  (reach.0, (refl, reach.1), took event first.0 reply ∷ reach.2, reach.3, ap (λ l. took event first.0 reply ∷ l) reach.4),
  tells ∙ ap (λ b. b || tell_closing acts) (sym open_still),
)
through k l m event reply next Memory closing acts first open_still did reach tells = (
  did_both k l m (took event first.0 reply ∷ []) acts first.1 did,
  (reach.0, (refl, reach.1)),
  tells ∙ ap (λ b. b || tell_closing acts) (sym open_still),
)

pub goes_through : (k l m : Seats) (event : Event) (reply : Reply) (next : Reply → Call) (called : Called) (closing : Bool)
    → ((kept : Bool) × Did k l (took event kept reply ∷ [])) → leaves_closing event reply ≡ false
    → ((acts : List Act) × Did l m acts × Reaches (next reply) acts called × (closing ≡ tell_closing acts))
    → (acts : List Act) × Did k m acts × Reaches (asks event next) acts called × (closing ≡ tell_closing acts)
goes_through k l m event reply next called closing first open_still then =
    let all = through k l m event reply next called closing then.0 first open_still then.1 then.2 then.3 in
    (took event first.0 reply ∷ then.0, all.0, all.1, all.2)

-- the same with what a backend was asked then
pub goes_through_asking : (k l m : Seats) (event : Event) (reply : Reply) (next : Reply → Call) (called : Called) (closing : Bool) (old new : BackendTold)
    → ((kept : Bool) × Did k l (took event kept reply ∷ [])) → leaves_closing event reply ≡ false
    → ((acts : List Act) × Did l m acts × Reaches (next reply) acts called × (closing ≡ tell_closing acts) × Asked old new acts)
    → (acts : List Act) × Did k m acts × Reaches (asks event next) acts called × (closing ≡ tell_closing acts) × Asked old new acts
goes_through_asking k l m event reply next called closing old new first open_still then =
    let all = through k l m event reply next called closing then.0 first open_still then.1 then.2 then.3 in
    (took event first.0 reply ∷ then.0, all.0, all.1, all.2, record { sends = then.4.sends; gives = then.4.gives; draws = then.4.draws })

-- where an exchange came to an outcome, what follows it follows the exchange
did_send : (k l : Seats) (request : WireRequest) (outcome : Outcome) (acts : List Act) → Did k l acts → Did k l (sent request outcome ∷ acts)
did_send k l request outcome acts d = record { same = d.same; stand = stands k.base d.stand; mine = d.mine; own = d.own; none_from = d.none_from }
  where
    stands : (base : Option Base) → IfSome base (λ b. Stand b k.number k.seen acts l.seen) → IfSome base (λ b. Stand b k.number k.seen (sent request outcome ∷ acts) l.seen)
    stands None s = tt
    stands (Some b) s = s

reaches_behind : (request : WireRequest) (outcome : Outcome) (next : Outcome → Call) (acts : List Act) (called : Called) → Reaches (next outcome) acts called
    → Reaches (sends request next) (sent request outcome ∷ acts) called
reaches_behind request outcome next acts (Answered cause bytes closes) reach = (refl, reach)
reaches_behind request outcome next acts (Full full) reach = (reach.0, (refl, reach.1), sent request outcome ∷ reach.2, reach.3, ap (λ l. sent request outcome ∷ l) reach.4)
reaches_behind request outcome next acts Memory reach = (reach.0, (refl, reach.1))

pub goes_out : (k l : Seats) (request : WireRequest) (outcome : Outcome) (next : Outcome → Call) (called : Called) (closing : Bool) (old mid new : BackendTold)
    → Asked old mid (sent request outcome ∷ []) → ((acts : List Act) × Did k l acts × Reaches (next outcome) acts called × (closing ≡ tell_closing acts) × Asked mid new acts)
    → (acts : List Act) × Did k l acts × Reaches (sends request next) acts called × (closing ≡ tell_closing acts) × Asked old new acts
goes_out k l request outcome next called closing old mid new first (acts, did, reach, tells, asked) = (
  sent request outcome ∷ acts,
  did_send k l request outcome acts did,
  reaches_behind request outcome next acts called reach,
  tells,
  asked_both old mid new (sent request outcome ∷ []) acts first asked,
)

-- the last step was taken: its answer stands there
or_none : (b : Bool) → b ≡ (b || false)
or_none true = refl
or_none false = refl

pub goes_last : (k l : Seats) (event : Event) (reply : Reply) (next : Reply → Call) (called : Called) (closing : Bool)
    → ((kept : Bool) × Did k l (took event kept reply ∷ [])) → closing ≡ leaves_closing event reply → Gives (next reply) called
    → (acts : List Act) × Did k l acts × Reaches (asks event next) acts called × (closing ≡ tell_closing acts)
goes_last k l event reply next (Answered cause bytes closes) closing first tells gives =
    (took event first.0 reply ∷ [], first.1, (refl, sym gives), tells ∙ or_none (leaves_closing event reply))
goes_last k l event reply next (Full full) closing first tells gives = absurd gives
goes_last k l event reply next Memory closing first tells gives =
    (took event first.0 reply ∷ [], first.1, (next reply, (refl, refl)), tells ∙ or_none (leaves_closing event reply))

-- a step was refused
pub goes_nowhere : (k l : Seats) (event : Event) (next : Reply → Call) (fault : StepFault) → HasItsOwn seat_of k → HasItsOwn seat_of l → HasNoneFrom seat_of l.seats l.seen → IsSameSeat k l → NotTaken Refuses k l event fault
    → (acts : List Act) × Did k l acts × Reaches (asks event next) acts (called_by fault) × (false ≡ tell_closing acts)
goes_nowhere k l event next (step.SessionFull entries bytes) own now apart same n =
    let full : Numbers = record { entries = entries; bytes = bytes } in
    (refused event full ∷ [], did_refuse k l event full own now apart same n, (asks event next, (refl, refl, refl), [], event, refl), refl)
goes_nowhere k l event next step.Memory own now apart same n = ([], did_lack k l event own now apart same n, (asks event next, refl), refl)

-- memory was wanting before anything was done
pub goes_not : (k : Seats) (call : Call) → HasItsOwn seat_of k → (acts : List Act) × Did k k acts × Reaches call acts Memory × (false ≡ tell_closing acts)
goes_not k call own = ([], did_nothing k own, (call, refl), refl)

-- the same with a backend that was asked nothing
pub goes_nowhere_asking : (k l : Seats) (event : Event) (next : Reply → Call) (fault : StepFault) (told : BackendTold) → HasItsOwn seat_of k → HasItsOwn seat_of l → HasNoneFrom seat_of l.seats l.seen → IsSameSeat k l
    → NotTaken Refuses k l event fault → (acts : List Act) × Did k l acts × Reaches (asks event next) acts (called_by fault) × (false ≡ tell_closing acts) × Asked told told acts
goes_nowhere_asking k l event next (step.SessionFull entries bytes) told own now apart same n =
    let full : Numbers = record { entries = entries; bytes = bytes } in (
      refused event full ∷ [],
      did_refuse k l event full own now apart same n,
      (asks event next, (refl, refl, refl), [], event, refl),
      refl,
      asked_none told (refused event full ∷ []) (refl, refl),
    )
goes_nowhere_asking k l event next step.Memory told own now apart same n = ([], did_lack k l event own now apart same n, (asks event next, refl), refl, asked_nothing told)

pub goes_not_asking : (k : Seats) (call : Call) (told : BackendTold) → HasItsOwn seat_of k → (acts : List Act) × Did k k acts × Reaches call acts Memory × (false ≡ tell_closing acts) × Asked told told acts
goes_not_asking k call told own = ([], did_nothing k own, (call, refl), refl, asked_nothing told)
