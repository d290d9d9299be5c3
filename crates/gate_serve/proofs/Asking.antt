-- What a backend was asked.
use Rattle.std.proofs.Common.{◌≡◌, ◌≢◌, ℕ, Bool, true, false, List, [], ◌∷◌, ◌++◌, drop, Option, Some, None, ap, sym, ◌∙◌, append-nil, append_assoc, subst, refl}
use Rattle.std.specs.Option.{option_map}
use Rattle.backend_core.specs.Exchanges.{Follows, noted}
use Rattle.backend_core.specs.declared.outcome.Outcome.{Outcome}
use Rattle.backend_core.specs.declared.outcome.Outcome.TheVariants as outcomes
use Rattle.backend_core.specs.declared.request.WireRequest.{WireRequest}
use Rattle.gate_serve.specs.Serving.{Asked, BackendTold, GoesOnBy, Reaches}
use Rattle.gate_serve.specs.declared.called.Called.{Called}
use Rattle.gate_serve.specs.declared.called.Called.TheVariants.{Answered, Full, Memory}
use Rattle.gate_walk.specs.Acts.{Act, Draws, DrawsFrom, sent, sent_by, given_to}
use Rattle.gate_walk.specs.Walk.{Call}
use Rattle.gate_walk.proofs.Drawing.{draws_both}
use Rattle.gate_walk.proofs.Standing.{given_both, sent_both}
use Rattle.gate_walk.proofs.Ways.{AsksNone, none_sent}

goes_by_none : {A : Type 0} (told : Option (List A)) → GoesOnBy told told []
goes_by_none None = refl
goes_by_none (Some items) = ap Some (sym (append-nil items))

goes_by_both : {A : Type 0} (a b c : Option (List A)) (more next : List A) → GoesOnBy a b more → GoesOnBy b c next → GoesOnBy a c (more ++ next)
goes_by_both None b c more next e f = f ∙ ap (option_map (λ items. items ++ next)) e
goes_by_both (Some items) b c more next e f = f ∙ ap (option_map (λ l. l ++ next)) e ∙ ap Some (append_assoc items more next)

draws_none : (told : Option (List Outcome)) → DrawsFrom told [] told
draws_none None = refl
draws_none (Some script) = (script, refl, refl)

draws_from_both : (a b c : Option (List Outcome)) (more next : List Outcome) → DrawsFrom a more b → DrawsFrom b next c → DrawsFrom a (more ++ next) c
draws_from_both None b c more next e f = subst (λ t. DrawsFrom t next c) e f
draws_from_both (Some script) b c more next (left, is, d) f =
    let on = subst (λ t. DrawsFrom t next c) is f in (on.0, on.1, draws_both more next script left on.0 d on.2)

pub asked_nothing : (told : BackendTold) → Asked told told []
asked_nothing told = record { sends = goes_by_none told.sent; gives = goes_by_none told.given; draws = draws_none told.to_come }

-- acts that ask of none
pub asked_none : (told : BackendTold) (acts : List Act) → (sent_by acts ≡ []) × (given_to acts ≡ []) → Asked told told acts
asked_none told acts (unsent, ungiven) = record {
  sends = subst (GoesOnBy told.sent told.sent) (sym unsent) (goes_by_none told.sent);
  gives = subst (GoesOnBy told.given told.given) (sym ungiven) (goes_by_none told.given);
  draws = subst (λ o. DrawsFrom told.to_come o told.to_come) (sym ungiven) (draws_none told.to_come);
}

pub asked_both : (a b c : BackendTold) (acts next : List Act) → Asked a b acts → Asked b c next → Asked a c (acts ++ next)
asked_both a b c acts next x y = record {
  sends = subst (GoesOnBy a.sent c.sent) (sym (sent_both acts next)) (goes_by_both a.sent b.sent c.sent (sent_by acts) (sent_by next) x.sends y.sends);
  gives = subst (GoesOnBy a.given c.given) (sym (given_both acts next)) (goes_by_both a.given b.given c.given (given_to acts) (given_to next) x.gives y.gives);
  draws = subst (λ o. DrawsFrom a.to_come o c.to_come) (sym (given_both acts next)) (draws_from_both a.to_come b.to_come c.to_come (given_to acts) (given_to next) x.draws y.draws);
}

-- an exchange
noted_one : {A : Type 0} (outcome : Outcome) (old new : Option (List A)) (item : A) → outcome ≢ outcomes.Memory → new ≡ noted outcome old item → GoesOnBy old new (item ∷ [])
noted_one (outcomes.Reply reply) old new item other e = e
noted_one outcomes.Failed old new item other e = e
noted_one outcomes.TimedOut old new item other e = e
noted_one outcomes.Memory old new item other e = absurd (other refl)

draws_one : (outcome : Outcome) (old new : Option (List Outcome)) → outcome ≢ outcomes.Memory → Follows outcome old new → DrawsFrom old (outcome ∷ []) new
draws_one outcome None new other f = none outcome f
  where
    none : (o : Outcome) → Follows o None new → new ≡ None
    none (outcomes.Reply reply) f = f
    none outcomes.Failed f = f
    none outcomes.TimedOut f = f
    none outcomes.Memory f = f
draws_one (outcomes.Reply reply) (Some script) new other (is, on) = (drop 1 script, on, (is, refl))
draws_one outcomes.Failed (Some script) new other (is, on) = (drop 1 script, on, (is, refl))
draws_one outcomes.TimedOut (Some script) new other (is, on) = (drop 1 script, on, (is, refl))
draws_one outcomes.Memory (Some script) new other f = absurd (other refl)

pub asked_once : (old new : BackendTold) (request : WireRequest) (outcome : Outcome) → outcome ≢ outcomes.Memory → new.sent ≡ noted outcome old.sent request → new.given ≡ noted outcome old.given outcome
    → Follows outcome old.to_come new.to_come → Asked old new (sent request outcome ∷ [])
asked_once old new request outcome other sends gives follows = record {
  sends = noted_one outcome old.sent new.sent request other sends;
  gives = noted_one outcome old.given new.given outcome other gives;
  draws = draws_one outcome old.to_come new.to_come other follows;
}

-- an exchange for which memory was wanting leaves what is told
unnoted : {A : Type 0} (outcome : Outcome) (old new : Option (List A)) (item : A) → outcome ≡ outcomes.Memory → new ≡ noted outcome old item → GoesOnBy old new []
unnoted outcome old new item lack e = (e ∙ ap (λ o. noted o old item) lack) ∙ goes_by_none old

undrawn : (outcome : Outcome) (old new : Option (List Outcome)) → outcome ≡ outcomes.Memory → Follows outcome old new → DrawsFrom old [] new
undrawn outcome old new lack f = left old (subst (λ o. Follows o old new) lack f)
  where
    left : (told : Option (List Outcome)) → Follows outcomes.Memory told new → DrawsFrom told [] new
    left None f = f
    left (Some script) f = (script, f, refl)

pub asked_in_vain : (old new : BackendTold) (request : WireRequest) (outcome : Outcome) → outcome ≡ outcomes.Memory → new.sent ≡ noted outcome old.sent request → new.given ≡ noted outcome old.given outcome
    → Follows outcome old.to_come new.to_come → Asked old new []
asked_in_vain old new request outcome lack sends gives follows = record {
  sends = unnoted outcome old.sent new.sent request lack sends;
  gives = unnoted outcome old.given new.given outcome lack gives;
  draws = undrawn outcome old.to_come new.to_come lack follows;
}

-- of a way that asks none, none was asked
pub reaches_none : (call : Call) (acts : List Act) (called : Called) → AsksNone call → Reaches call acts called → (sent_by acts ≡ []) × (given_to acts ≡ [])
reaches_none call acts (Answered cause bytes closes) none reach = none_sent acts call _ none reach
reaches_none call acts (Full full) none reach = none_sent acts call reach.0 none reach.1
reaches_none call acts Memory none reach = none_sent acts call reach.0 none reach.1
