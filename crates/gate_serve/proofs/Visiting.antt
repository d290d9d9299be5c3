-- The connections of a lane, one after another.
use Rattle.std.proofs.Common.{◌≡◌, ℕ, ◌≤◌, Bool, true, false, ◌||◌, List, [], ◌∷◌, ◌++◌, Option, Some, None, ap, sym, ◌∙◌, append-nil, append_assoc, subst, refl, arith}
use Rattle.std.specs.Prelude.{flat_map}
use Rattle.std.specs.Option.{option_map}
use Rattle.std.proofs.lemmas.Grind.{flat_map-append}
use Rattle.gate_ports.specs.Facts.{ComingFacts, ServedFacts, ConnTold, IsComing, IsServed}
use Rattle.gate_ports.specs.Lending.{Lent, GivenBack}
use Rattle.backend_core.specs.declared.outcome.Outcome.{Outcome}
use Rattle.backend_core.specs.declared.request.WireRequest.{WireRequest}
use Rattle.gate_serve.specs.Serving.{Did, GoesOnBy, lane_end_behind, seat_of}
use Rattle.gate_serve.proofs.Doing.{Seats, did_nothing, did_both}
use Rattle.gate_walk.specs.Acts.{sent_by, given_to, tell_closing}
use Rattle.gate_walk.specs.Lanes.{Visit, AreTold, AreComing, AreServed, WereLent, WereGivenBack, GoOn, LaneEnds, acts_of_all, goes_on_behind}
use Rattle.gate_walk.specs.declared.ended.Ended.{Ended}
use Rattle.gate_walk.specs.declared.ended.Ended.TheVariants.{Closed, Cut, BadHead, BadChunk, HeadTooLong, ReadFault, WriteFault, SessionFull, Memory}
use Rattle.gate_walk.specs.declared.ended.LaneEnd.{LaneEnd}
use Rattle.gate_walk.specs.Stories.{Story, Tells, acts_of}
use Rattle.gate_walk.proofs.Standing.{sent_both, given_both, closing_both}
use Rattle.turn_desk.specs.Calls.{HasItsOwn}

pub told_more : (moment word : Option ℕ) (visits : List Visit) (v : Visit) → AreTold moment word visits → Tells moment word v.before v.after v.ended v.story → AreTold moment word (visits ++ v ∷ [])
told_more moment word [] v t here = (here, tt)
told_more moment word (u ∷ us) v t here = (t.0, told_more moment word us v t.1 here)

pub go_on_more : (visits : List Visit) (v : Visit) → GoOn visits → goes_on_behind v.ended ≡ true → GoOn (visits ++ v ∷ [])
go_on_more [] v g here = (here, tt)
go_on_more (u ∷ us) v g here = (g.0, go_on_more us v g.1 here)

coming_more : (lent : List ComingFacts) (visits : List Visit) (f : ComingFacts) (v : Visit) → AreComing lent visits → IsComing f v.before → AreComing (lent ++ f ∷ []) (visits ++ v ∷ [])
coming_more [] [] f v a here = (here, tt)
coming_more [] (u ∷ us) f v a here = absurd a
coming_more (e ∷ es) [] f v a here = absurd a
coming_more (e ∷ es) (u ∷ us) f v a here = (a.0, coming_more es us f v a.1 here)

served_more : (back : List ServedFacts) (visits : List Visit) (f : ServedFacts) (v : Visit) → AreServed back visits → IsServed f v.after → AreServed (back ++ f ∷ []) (visits ++ v ∷ [])
served_more [] [] f v a here = (here, tt)
served_more [] (u ∷ us) f v a here = absurd a
served_more (e ∷ es) [] f v a here = absurd a
served_more (e ∷ es) (u ∷ us) f v a here = (a.0, served_more es us f v a.1 here)

pub lent_more : (old now new : Option (List ComingFacts)) (visits : List Visit) (v : Visit) → WereLent old now visits → Lent v.before now new → WereLent old new (visits ++ v ∷ [])
lent_more None now new visits v w l = subst (λ x. Lent v.before x new) w l
lent_more (Some coming) now new visits v w l =
    let here : Lent v.before (Some w.1) new = subst (λ x. Lent v.before x new) w.3 l in
    (w.0 ++ here.0 ∷ [], here.1, w.2 ∙ ap (λ x. w.0 ++ x) here.2 ∙ sym (append_assoc w.0 (here.0 ∷ []) here.1), here.3, coming_more w.0 visits here.0 v w.4 here.4)

pub back_more : (old now new : Option (List ServedFacts)) (visits : List Visit) (v : Visit) → WereGivenBack old now visits → GivenBack v.after now new → WereGivenBack old new (visits ++ v ∷ [])
back_more None now new visits v w l = subst (λ x. GivenBack v.after x new) w l
back_more (Some served) now new visits v w l =
    let here : GivenBack v.after (Some (served ++ w.0)) new = subst (λ x. GivenBack v.after x new) w.1 l in
    (w.0 ++ here.0 ∷ [], here.1 ∙ ap Some (append_assoc served w.0 (here.0 ∷ [])), served_more w.0 visits here.0 v w.2 here.2)

pub none_lent : (coming : Option (List ComingFacts)) → WereLent coming coming []
none_lent None = refl
none_lent (Some coming) = ([], coming, refl, refl, tt)

pub none_back : (served : Option (List ServedFacts)) → WereGivenBack served served []
none_back None = refl
none_back (Some served) = ([], ap Some (sym (append-nil served)), tt)

pub goes_by : {A : Type 0} (old now new : Option (List A)) (xs ys : List A) → GoesOnBy old now xs → GoesOnBy now new ys → GoesOnBy old new (xs ++ ys)
goes_by None now new xs ys a b = b ∙ ap (option_map (λ items. items ++ ys)) a
goes_by (Some items) now new xs ys a b = b ∙ ap (option_map (λ x. x ++ ys)) a ∙ ap Some (append_assoc items xs ys)

pub acts_all_more : (visits : List Visit) (v : Visit) → acts_of_all (visits ++ v ∷ []) ≡ acts_of_all visits ++ acts_of v.story
acts_all_more visits v = flat_map-append (λ (u : Visit). acts_of u.story) visits (v ∷ []) ∙ ap (λ x. acts_of_all visits ++ x) (append-nil (acts_of v.story))

-- these connections of a lane were served, with what it tells before and after
pub record Saw (before now : Seats) (moment word : Option ℕ) (sent sent' : Option (List WireRequest)) (given given' : Option (List Outcome)) (coming coming' : Option (List ComingFacts))
    (served served' : Option (List ServedFacts)) (visits : List Visit) : Type 0 where
  pub did : Did before now (acts_of_all visits)
  pub sends : GoesOnBy sent sent' (sent_by (acts_of_all visits))
  pub gives : GoesOnBy given given' (given_to (acts_of_all visits))
  pub told : AreTold moment word visits
  pub lent : WereLent coming coming' visits
  pub back : WereGivenBack served served' visits

-- and the lane goes on
pub record Visited (before now : Seats) (moment word : Option ℕ) (sent sent' : Option (List WireRequest)) (given given' : Option (List Outcome)) (coming coming' : Option (List ComingFacts))
    (served served' : Option (List ServedFacts)) : Type 0 where
  pub visits : List Visit
  pub saw : Saw before now moment word sent sent' given given' coming coming' served served' visits
  pub on : GoOn visits
  pub quiet : tell_closing (acts_of_all visits) ≡ false

by_none : {A : Type 0} (told : Option (List A)) → GoesOnBy told told []
by_none None = refl
by_none (Some items) = ap Some (sym (append-nil items))

pub visits_none : (k : Seats) (moment word : Option ℕ) (sent : Option (List WireRequest)) (given : Option (List Outcome)) (coming : Option (List ComingFacts)) (served : Option (List ServedFacts))
    → HasItsOwn seat_of k → Visited k k moment word sent sent given given coming coming served served
visits_none k moment word sent given coming served own = record {
  visits = [];
  saw = record { did = did_nothing k own; sends = by_none sent; gives = by_none given; told = tt; lent = none_lent coming; back = none_back served };
  on = tt;
  quiet = refl;
}

module _ {before now : Seats} {moment word : Option ℕ} {sent sent' : Option (List WireRequest)} {given given' : Option (List Outcome)} {coming coming' : Option (List ComingFacts)}
    {served served' : Option (List ServedFacts)} (r : Visited before now moment word sent sent' given given' coming coming' served served')
    (next : Seats) (v : Visit) (sent'' : Option (List WireRequest)) (given'' : Option (List Outcome)) (coming'' : Option (List ComingFacts)) (served'' : Option (List ServedFacts))
    (did : Did now next (acts_of v.story)) (sends : GoesOnBy sent' sent'' (sent_by (acts_of v.story))) (gives : GoesOnBy given' given'' (given_to (acts_of v.story)))
    (told : Tells moment word v.before v.after v.ended v.story) (lent : Lent v.before coming' coming'') (back : GivenBack v.after served' served'') where
  -- one connection more
  pub saw_more : Saw before next moment word sent sent'' given given'' coming coming'' served served'' (r.visits ++ v ∷ [])
  saw_more =
      let is = acts_all_more r.visits v in
      record {
        did = subst (Did before next) (sym is) (did_both before now next (acts_of_all r.visits) (acts_of v.story) r.saw.did did);
        sends = subst (GoesOnBy sent sent'') (sym (ap sent_by is ∙ sent_both (acts_of_all r.visits) (acts_of v.story))) (goes_by sent sent' sent'' _ _ r.saw.sends sends);
        gives = subst (GoesOnBy given given'') (sym (ap given_to is ∙ given_both (acts_of_all r.visits) (acts_of v.story))) (goes_by given given' given'' _ _ r.saw.gives gives);
        told = told_more moment word r.visits v r.saw.told told;
        lent = lent_more coming coming' coming'' r.visits v r.saw.lent lent;
        back = back_more served served' served'' r.visits v r.saw.back back;
      }

  -- whether it was read then that the session is closing
  pub closing_then : tell_closing (acts_of_all (r.visits ++ v ∷ [])) ≡ tell_closing (acts_of v.story)
  closing_then = ap tell_closing (acts_all_more r.visits v) ∙ closing_both (acts_of_all r.visits) (acts_of v.story) ∙ ap (λ b. b || tell_closing (acts_of v.story)) r.quiet

  pub visits_more : goes_on_behind v.ended ≡ true → tell_closing (acts_of v.story) ≡ false → Visited before next moment word sent sent'' given given'' coming coming'' served served''
  visits_more on quiet = record { visits = r.visits ++ v ∷ []; saw = saw_more; on = go_on_more r.visits v r.on on; quiet = closing_then ∙ quiet }

-- the port tells the same after a look that lent none
pub visits_same : {before now : Seats} {moment word : Option ℕ} {sent sent' : Option (List WireRequest)} {given given' : Option (List Outcome)} {coming coming' : Option (List ComingFacts)}
    {served served' : Option (List ServedFacts)} → Visited before now moment word sent sent' given given' coming coming' served served' → (coming'' : Option (List ComingFacts)) (served'' : Option (List ServedFacts))
    → coming'' ≡ coming' → served'' ≡ served' → Visited before now moment word sent sent' given given' coming coming'' served served''
visits_same {before} {now} {moment} {word} {sent} {sent'} {given} {given'} {coming} {coming'} {served} {served'} r coming'' served'' e f =
    subst (λ x. Visited before now moment word sent sent' given given' coming x served served'') (sym e)
    (subst (λ x. Visited before now moment word sent sent' given given' coming coming' served x) (sym f) r)

some_same : {X : Type 0} {x y : X} → Some x ≡ Some y → x ≡ y
some_same e = cc

none_some : {X : Type 0} {x : X} → None ≡ Some x → ⊥
none_some e = cc

some_none : {X : Type 0} {x : X} → Some x ≡ None → ⊥
some_none e = cc

-- how a lane ends behind a connection
pub ends_behind : (visits : List Visit) (v : Visit) (closing : Bool) (end : LaneEnd) → GoOn visits → tell_closing (acts_of_all (visits ++ v ∷ [])) ≡ closing → (ended : Ended) → v.ended ≡ ended
    → lane_end_behind ended closing ≡ Some end → LaneEnds end (visits ++ v ∷ [])
ends_behind visits v closing end on tells (SessionFull entries bytes) is e =
    subst (λ x. LaneEnds x (visits ++ v ∷ [])) (some_same e) (visits, v, refl, is, on)
ends_behind visits v closing end on tells Memory is e = subst (λ x. LaneEnds x (visits ++ v ∷ [])) (some_same e) (visits, v, refl, is, on)
ends_behind visits v true end on tells Closed is e = subst (λ x. LaneEnds x (visits ++ v ∷ [])) (some_same e) (go_on_more visits v on (ap goes_on_behind is), tells)
ends_behind visits v true end on tells (Cut n) is e = subst (λ x. LaneEnds x (visits ++ v ∷ [])) (some_same e) (go_on_more visits v on (ap goes_on_behind is), tells)
ends_behind visits v true end on tells BadHead is e = subst (λ x. LaneEnds x (visits ++ v ∷ [])) (some_same e) (go_on_more visits v on (ap goes_on_behind is), tells)
ends_behind visits v true end on tells BadChunk is e = subst (λ x. LaneEnds x (visits ++ v ∷ [])) (some_same e) (go_on_more visits v on (ap goes_on_behind is), tells)
ends_behind visits v true end on tells HeadTooLong is e = subst (λ x. LaneEnds x (visits ++ v ∷ [])) (some_same e) (go_on_more visits v on (ap goes_on_behind is), tells)
ends_behind visits v true end on tells ReadFault is e = subst (λ x. LaneEnds x (visits ++ v ∷ [])) (some_same e) (go_on_more visits v on (ap goes_on_behind is), tells)
ends_behind visits v true end on tells WriteFault is e = subst (λ x. LaneEnds x (visits ++ v ∷ [])) (some_same e) (go_on_more visits v on (ap goes_on_behind is), tells)
ends_behind visits v false end on tells Closed is e = absurd (none_some e)
ends_behind visits v false end on tells (Cut n) is e = absurd (none_some e)
ends_behind visits v false end on tells BadHead is e = absurd (none_some e)
ends_behind visits v false end on tells BadChunk is e = absurd (none_some e)
ends_behind visits v false end on tells HeadTooLong is e = absurd (none_some e)
ends_behind visits v false end on tells ReadFault is e = absurd (none_some e)
ends_behind visits v false end on tells WriteFault is e = absurd (none_some e)

-- or goes on
pub goes_on_where : (ended : Ended) (closing : Bool) → lane_end_behind ended closing ≡ None → (goes_on_behind ended ≡ true) × (closing ≡ false)
goes_on_where (SessionFull entries bytes) closing e = absurd (some_none e)
goes_on_where Memory closing e = absurd (some_none e)
goes_on_where Closed false e = (refl, refl)
goes_on_where (Cut n) false e = (refl, refl)
goes_on_where BadHead false e = (refl, refl)
goes_on_where BadChunk false e = (refl, refl)
goes_on_where HeadTooLong false e = (refl, refl)
goes_on_where ReadFault false e = (refl, refl)
goes_on_where WriteFault false e = (refl, refl)
goes_on_where Closed true e = absurd (some_none e)
goes_on_where (Cut n) true e = absurd (some_none e)
goes_on_where BadHead true e = absurd (some_none e)
goes_on_where BadChunk true e = absurd (some_none e)
goes_on_where HeadTooLong true e = absurd (some_none e)
goes_on_where ReadFault true e = absurd (some_none e)
goes_on_where WriteFault true e = absurd (some_none e)
