-- The reply to each step of a lane is so, at its place in the one history.
use Rattle.std.proofs.Common.{◌≡◌, ◌∙◌, ap, ℕ, zero, suc, ◌+◌, List, [], ◌∷◌, ◌++◌, All, None, append_assoc, arith}
use Rattle.book_rules.specs.Good.{bad_row}
use Rattle.book_rules.specs.History.{Base}
use Rattle.book_rules.specs.declared.events.Entry.{Entry}
use Rattle.gate_walk.specs.Acts.{Act, took, refused, sent, entry_of, Stand}
use Rattle.gate_walk.specs.Lanes.{acts_of_all}
use Rattle.gate_walk.specs.declared.ended.LaneEnd.{LaneEnd}
use Rattle.gate_session.specs.Sessions.{LanesDid}
use Rattle.outside_core.specs.Told.{LaneTold}
use Rattle.session_quotas.specs.Quotas.{ActIsExact, CallsAreExact, LanesAreExact, RefusalsAreExactInEverySession}

all_more : {A : Type 0} (P : A → Type 0) (x : A) (xs : List A) → P x → All P xs → All P (x ∷ xs)
all_more P x xs p all zero d lt = p
all_more P x xs p all (suc k) d lt = all k d (omega (arith, lt))

-- a history that acts stand in goes on from where they begin
reaches : (base : Base) (n : ℕ) (acts : List Act) (before after : List Entry) → Stand base n before acts after → (more : List Entry) × (after ≡ before ++ more)
reaches base n [] before after s = (s.0, s.1)
reaches base n (took event kept reply ∷ acts) before after s =
    let e = entry_of n event kept in
    let r = reaches base n acts (s.0 ++ e ∷ []) after s.3 in
    (s.1.0 ++ (e ∷ r.0), r.1 ∙ append_assoc s.0 (e ∷ []) r.0 ∙ ap (λ h. h ++ (e ∷ r.0)) s.1.1 ∙ append_assoc before s.1.0 (e ∷ r.0))
reaches base n (refused event full ∷ acts) before after s =
    let r = reaches base n acts s.0 after s.3 in (s.1.0 ++ r.0, r.1 ∙ ap (λ h. h ++ r.0) s.1.1 ∙ append_assoc before s.1.0 r.0)
reaches base n (sent request outcome ∷ acts) before after s = reaches base n acts before after s

acts_exact : CallsAreExact → (base : Base) (n : ℕ) (acts : List Act) (before after : List Entry) → bad_row base.opening ≡ None → Stand base n before acts after
    → All (ActIsExact base n after) acts
acts_exact calls base n [] before after good s = λ k e lt. absurd (omega (arith, lt))
acts_exact calls base n (took event kept reply ∷ acts) before after good s =
    let e = entry_of n event kept in
    let r = reaches base n acts (s.0 ++ e ∷ []) after s.3 in
    all_more (ActIsExact base n after) (took event kept reply) acts
    (record { earlier = s.0; later = r.0; place = r.1 ∙ append_assoc s.0 (e ∷ []) r.0; answered = s.2; exact = calls base s.0 e reply good s.2 })
    (acts_exact calls base n acts (s.0 ++ e ∷ []) after good s.3)
acts_exact calls base n (refused event full ∷ acts) before after good s =
    all_more (ActIsExact base n after) (refused event full) acts tt (acts_exact calls base n acts s.0 after good s.3)
acts_exact calls base n (sent request outcome ∷ acts) before after good s =
    all_more (ActIsExact base n after) (sent request outcome) acts tt (acts_exact calls base n acts before after good s)

lanes_exact : CallsAreExact → (base : Base) (number : ℕ) (before now : List LaneTold) (ends : List LaneEnd) (history : List Entry) → bad_row base.opening ≡ None
    → (did : LanesDid base number before now ends history) → LanesAreExact base number before now ends history did
lanes_exact calls base number [] [] [] history good did = tt
lanes_exact calls base number [] [] (e ∷ ends) history good did = absurd did
lanes_exact calls base number [] (a ∷ now) ends history good did = absurd did
lanes_exact calls base number (b ∷ before) [] ends history good did = absurd did
lanes_exact calls base number (b ∷ before) (a ∷ now) [] history good did = absurd did
lanes_exact calls base number (b ∷ before) (a ∷ now) (e ∷ ends) history good did =
    (acts_exact calls base number (acts_of_all did.0.visits) [] history good did.0.stand, lanes_exact calls base (number + 1) before now ends history good did.1)

pub refusals_exact : CallsAreExact → RefusalsAreExactInEverySession
refusals_exact calls base before now ends history good session = lanes_exact calls base 1 before now ends history good session.lanes
