-- Where no Shutdown stands in a history no lane read that its session is closing, and its port takes looks.
use Rattle.std.proofs.Common.{◌≡◌, ℕ, zero, suc, ◌+◌, Bool, true, false, ◌||◌, List, [], ◌∷◌, ◌++◌, All, length, ap, sym, ◌∙◌, subst, refl, append-nil, append_assoc, arith}
use Rattle.std.specs.List.{list_any}
use Rattle.std.proofs.lemmas.List.Folds.{list_any-append}
use Rattle.book_rules.proofs.Histories.{state_after-more, state_after-nil}
use Rattle.book_rules.specs.History.{Base, Answers, state_after}
use Rattle.book_rules.specs.declared.events.Entry.{Entry}
use Rattle.book_rules.specs.declared.events.Event.{Event}
use Rattle.book_rules.specs.declared.events.Event.TheVariants.{Enter, Recall, Learn, Admit, Admin, Leave}
use Rattle.book_rules.specs.declared.replies.Reply.{Reply}
use Rattle.gate_session.specs.Posts.{IsOpen}
use Rattle.gate_session.specs.Sessions.{LanesDid}
use Rattle.gate_walk.specs.Acts.{Act, took, refused, sent, Stand, entry_of, tell_closing, leaves_closing}
use Rattle.gate_walk.specs.Lanes.{acts_of_all}
use Rattle.gate_walk.specs.Walk.{closing_by}
use Rattle.gate_walk.specs.declared.ended.LaneEnd.{LaneEnd}
use Rattle.keeper_core.specs.Lists.{Lists}
use Rattle.outside_core.specs.Told.{LaneTold}
use Rattle.session_chain.specs.Ends.{shuts_at}

first_of_or : (a b : Bool) → (a || b) ≡ false → a ≡ false
first_of_or true b e = e
first_of_or false b e = refl

second_of_or : (a b : Bool) → (a || b) ≡ false → b ≡ false
second_of_or true b e = absurd (differ e)
  where
    differ : true ≡ false → ⊥
    differ e = cc
second_of_or false b e = e

-- none in a history, none in a front of it
front_none : (front rest : List Entry) → list_any shuts_at (front ++ rest) ≡ false → list_any shuts_at front ≡ false
front_none front rest none = first_of_or (list_any shuts_at front) (list_any shuts_at rest) (sym (list_any-append shuts_at front rest) ∙ none)

open_behind : (opening : Lists) (history more : List Entry) → (state_after opening history).closing ≡ false → list_any shuts_at more ≡ false → (state_after opening (history ++ more)).closing ≡ false
open_behind opening history [] stands none = ap (λ h. (state_after opening h).closing) (append-nil history) ∙ stands
open_behind opening history (e ∷ more) stands none =
    let next : (state_after opening (history ++ e ∷ [])).closing ≡ false =
    ap (λ s. s.closing) (state_after-more opening history e) ∙ ap (λ b. b || shuts_at e) stands ∙ first_of_or (shuts_at e) (list_any shuts_at more) none in
    subst (λ h. (state_after opening h).closing ≡ false) (append_assoc history (e ∷ []) more)
    (open_behind opening (history ++ e ∷ []) more next (second_of_or (shuts_at e) (list_any shuts_at more) none))

-- behind a history without one the session is not closing
still_open : (opening : Lists) (history : List Entry) → list_any shuts_at history ≡ false → (state_after opening history).closing ≡ false
still_open opening history none = open_behind opening [] history (ap (λ s. s.closing) (state_after-nil opening)) none

leaves_open : (base : Base) (here : List Entry) (n : ℕ) (event : Event) (kept : Bool) (answer : Reply) → Answers base here (entry_of n event kept) answer → (state_after base.opening here).closing ≡ false
    → leaves_closing event answer ≡ false
leaves_open base here n (Enter moment word api stage) kept answer a stands = refl
leaves_open base here n (Recall moment name) kept answer a stands = refl
leaves_open base here n (Learn moment name policy ttl) kept answer a stands = refl
leaves_open base here n (Admit moment api stage value) kept answer a stands = refl
leaves_open base here n (Admin moment command) kept answer a stands = refl
leaves_open base here n (Leave status cause) kept answer a stands = ap closing_by a.reply ∙ stands

-- the history goes on from where the acts began
goes_from : (base : Base) (n : ℕ) (acts : List Act) (before after : List Entry) → Stand base n before acts after → (more : List Entry) × (after ≡ before ++ more)
goes_from base n [] before after s = (s.0, s.1)
goes_from base n (took event kept reply ∷ acts) before after s =
    let e = entry_of n event kept in
    let rest = goes_from base n acts (s.0 ++ e ∷ []) after s.3 in (
      s.1.0 ++ e ∷ rest.0,
      rest.1 ∙ append_assoc s.0 (e ∷ []) rest.0 ∙ ap (λ h. h ++ e ∷ rest.0) s.1.1 ∙ append_assoc before s.1.0 (e ∷ rest.0),
    )
goes_from base n (refused event full ∷ acts) before after s =
    let rest = goes_from base n acts s.0 after s.3 in
    (s.1.0 ++ rest.0, rest.1 ∙ ap (λ h. h ++ rest.0) s.1.1 ∙ append_assoc before s.1.0 rest.0)
goes_from base n (sent request outcome ∷ acts) before after s = goes_from base n acts before after s

quiet : (base : Base) (n : ℕ) (acts : List Act) (before after : List Entry) → list_any shuts_at after ≡ false → Stand base n before acts after → tell_closing acts ≡ false
quiet base n [] before after none s = refl
quiet base n (took event kept reply ∷ acts) before after none s =
    let e = entry_of n event kept in
    let rest = goes_from base n acts (s.0 ++ e ∷ []) after s.3 in
    let here : list_any shuts_at s.0 ≡ false = front_none s.0 (e ∷ rest.0) (ap (list_any shuts_at) (sym (rest.1 ∙ append_assoc s.0 (e ∷ []) rest.0)) ∙ none) in
    ap (λ b. b || tell_closing acts) (leaves_open base s.0 n event kept reply s.2 (still_open base.opening s.0 here)) ∙ quiet base n acts (s.0 ++ e ∷ []) after none s.3
quiet base n (refused event full ∷ acts) before after none s = quiet base n acts s.0 after none s.3
quiet base n (sent request outcome ∷ acts) before after none s = quiet base n acts before after none s

all_more : {A : Type 0} (P : A → Type 0) (x : A) (xs : List A) → P x → All P xs → All P (x ∷ xs)
all_more P x xs p all zero d lt = p
all_more P x xs p all (suc k) d lt = all k d (omega (arith, lt))

-- so each lane is open for the next session
pub lanes_open : (base : Base) (number : ℕ) (before now : List LaneTold) (ends : List LaneEnd) (history : List Entry) → LanesDid base number before now ends history → list_any shuts_at history ≡ false → All IsOpen now
lanes_open base number [] [] [] history d none = λ k e lt. absurd (omega (arith, lt))
lanes_open base number [] [] (e ∷ es) history d none = absurd d
lanes_open base number [] (a ∷ rest) ends history d none = absurd d
lanes_open base number (b ∷ bs) [] ends history d none = absurd d
lanes_open base number (b ∷ bs) (a ∷ rest) [] history d none = absurd d
lanes_open base number (b ∷ bs) (a ∷ rest) (e ∷ es) history d none =
    all_more IsOpen a rest (d.0.tells.shut ∙ quiet base number (acts_of_all d.0.visits) [] history none d.0.stand, d.0.tells.home) (lanes_open base (number + 1) bs rest es history d.1 none)

-- as many are there as before
pub as_many : (base : Base) (number : ℕ) (before now : List LaneTold) (ends : List LaneEnd) (history : List Entry) → LanesDid base number before now ends history → length now ≡ length before
as_many base number [] [] [] history d = refl
as_many base number [] [] (e ∷ es) history d = absurd d
as_many base number [] (a ∷ rest) ends history d = absurd d
as_many base number (b ∷ bs) [] ends history d = absurd d
as_many base number (b ∷ bs) (a ∷ rest) [] history d = absurd d
as_many base number (b ∷ bs) (a ∷ rest) (e ∷ es) history d = ap suc (as_many base (number + 1) bs rest es history d.1)
