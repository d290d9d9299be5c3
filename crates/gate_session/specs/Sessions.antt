-- What the lanes of a session do in its one history.
use Rattle.std.specs.Prelude.{◌≡◌, ◌⊎◌, ℕ, ◌+◌, ◌<◌, List, [], ◌∷◌, length, ⊤, IfSome, false}
use Rattle.book_rules.specs.History.{Base}
use Rattle.book_rules.specs.declared.events.Entry.{Entry}
use Rattle.gate_serve.specs.Serving.{GoesOnBy}
use Rattle.gate_walk.specs.Acts.{Stand, entries_of, made_by, sent_by, given_to, tell_closing}
use Rattle.gate_walk.specs.Lanes.{Visit, AreTold, WereLent, WereGivenBack, LaneEnds, acts_of_all}
use Rattle.gate_walk.specs.declared.ended.LaneEnd.{LaneEnd}
use Rattle.gate_walk.specs.declared.ended.LaneEnd.TheVariants.{Ended, PortFault}
use Rattle.gw_base.specs.Outside.{Rose}
use Rattle.outside_core.specs.Told.{LaneTold}

-- What a lane tells before and after, and how it ended, where these connections were served on it:
pub record TellsOf (before now : LaneTold) (end : LaneEnd) (visits : List Visit) : Type 0 where
  -- its backend was sent these requests and gave these outcomes;
  pub sends : GoesOnBy before.sent now.sent (sent_by (acts_of_all visits))
  pub gives : GoesOnBy before.given now.given (given_to (acts_of_all visits))
  -- they are told so, were the first to come, and are the last of those given back;
  pub told : AreTold before.moment before.word visits
  pub lent : WereLent before.coming now.coming visits
  pub back : WereGivenBack before.served now.served visits
  -- it ended by them: for itself only where none is to come, at a look that failed only where the port counted it;
  pub ends : LaneEnds end visits
  pub none_left : end ≡ Ended → IfSome now.coming (λ coming. coming ≡ [])
  pub failed : end ≡ PortFault → Rose before.faults now.faults
  -- its port was shut exactly where it was read that the session is closing, and no connection is out;
  pub shut : now.closed ≡ tell_closing (acts_of_all visits)
  pub home : now.out ≡ false
  -- and readings that were all equal are so.
  pub moment : now.moment ≡ before.moment
  pub word : now.word ≡ before.word

-- What a lane did in a history, in which its entries have this number:
pub record LaneDid (base : Base) (number : ℕ) (before now : LaneTold) (end : LaneEnd) (history : List Entry) : Type 0 where
  -- it served these connections, one after another;
  pub visits : List Visit
  pub tells : TellsOf before now end visits
  -- what was done on them stands in the history, with entries of other lanes between, and made all entries of the number.
  pub stand : Stand base number [] (acts_of_all visits) history
  pub entries : entries_of number history ≡ made_by number (acts_of_all visits)

-- the lanes from this number on did so, one after another
abbrev pub LanesDid : Base → ℕ → List LaneTold → List LaneTold → List LaneEnd → List Entry → Type 0
LanesDid base number [] [] [] history = ⊤
LanesDid base number (b ∷ before) (a ∷ now) (e ∷ ends) history = LaneDid base number b a e history × LanesDid base (number + 1) before now ends history
LanesDid base number before now ends history = ⊥

-- The lanes of a session have the numbers from 1 on, and the one history has no entry of another number.
pub record Session (base : Base) (before now : List LaneTold) (ends : List LaneEnd) (history : List Entry) : Type 0 where
  pub lanes : LanesDid base 1 before now ends history
  pub others : (number : ℕ) → (number ≡ 0) ⊎ (length before < number) → entries_of number history ≡ []
