-- A lane at its post: before it is served, and behind it.
use Rattle.std.specs.Prelude.{◌≡◌, ℕ, ◌+◌, Bool, false, List, [], ◌∷◌, ⊤, Option, Some, IsSome, MatchOption}
use Rattle.book_rules.specs.History.{Base}
use Rattle.book_rules.specs.declared.events.Entry.{Entry}
use Rattle.gate_serve.specs.Serving.{Did, seat_of}
use Rattle.gate_session.specs.Sessions.{TellsOf}
use Rattle.gate_walk.specs.Lanes.{Visit, acts_of_all}
use Rattle.gate_walk.specs.declared.ended.LaneEnd.{LaneEnd}
use Rattle.outside_core.specs.Told.{LaneTold}
use Rattle.turn_desk.specs.Calls.{SeatFacts, TableId, HasItsOwn}

abbrev pub Seat : Type 0
Seat = SeatFacts Entry Base

-- what a lane at its post tells, its seat, and how it ended, where it was served
pub record PostFacts : Type 0 where
  pub told : LaneTold
  pub seat : Option Seat
  pub end : Option LaneEnd

-- what a seat answers for itself: its number with its entries
abbrev pub share_of : Seat → ℕ × List Entry
share_of s = (s.number, s.mine)

-- the port takes looks, and no connection is out
abbrev pub IsOpen : LaneTold → Type 0
IsOpen told = (told.closed ≡ false) × (told.out ≡ false)

-- it can be served: its seat is of this desk and made no entry yet, its port is open
pub record IsReady (desk : TableId) (post : PostFacts) : Type 0 where
  pub seat : MatchOption post.seat ⊥ (λ s. (s.desk ≡ desk) × HasItsOwn seat_of s × (s.mine ≡ []))
  pub is_open : IsOpen post.told

-- what a seat did on its lane
pub record Served (before now : Seat) (old new : LaneTold) (end : LaneEnd) : Type 0 where
  pub visits : List Visit
  pub did : Did before now (acts_of_all visits)
  pub tells : TellsOf old new end visits

-- it was served: its seat is back, and it has an end
abbrev pub WasServed : PostFacts → PostFacts → Type 0
WasServed old new = MatchOption old.seat ⊥ (λ s. MatchOption new.seat ⊥ (λ t. MatchOption new.end ⊥ (λ e. Served s t old.told new.told e)))

-- these stand to those so, one to one
abbrev pub EachTo : {A B : Type 0} → (A → B → Type 0) → List A → List B → Type 0
EachTo R [] [] = ⊤
EachTo R (x ∷ xs) (y ∷ ys) = R x y × EachTo R xs ys
EachTo R xs ys = ⊥

-- a seat of this desk that was just split off, with this number: it has seen nothing, and no other was joined into it
pub record IsFresh (desk : TableId) (base : Base) (number : ℕ) (seat : Seat) : Type 0 where
  pub desk_is : seat.desk ≡ desk
  pub number_is : seat.number ≡ number
  pub based : seat.base ≡ Some base
  pub seen : seat.seen ≡ []
  pub mine : seat.mine ≡ []
  pub ended : seat.ended ≡ []
  pub spare : seat.spare ≡ []

-- lanes that tell this stand at these posts, with fresh seats of the numbers from this one on
abbrev pub AreSeated : TableId → Base → ℕ → List LaneTold → List PostFacts → Type 0
AreSeated desk base number [] [] = ⊤
AreSeated desk base number (t ∷ ts) (p ∷ ps) = (p.told ≡ t) × MatchOption p.seat ⊥ (IsFresh desk base number) × AreSeated desk base (number + 1) ts ps
AreSeated desk base number told posts = ⊥

-- it was served by a seat of this desk: the seat is back with nothing else in it, and the lane has an end
pub record IsBack (desk : TableId) (post : PostFacts) : Type 0 where
  pub seat : MatchOption post.seat ⊥ (λ s. (s.desk ≡ desk) × (s.ended ≡ []) × (s.spare ≡ []))
  pub end : IsSome post.end
