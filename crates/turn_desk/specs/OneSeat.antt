-- A desk of one seat.
use Rattle.std.specs.Prelude.{◌≡◌, List, [], Option, Some, None}
use Rattle.turn_desk.specs.Calls.{TableId, SeatFacts}

-- what a contract sees of it: what no step of the machine changes, and the history
pub record OneSeatFacts (E B : Type 0) : Type 0 where
  pub base : B
  pub history : List E

module _ {E B : Type 0} where
  -- what its seat has seen
  abbrev pub seen_by : Option (SeatFacts E B) → List E
  seen_by None = []
  seen_by (Some seat) = seat.seen

  -- the one seat of a desk: every entry that it has seen is its own
  pub record IsOnly (desk : TableId) (base : B) (seat : SeatFacts E B) : Type 0 where
    pub at : seat.desk ≡ desk
    pub one : seat.seats ≡ 1
    pub first : seat.number ≡ 0
    pub none_ended : seat.ended ≡ []
    pub none_spare : seat.spare ≡ []
    pub based : seat.base ≡ Some base
    pub all : seat.mine ≡ seat.seen

  abbrev pub IsTheOne : TableId → B → Option (SeatFacts E B) → Type 0
  IsTheOne desk base None = ⊥
  IsTheOne desk base (Some seat) = IsOnly desk base seat
