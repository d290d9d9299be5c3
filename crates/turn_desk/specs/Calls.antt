-- What a seat knows of its desk, and what a call says of it.
use Rattle.std.specs.Prelude.{◌≡◌, ℕ, ◌+◌, ◌-◌, ◌<◌, ◌≤◌, List, [], ◌∷◌, ◌++◌, length, Option, Some}
use Rattle.std.specs.List.{range_with_len}
use Rattle.std.specs.Coded.{Coded, code_by, coded×, coded_ℕ, coded_list, coded_option}
use mathlib.Core.Path.{refl}
use mathlib.Core.List.{IsPrefix}
pub use Rattle.atomic_table.specs.Seated.{TableId, table_id_coded}
use Rattle.atomic_table.specs.Table.{Me}
use Rattle.turn_desk.specs.declared.view.Phase.TheVariants.{Idle}
use Rattle.turn_desk.specs.declared.view.Known.{Known}
use Rattle.turn_desk.specs.declared.view.View.{View}
use Rattle.turn_desk.specs.Counts.{times}
use Rattle.turn_desk.specs.Entries.{entries_of, longer}
use Rattle.turn_desk.specs.Views.{first_of, others, numbers, numbers_of, AreApart}

-- What a seat knows:
pub record SeatFacts (E B : Type 0) : Type 0 where
  -- which desk it is of, and how many numbers that desk has;
  pub desk : TableId
  pub seats : ℕ
  -- its own number;
  pub number : ℕ
  -- what no step of the machine changes, which each seat has;
  pub base : Option B
  -- the beginning of the history that it has seen, and its own entries in it;
  pub seen : List E
  pub mine : List E
  -- the numbers of the seats that were joined into it, each with its entries;
  pub ended : List (ℕ × List E)
  -- the numbers that it may still give to others.
  pub spare : List ℕ

-- facts are stored as the tuple of their fields
abbrev pub seat_facts_code : {E B : Type 0} → Coded E → Coded B → Coded (SeatFacts E B)
seat_facts_code {E} {B} e b = code_by (TableId × (ℕ × (ℕ × (Option B × (List E × (List E × (List (ℕ × List E) × List ℕ)))))))
    (coded× table_id_coded (coded× coded_ℕ (coded× coded_ℕ (coded× (coded_option b) (coded× (coded_list e) (coded× (coded_list e) (coded× (coded_list (coded× coded_ℕ (coded_list e))) (coded_list coded_ℕ))))))))
    (λ k. (k.desk, (k.seats, (k.number, (k.base, (k.seen, (k.mine, (k.ended, k.spare))))))))
    (λ p. record { desk = p.0; seats = p.1.0; number = p.1.1.0; base = p.1.1.1.0; seen = p.1.1.1.1.0; mine = p.1.1.1.1.1.0; ended = p.1.1.1.1.1.1.0; spare = p.1.1.1.1.1.1.1 })
    (λ _. refl)

module _ {E B : Type 0} where
  -- what a seat of this desk knows, by its view
  abbrev pub facts_of : TableId → Known E B → SeatFacts E B
  facts_of t k = record { desk = t; seats = k.seats; number = k.number; base = k.base; seen = k.seen; mine = k.mine; ended = k.ended; spare = k.spare }

  -- the first seat: number 0, with all others to spare
  abbrev pub first_seat : TableId → ℕ → B → SeatFacts E B
  first_seat t seats base = record { desk = t; seats = seats; number = 0; base = Some base; seen = []; mine = []; ended = []; spare = range_with_len 1 (seats - 1) }

  -- a seat that gave its first spare number away, and the seat that got it
  abbrev pub without_first_spare : SeatFacts E B → SeatFacts E B
  without_first_spare k = record k { spare = others k.spare }

  abbrev pub first_spare_of : SeatFacts E B → SeatFacts E B
  first_spare_of k = record k { number = first_of k.spare; mine = []; ended = []; spare = [] }

  -- a seat that took another one in: it has seen what either had, and answers for the numbers of both
  abbrev pub joined_with : SeatFacts E B → SeatFacts E B → SeatFacts E B
  joined_with k l = record k { seen = longer k.seen l.seen; ended = k.ended ++ (l.number, l.mine) ∷ l.ended; spare = k.spare ++ l.spare }

  -- the same seat, with whatever it has seen and done
  abbrev pub IsSameSeat : SeatFacts E B → SeatFacts E B → Type 0
  IsSameSeat k l = (l.desk ≡ k.desk) × (l.seats ≡ k.seats) × (l.number ≡ k.number) × (l.base ≡ k.base) × (l.ended ≡ k.ended) × (l.spare ≡ k.spare)

  -- the seat's entries are those of its number in what it has seen
  abbrev pub HasItsOwn : (E → ℕ) → SeatFacts E B → Type 0
  HasItsOwn seat_of k = k.mine ≡ entries_of seat_of k.number k.seen

  -- the seat has as many numbers as there are
  abbrev pub IsWhole : SeatFacts E B → Type 0
  IsWhole k = 1 + length k.ended + length k.spare ≡ k.seats

  -- its own number, the ended ones and those to spare
  abbrev pub all_numbers : SeatFacts E B → List ℕ
  all_numbers k = k.number ∷ numbers k.ended ++ k.spare

  -- the seat has each number that there is, once
  abbrev pub HasEachNumber : SeatFacts E B → Type 0
  HasEachNumber k = (n : ℕ) → n < k.seats → times n (all_numbers k) ≡ 1

module _ {E B V R : Type 0} (seat_of : E → ℕ) (event_of : E → V) (answers : B → List E → E → R → Type 0) where
  -- The event was taken: of the history as it stood,
  pub record Taken (k l : SeatFacts E B) (asked : V) (got : R) : Type 0 where
    pub before : List E
    pub entry : E
    pub base : B
    -- which goes on from all that the seat had seen,
    pub after : IsPrefix k.seen before
    -- the entry is the next, and the seat's;
    pub seen : l.seen ≡ before ++ entry ∷ []
    pub mine : l.mine ≡ k.mine ++ entry ∷ []
    pub seat : seat_of entry ≡ k.number
    pub event : event_of entry ≡ asked
    -- and the reply is the machine's there.
    pub based : k.base ≡ Some base
    pub reply : answers base before entry got

module _ {E B V F : Type 0} (refuses : B → List E → ℕ → V → F → Type 0) where
  -- The event was refused: the seat has no new entry, and has seen the history as it stood,
  pub record NotTaken (k l : SeatFacts E B) (asked : V) (got : F) : Type 0 where
    pub base : B
    -- which goes on from all that the seat had seen;
    pub after : IsPrefix k.seen l.seen
    pub mine : l.mine ≡ k.mine
    -- and the fault is the machine's there.
    pub based : k.base ≡ Some base
    pub fault : refuses base l.seen k.number asked got

module _ {S E B : Type 0} (seat_of : E → ℕ) where
  -- What holds of the fields of each seat:
  pub record IsAtRest (me : Me S (View E B)) (seats number spare ended : ℕ) : Type 0 where
    -- it has no ticket, and does not hold the machine;
    pub idle : me.0.phase ≡ Idle
    pub free : me.1 ≡ []
    -- the numbers are those that it knows, and no more than there are;
    pub sized : seats ≡ me.0.known.seats
    pub numbered : number ≡ me.0.known.number
    pub spared : spare ≡ length me.0.known.spare
    pub joined : ended ≡ length me.0.known.ended
    pub few : spare + ended + 1 ≤ seats
    pub apart : AreApart me.0.known.seats (numbers_of me.0.known)
    -- its entries are those of its number in what it has seen.
    pub own : me.0.known.mine ≡ entries_of seat_of me.0.known.number me.0.known.seen
