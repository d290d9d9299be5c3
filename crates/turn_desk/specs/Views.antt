-- Where a seat stands with the turn, and the numbers that it answers for.
use Rattle.std.specs.Prelude.{◌≡◌, ℕ, ◌-◌, ◌≤◌, ◌==◌, List, [], ◌∷◌, ◌++◌, map, length, Some, None}
use Rattle.std.specs.List.{range_with_len}
use mathlib.Core.Option.{some}
use lib.ListN.{get_elem?}
use Rattle.turn_desk.specs.declared.view.Phase.{Phase}
use Rattle.turn_desk.specs.declared.view.Phase.TheVariants.{Idle, Waiting, Turn, Committed, Spent}
use Rattle.turn_desk.specs.declared.view.Known.{Known}
use Rattle.turn_desk.specs.declared.view.View.{View}
use Rattle.turn_desk.specs.Counts.{bit, times}
use Rattle.turn_desk.specs.Entries.{entries_of, longer}

-- what the seats spare: the last numbers below `seats`
abbrev pub IsSpare : ℕ → List ℕ → Type 0
IsSpare seats spare = spare ≡ range_with_len (seats - length spare) (length spare)

-- the first number, and those behind it
abbrev pub first_of : List ℕ → ℕ
first_of [] = 0
first_of (n ∷ ns) = n

abbrev pub others : List ℕ → List ℕ
others [] = []
others (n ∷ ns) = ns

-- no two are alike, and each is below `seats`
abbrev pub AreApart : ℕ → List ℕ → Type 0
AreApart seats ns = (n : ℕ) → (times n ns ≤ 1) × (seats ≤ n → times n ns ≡ 0)

module _ {E : Type 0} where
  -- 1 where the seat has the ticket k
  abbrev pub tickets_of : ℕ → Phase E → ℕ
  tickets_of k Idle = 0
  tickets_of k (Waiting t) = bit (t == k)
  tickets_of k (Turn t found) = bit (t == k)
  tickets_of k (Committed t) = bit (t == k)
  tickets_of k Spent = 0

  -- 1 where the seat has a ticket
  abbrev pub in_line : Phase E → ℕ
  in_line Idle = 0
  in_line (Waiting t) = 1
  in_line (Turn t found) = 1
  in_line (Committed t) = 1
  in_line Spent = 0

  -- 1 where the slot is the seat's
  abbrev pub serving : Phase E → ℕ
  serving Idle = 0
  serving (Waiting t) = 0
  serving (Turn t found) = 1
  serving (Committed t) = 1
  serving Spent = 0

  -- the seat's ticket
  abbrev pub ticket_in : Phase E → ℕ
  ticket_in Idle = 0
  ticket_in (Waiting t) = t
  ticket_in (Turn t found) = t
  ticket_in (Committed t) = t
  ticket_in Spent = 0

  -- where the seat stands once it has committed
  abbrev pub commits_in : Phase E → Phase E
  commits_in (Turn t found) = Committed t
  commits_in Idle = Idle
  commits_in (Waiting t) = Waiting t
  commits_in (Committed t) = Committed t
  commits_in Spent = Spent

  -- the numbers of some lists of entries
  abbrev pub numbers : List (ℕ × List E) → List ℕ
  numbers ps = map (λ p. p.0) ps

module _ {E B : Type 0} where
  abbrev pub view : Phase E → Known E B → View E B
  view p k = record { phase = p; known = k }

  -- the numbers that a seat answers for, each with its entries: its own, those that ended, and those to spare, which have none
  abbrev pub shares : Known E B → List (ℕ × List E)
  shares k = (k.number, k.mine) ∷ k.ended ++ map (λ n. (n, [])) k.spare

  abbrev pub numbers_of : Known E B → List ℕ
  numbers_of k = k.number ∷ numbers k.ended ++ k.spare

  -- a seat that was joined into another one answers for none
  abbrev pub held : Phase E → Known E B → List (ℕ × List E)
  held Spent k = []
  held Idle k = shares k
  held (Waiting t) k = shares k
  held (Turn t found) k = shares k
  held (Committed t) k = shares k

  abbrev pub holds_of : View E B → List (ℕ × List E)
  holds_of v = held v.phase v.known

  -- the first seat: number 0, with all others to spare
  abbrev pub first_view : ℕ → B → View E B
  first_view seats base = view Idle record { seats = seats; number = 0; base = Some base; seen = []; merged = []; mine = []; ended = []; spare = range_with_len 1 (seats - 1) }

  -- the two seats that one is split into: what is left of it, and the one with its first spare number
  abbrev pub without_first : Known E B → Known E B
  without_first k = record k { spare = others k.spare }

  abbrev pub left : View E B → View E B
  left v = view v.phase (without_first v.known)

  abbrev pub newcomer : Known E B → Known E B
  newcomer k = record { seats = k.seats; number = first_of k.spare; base = k.base; seen = k.seen; merged = []; mine = []; ended = []; spare = [] }

  abbrev pub right : View E B → View E B
  right v = view Idle (newcomer v.known)

  -- the seat that two are joined into, and what is left of the second one
  abbrev pub joined : Known E B → Known E B → Known E B
  joined k l = record k { seen = longer k.seen l.seen; merged = k.seen ∷ l.seen ∷ []; ended = k.ended ++ (l.number, l.mine) ∷ l.ended; spare = k.spare ++ l.spare }

  abbrev pub both : View E B → View E B → View E B
  both v w = view v.phase (joined v.known w.known)

  abbrev pub spent : View E B
  spent = view Spent record { seats = 0; number = 0; base = None; seen = []; merged = []; mine = []; ended = []; spare = [] }

  -- the seat has seen all of a history, and knows its own entries in it
  abbrev pub at_history : (E → ℕ) → List E → Known E B → Known E B
  at_history seat_of log k = record k { seen = log; mine = entries_of seat_of k.number log }

  -- some seat has seen the whole history
  abbrev pub IsSeen : List E → List (View E B) → Type 0
  IsSeen log views = (j : ℕ) × (v : View E B) × (get_elem? views j ≡ some v) × (v.known.seen ≡ log)
