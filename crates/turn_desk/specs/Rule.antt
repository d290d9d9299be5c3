-- The rule that the table of a desk keeps between any two atomic steps.
-- Word 0 is the next ticket, word 1 the ticket that is served, and word 2 the length of the history. The one slot has the machine.
use Rattle.std.specs.Prelude.{◌≡◌, ◌⊎◌, ℕ, zero, suc, ◌+◌, ◌%◌, ◌^◌, ◌<◌, ◌≤◌, List, [], ◌∷◌, length, Option, Some}
use mathlib.Core.Option.{Option as Maybe, some, none}
use mathlib.Core.List.{IsPrefix}
use lib.ListN.{get_elem?}
use Rattle.atomic_table.specs.Table.{State}
use Rattle.turn_desk.specs.declared.view.Phase.{Phase}
use Rattle.turn_desk.specs.declared.view.Phase.TheVariants.{Idle, Waiting, Turn, Committed, Spent}
use Rattle.turn_desk.specs.declared.view.Known.{Known}
use Rattle.turn_desk.specs.declared.view.View.{View}
use Rattle.turn_desk.specs.Counts.{total, times, Every}
use Rattle.turn_desk.specs.Entries.{entries_of, HasNoneFrom}
use Rattle.turn_desk.specs.Views.{tickets_of, in_line, serving, numbers, shares, holds_of, IsSpare, IsSeen}

module _ {E B : Type 0} (seat_of : E → ℕ) (seats : ℕ) (base : B) (log : List E) (serves : ℕ) where
  -- What a seat that was not joined into another one knows:
  pub record Knows (k : Known E B) : Type 0 where
    -- how many numbers the desk has, and the machine's base;
    pub sized : k.seats ≡ seats
    pub based : k.base ≡ Some base
    -- a beginning of the history;
    pub seen : IsPrefix k.seen log
    -- what the two had seen that it was made of, each a beginning of what it has seen;
    pub merged : Every (λ xs. IsPrefix xs k.seen) k.merged
    -- its own entries, which are those of its number in what it has seen,
    pub own : k.mine ≡ entries_of seat_of k.number k.seen
    -- and, as each list that it has, the history's entries of that number;
    pub listed : Every (λ p. p.1 ≡ entries_of seat_of p.0 log) (shares k)
    -- the last numbers to spare.
    pub spare : IsSpare seats k.spare

  -- a seat with the turn has the ticket that is served; it found the whole history, and has seen it once it has committed
  abbrev pub Stands : Phase E → Known E B → Type 0
  Stands Spent k = Unit {0}
  Stands Idle k = Knows k
  Stands (Waiting t) k = Knows k
  Stands (Turn t found) k = Knows k × (t ≡ serves) × (found ≡ log)
  Stands (Committed t) k = Knows k × (t ≡ serves) × (k.seen ≡ log)

module _ {M E B : Type 0} (history : M → List E) (base_of : M → B) where
  -- the slot, by how many seats have the turn: at home, with the machine of this base and history, or out with that seat
  abbrev pub Stored : B → List E → List (Maybe (Option M)) → ℕ → Type 0
  Stored base log homes zero = (m : M) × (homes ≡ some (Some m) ∷ []) × (history m ≡ log) × (base_of m ≡ base)
  Stored base log homes (suc n) = homes ≡ none ∷ []

module _ {M E B : Type 0} (history : M → List E) (base_of : M → B) (seat_of : E → ℕ) where
  -- There is one history, and the counts of tickets that were drawn and that were served, so that:
  pub record Ruled (seats : ℕ) (base : B) (s : State (Option M) (View E B)) : Type 0 where
    pub log : List E
    pub drawn : ℕ
    pub serves : ℕ
    -- the words are these counts and the length of the history, up to 2^64;
    pub words : s.words ≡ drawn % 2 ^ 64 ∷ serves % 2 ^ 64 ∷ length log % 2 ^ 64 ∷ []
    -- the tickets are the numbers from the one that is served on, each in one view;
    pub line : serves + total (λ v. in_line v.phase) s.views ≡ drawn
    pub tickets : (k : ℕ) → serves ≤ k → k < drawn → total (λ v. tickets_of k v.phase) s.views ≡ 1
    pub no_tickets : (k : ℕ) → (k < serves) ⊎ (drawn ≤ k) → total (λ v. tickets_of k v.phase) s.views ≡ 0
    -- the slot has the machine, or is with the one seat that has the turn;
    pub slot : Stored history base_of base log s.homes (total (λ v. serving v.phase) s.views)
    -- each view stands as it says, and some view has seen the whole history;
    pub each : (j : ℕ) (v : View E B) → get_elem? s.views j ≡ some v → Stands seat_of seats base log serves v.phase v.known
    pub longest : IsSeen log s.views
    -- each number below `seats` is with one view, and no other number is with any or has an entry.
    pub few : seats < 2 ^ 32
    pub shared : total (λ v. length (holds_of v)) s.views ≡ seats
    pub once : (n : ℕ) → n < seats → total (λ v. times n (numbers (holds_of v))) s.views ≡ 1
    pub none_above : (n : ℕ) → seats ≤ n → total (λ v. times n (numbers (holds_of v))) s.views ≡ 0
    pub no_more : HasNoneFrom seat_of seats log
