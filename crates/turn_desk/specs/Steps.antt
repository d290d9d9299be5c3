-- What each atomic step on the table tells the seat that makes it.
use Rattle.std.specs.Prelude.{◌≡◌, ◌≢◌, ℕ, ◌%◌, ◌^◌, ◌<◌, ◌≤◌, List, ◌∷◌, length, Option, Some}
use mathlib.Core.List.{IsPrefix}
use Rattle.atomic_table.specs.Table.{Me, Step, rest}
use Rattle.turn_desk.specs.declared.view.Phase.TheVariants.{Idle, Waiting, Turn}
use Rattle.turn_desk.specs.declared.view.View.{View}
use Rattle.turn_desk.specs.Counts.{Every}
use Rattle.turn_desk.specs.Entries.{entries_of, HasNoneFrom, history_in}
use Rattle.turn_desk.specs.Views.{view, shares, ticket_in, commits_in, at_history, IsSpare, AreApart, numbers_of}

module _ {S E B : Type 0} where
  -- a ticket was drawn, and its number found
  abbrev pub drew : Step S → Me S (View E B) → ℕ → Me S (View E B) → Type 0
  drew st m r n = (k : ℕ) × (n ≡ (view (Waiting k) m.0.known, m.1)) × (r ≡ k % 2 ^ 64)

  -- the slot went home, and the seat has no ticket any more
  abbrev pub served : Step S → Me S (View E B) → ℕ → Me S (View E B) → Type 0
  served st m r n = n ≡ (view Idle m.0.known, rest m.1)

module _ {M E B : Type 0} (history : M → List E) (base_of : M → B) (seat_of : E → ℕ) where
  -- the seat has the turn, and the slot with the machine
  pub record Took (k : ℕ) (m n : Me (Option M) (View E B)) : Type 0 where
    pub machine : M
    pub out : n.1 ≡ (0, Some machine) ∷ m.1
    pub turn : n.0 ≡ view (Turn k (history machine)) m.0.known
    pub based : m.0.known.base ≡ Some (base_of machine)
    pub seen : IsPrefix m.0.known.seen (history machine)
    pub own : m.0.known.mine ≡ entries_of seat_of m.0.known.number (history machine)

  -- where the number found is the seat's ticket it has the turn, and else nothing changed
  abbrev pub looked : Step (Option M) → Me (Option M) (View E B) → ℕ → Me (Option M) (View E B) → Type 0
  looked st m r n = (r ≡ ticket_in m.0.phase % 2 ^ 64 → Took (ticket_in m.0.phase) m n) × (r ≢ ticket_in m.0.phase % 2 ^ 64 → n ≡ m)

module _ {M E B : Type 0} (history : M → List E) (seat_of : E → ℕ) where
  -- the seat has seen the history of the machine that it put back, which no number above the desk's has an entry in
  abbrev pub commits_to : Me (Option M) (View E B) → View E B
  commits_to m = view (commits_in m.0.phase) (at_history seat_of (history_in history m.1) m.0.known)

  abbrev pub committed : Step (Option M) → Me (Option M) (View E B) → ℕ → Me (Option M) (View E B) → Type 0
  committed st m r n = (n ≡ (commits_to m, m.1)) × HasNoneFrom seat_of m.0.known.seats (history_in history m.1)

module _ {S E B : Type 0} (seat_of : E → ℕ) where
  -- nothing changed, and the seat learned what the rule says of its numbers and of what it has seen
  pub record Told (m n : Me S (View E B)) : Type 0 where
    pub same : n ≡ m
    pub own : m.0.known.mine ≡ entries_of seat_of m.0.known.number m.0.known.seen
    pub merged : Every (λ xs. IsPrefix xs m.0.known.seen) m.0.known.merged
    pub spare : IsSpare m.0.known.seats m.0.known.spare
    pub room : length (shares m.0.known) ≤ m.0.known.seats
    pub few : m.0.known.seats < 2 ^ 32
    pub apart : AreApart m.0.known.seats (numbers_of m.0.known)

  abbrev pub told : Step S → Me S (View E B) → ℕ → Me S (View E B) → Type 0
  told st m r n = Told m n
