-- What the reader's open brackets stand for.
use Rattle.std.specs.Prelude.{ℕ, ◌-◌, ◌<◌, List, [], ◌∷◌, ◌++◌, length, map}
use Rattle.std.specs.List.{AllByRecursion}
use Rattle.std.specs.String.{string_bytes}
use Rattle.json_subset.specs.Tree.{Tree}
use Rattle.json_subset.specs.Turns as turns
use Rattle.json_subset.specs.Nodes.{member_at, AllBelow, AllValuesBelow}
use Rattle.json_subset.specs.Numbered.{names_in, HasPlaces}
use Rattle.json_subset.specs.Places.{IsRest}
use Rattle.json_subset.specs.declared.turn.Members.{Members}
use Rattle.json_subset.specs.declared.turn.Parts.{Parts}
use Rattle.json_subset.specs.declared.turn.Parts.TheVariants as parts
use Rattle.json_subset.specs.declared.turn.Open.{Open}
use Rattle.json_subset.specs.declared.turn.Turn.{Turn}
use Rattle.json_subset.specs.declared.turn.Turn.TheVariants as code

abbrev pub inside_of : (ℕ → Tree) → Parts → turns.Inside
inside_of f (parts.Items ids) = turns.in_list (map f ids.items)
inside_of f (parts.Members m) = turns.in_object (map (member_at f) m.before.items) (string_bytes m.name)

abbrev pub opened_of : ℕ → (ℕ → Tree) → Open → ℕ × turns.Inside
opened_of n f o = (n - length o.from.now, inside_of f o.parts)

abbrev pub turn_of : ℕ → (ℕ → Tree) → Turn → turns.Turn
turn_of n f (code.Goes o rest) = turns.goes (n - length o.from.now) (inside_of f o.parts) rest.now
turn_of n f (code.Whole k rest) = turns.whole (f k) rest.now

-- the places of the names of an object so far, the next one among them
abbrev pub HasNames : Members → Type 0
HasNames m = HasPlaces (names_in m.before.items ++ string_bytes m.name ∷ []) m.names

-- the parts are before k, and fewer than room
abbrev pub ArePartsBelow : ℕ → ℕ → Parts → Type 0
ArePartsBelow k room (parts.Items ids) = AllBelow k ids.items × (length ids.items < room)
ArePartsBelow k room (parts.Members m) = AllValuesBelow k m.before.items × (length m.before.items < room) × HasNames m

-- a bracket of this text that stands open before the rest
pub record IsOpen (s rest : List ℕ) (k : ℕ) (o : Open) : Type 0 where
  pub front : IsRest s o.from.now
  pub inside : IsRest o.from.now rest
  pub parts : ArePartsBelow k (length s - length rest) o.parts

abbrev pub AllOpen : List ℕ → List ℕ → ℕ → List Open → Type 0
AllOpen s rest k os = AllByRecursion (λ o. IsOpen s rest k o) os

abbrev pub IsTurn : List ℕ → ℕ → Turn → Type 0
IsTurn s k (code.Goes o rest) = IsOpen s rest.now k o
IsTurn s k (code.Whole id rest) = id < k

abbrev pub rest_of : Turn → List ℕ
rest_of (code.Goes o rest) = rest.now
rest_of (code.Whole id rest) = rest.now
