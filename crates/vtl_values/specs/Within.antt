-- What stands after a call that has so much room.
use Rattle.std.specs.Prelude.{◌≡◌, ℕ, ◌+◌, ◌<◌, ◌≤◌, Bool, List, ◌++◌, length, take, Result, Ok, Err}
use Rattle.vtl_values.specs.Val.{Val}
use Rattle.vtl_values.specs.declared.lack.Lack.{Lack}
use Rattle.vtl_values.specs.declared.lack.Lack.TheVariants.{Room, Memory}

-- a value, and the bytes of the texts that were made for it
abbrev pub Made : Type 0
Made = Val × ℕ

-- What a call returned is this, whose texts take no more room than there is, unless memory ran out.
abbrev pub Within : ℕ → Made → Result (Val × ℕ) Lack → Type 0
Within room made (Ok r) = (r.0 ≡ made.0) × (r.1 ≡ made.1) × (made.1 ≤ room)
Within room made (Err Room) = room < made.1
Within room made (Err Memory) = Unit {0}

-- The same of a comparison: whether two values are equal, and the bytes of the texts that were compared.
abbrev pub Decides : ℕ → Bool → ℕ → Result (Bool × ℕ) Lack → Type 0
Decides room equal bytes (Ok r) = (r.0 ≡ equal) × (r.1 ≡ bytes) × (bytes ≤ room)
Decides room equal bytes (Err Room) = room < bytes
Decides room equal bytes (Err Memory) = Unit {0}

-- A call that may make a text of so many bytes wrote this behind the old text, unless it doesn't fit or memory ran out.
abbrev pub Writes : ℕ → List ℕ → List ℕ → List ℕ → Result (Unit {0}) Lack → Type 0
Writes most old new more (Ok u) = (new ≡ old ++ more) × (length old + length more ≤ most)
Writes most old new more (Err Room) = most < length old + length more
Writes most old new more (Err Memory) = Unit {0}

-- The new text is no shorter than the old one, and a front of the old one with this behind it.
pub record HoldsFront (old new more : List ℕ) : Type 0 where
  pub longer : length old ≤ length new
  pub front : new ≡ take (length new) (old ++ more)
