-- What holds of the definitions.
use Rattle.std.specs.Prelude.{◌≡◌, ℕ, ◌+◌, ◌*◌, ◌<◌, ◌≤◌, true, false, List, ◌∷◌, length, slice_get, Option, Some, None}
use Rattle.std.specs.List.{list_any}
use Rattle.policy_core.specs.declared.policy.Policy.{Policy}
use Rattle.policy_memory.specs.declared.names.PolicyName.{PolicyName}
use Rattle.policy_memory.specs.Kept.{Kept, Remembers}
use Rattle.policy_memory.specs.Names.{same_name, is_of}
use Rattle.policy_memory.specs.Remembered.{Learned, Happening, learned, flushed, latest_names, remembered}

-- the place of the next happening may lie further on: other events take places too
abbrev pub PlacesMayBeLeftOut : Type 0
PlacesMayBeLeftOut = (happened : List Happening) (next later : ℕ) (kept : Kept) → Remembers happened next kept → next ≤ later → Remembers happened later kept

-- what was learned last may be used below its moment and 1,000 times its seconds
abbrev pub UsedWithinItsSeconds : Type 0
UsedWithinItsSeconds = (happened : List Happening) (name : PolicyName) (what : Learned) (t : ℕ) → t < what.at + 1000 * what.ttl → remembered (learned name what ∷ happened) name t ≡ Some what.policy

-- a flush forgets all that was learned there
abbrev pub FlushForgets : Type 0
FlushForgets = (happened : List Happening) (api stage : List ℕ) (name : PolicyName) (t : ℕ) → is_of api stage name ≡ true → remembered (flushed api stage ∷ happened) name t ≡ None

-- and nothing else
abbrev pub FlushForgetsNoOther : Type 0
FlushForgetsNoOther = (happened : List Happening) (api stage : List ℕ) (name : PolicyName) (t : ℕ) → is_of api stage name ≡ false → remembered (flushed api stage ∷ happened) name t ≡ remembered happened name t

-- a name that is flushed keeps its place
abbrev pub FlushedKeepsItsPlace : Type 0
FlushedKeepsItsPlace = (happened : List Happening) (api stage : List ℕ) → latest_names (flushed api stage ∷ happened) ≡ latest_names happened

-- where 1,024 names have a place, one more pushes out the one that was learned longest ago
abbrev pub OldestGoesFirst : Type 0
OldestGoesFirst =
    (happened : List Happening) (name oldest : PolicyName) (what : Learned) (t : ℕ) → slice_get (latest_names happened) 1023 ≡ Some oldest → list_any (same_name name) (latest_names happened) ≡ false
    → remembered (learned name what ∷ happened) oldest t ≡ None
