-- Stores, by name.
use Rattle.std.specs.Prelude.{◌≡◌, ℕ, List, [], ◌∷◌, Option, Some, None, if◌then◌else◌}
use Rattle.std.specs.Option.{option_map}
use Rattle.std.specs.Str.{bytes_eq}
use Rattle.keeper_core.specs.Keeping.{KeeperFacts}
use Rattle.keeper_core.specs.Lists.{Lists, no_rows}

-- names and tables
abbrev pub Stores : Type 0
Stores = List (List ℕ × Lists)

-- the tables of the first store of this name; without one they are empty
abbrev pub store_of : List ℕ → Stores → Lists
store_of name [] = no_rows
store_of name (store ∷ stores) = if bytes_eq store.0 name then store.1 else store_of name stores

-- the stores with these tables in the first of this name, which without one is added at the end
abbrev pub with_store : List ℕ → Lists → Stores → Stores
with_store name lists [] = (name, lists) ∷ []
with_store name lists (store ∷ stores) = if bytes_eq store.0 name then (store.0, lists) ∷ stores else store ∷ with_store name lists stores

-- the same, where the tables are told; where they are not the stores stay
abbrev pub with_told : List ℕ → Option Lists → Stores → Stores
with_told name None stores = stores
with_told name (Some lists) stores = with_store name lists stores

-- the stores, where they are told, after the keeper of the store of this name was given back
abbrev pub stored : List ℕ → Option Lists → Option Stores → Option Stores
stored name tables told = option_map (with_told name tables) told

-- a keeper as it is lent: nothing is staged, and no call of it has failed
pub record IsUnused (keeper : KeeperFacts) : Type 0 where
  pub staged : keeper.staged ≡ []
  pub faults : keeper.faults ≡ 0
  pub loads : keeper.loads ≡ 0
