-- Lanes as they are lent and given back, and counts that rise.
use Rattle.std.specs.Prelude.{◌≡◌, ℕ, ◌≤◌, Bool, true, false, List, [], ◌∷◌, ◌++◌, Option, Some, None, Result, Ok, Err}
use Rattle.std.specs.Option.{option_map}
use Rattle.gw_base.specs.Outside.{Rose}
use Rattle.outside_core.specs.declared.outside.KeeperStart.{KeeperStart}
use Rattle.outside_core.specs.declared.outside.KeeperStart.TheVariants.{BadStore, StoreFault, Memory}
use Rattle.outside_core.specs.declared.outside.OutsideFault.{OutsideFault}
use Rattle.outside_core.specs.declared.outside.OutsideFault.TheVariants.{Failed, Memory as LendMemory}

-- a list, where it is told, behind these items
abbrev pub behind : {A : Type 0} → List A → Option (List A) → Option (List A)
behind items told = option_map (λ rest. items ++ rest) told

-- a list, where it is told, with these items at its end
abbrev pub gained_all : {A : Type 0} → Option (List A) → List A → Option (List A)
gained_all told items = option_map (λ before. before ++ items) told

-- the first of a list
abbrev pub first_of : {A : Type 0} → List A → Option A
first_of [] = None
first_of (item ∷ items) = Some item

-- a count that rose where this is so, and else stands
pub record RoseWhere (so : Bool) (before now : ℕ) : Type 0 where
  pub later : before ≤ now
  pub rose : so ≡ true → Rose before now
  pub stood : so ≡ false → now ≡ before

-- a keeper was not lent since the outside failed
abbrev pub is_failed_start : {T : Type 0} → Result T KeeperStart → Bool
is_failed_start (Ok keeper) = false
is_failed_start (Err (BadStore table row)) = true
is_failed_start (Err StoreFault) = true
is_failed_start (Err Memory) = false

-- lanes were not lent since the outside failed
abbrev pub is_failed_lending : {T : Type 0} → Result T OutsideFault → Bool
is_failed_lending (Ok lanes) = false
is_failed_lending (Err Failed) = true
is_failed_lending (Err LendMemory) = false
