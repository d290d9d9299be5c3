-- What a keeper shows after an event.
use Rattle.std.specs.Prelude.{◌≡◌, ℕ, ◌+◌, ◌-◌, ◌^◌, ◌≤◌, min, Bool, true, false, List, [], Option, Some, None, is_some, if◌then◌else◌}
use Rattle.std.specs.Option.{option_map}
use Rattle.keeper_core.specs.Keeping.{KeeperFacts, Planned}
use Rattle.keeper_core.specs.declared.rows.Row.{Row}
use Rattle.book_rules.specs.Machine.{put_kept}
use Rattle.book_rules.specs.History.{keeps, calls_of}

-- an event that changes is kept as planned, and makes its calls; another makes none
abbrev pub WentAsPlanned : Bool → Bool → Bool → Option Planned → Option Planned → Type 0
WentAsPlanned rewriting changing kept None now = now ≡ None
WentAsPlanned rewriting changing kept (Some plan) now = (changing ≡ true → kept ≡ keeps rewriting plan) × (now ≡ Some (calls_of rewriting changing plan))

-- after an event that writes this row, or none, in its place or not: the keeper has the row where it kept it, and counted a fault where it did not
pub record Went (rewriting : Bool) (row : Option Row) (kept : Bool) (before now : KeeperFacts) : Type 0 where
  pub tables : now.tables ≡ option_map (put_kept row kept) before.tables
  pub staged : now.staged ≡ []
  pub faults : min (before.faults + (if kept then 0 else 1)) (2 ^ 64 - 1) ≤ now.faults
  pub else_kept : is_some row ≡ false → kept ≡ true
  pub planned : WentAsPlanned rewriting (is_some row) kept before.planned now.planned

-- after an event that was not taken
pub record Stays (before now : KeeperFacts) : Type 0 where
  pub tables : now.tables ≡ before.tables
  pub staged : now.staged ≡ []
  pub faults : before.faults ≤ now.faults
  pub planned : now.planned ≡ before.planned
