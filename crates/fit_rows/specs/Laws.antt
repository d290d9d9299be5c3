-- What holds of every history over tables that a book starts from.
use Rattle.std.specs.Prelude.{◌≡◌, ◌≤◌, ℕ, List, Some, None}
use Rattle.keeper_core.specs.Lists.{Lists, join_row}
use Rattle.keeper_core.specs.declared.rows.JoinRow.{JoinRow}
use Rattle.book_rules.specs.Fits.{AreFit}
use Rattle.book_rules.specs.Good.{bad_row}
use Rattle.book_rules.specs.History.{state_after, tables_after}
use Rattle.book_rules.specs.declared.events.Entry.{Entry}

-- the rows of keys, plans and joins may stand at the latest moment
abbrev pub RowsMayStand : Type 0
RowsMayStand =
    (opening : Lists) (history : List Entry) → bad_row opening ≡ None → AreFit (state_after opening history).lists (state_after opening history).latest

-- NO QUOTA IS OVERUSED: a join has used no more of its period than the period allows
abbrev pub NoneIsOverused : Type 0
NoneIsOverused =
    (opening : Lists) (history : List Entry) (plan key : List ℕ) (row : JoinRow)
    → bad_row opening ≡ None → join_row (tables_after opening history) plan key ≡ Some row → row.used ≤ row.allowance
