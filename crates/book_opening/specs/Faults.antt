-- What a fault says of the tables.
use Rattle.std.specs.Prelude.{◌≡◌, ℕ, Option, Some}
use Rattle.keeper_core.specs.Lists.{Lists}
use Rattle.keeper_core.specs.declared.table.Table.{Table}
use Rattle.book_rules.specs.Good.{bad_row}
use Rattle.book_opening.specs.declared.fault.OpenFault.{OpenFault}
use Rattle.book_opening.specs.declared.fault.OpenFault.TheVariants.{BadRow, Memory}

-- it names this table, and the row of it that is refused first
abbrev pub IsFirstIn : Table → Option ℕ → OpenFault → Type 0
IsFirstIn table refused (BadRow named row) = (named ≡ table) × (refused ≡ Some row)
IsFirstIn table refused Memory = Unit {0}

-- it names just the first row that is refused, by table in the store's order and by key
abbrev pub IsBadRowOf : Lists → OpenFault → Type 0
IsBadRowOf lists (BadRow table row) = bad_row lists ≡ Some (table, row)
IsBadRowOf lists Memory = Unit {0}
