-- Which version a store is of.
use Rattle.std.specs.Prelude.{◌≡◌, ℕ, ◌==◌, Bool, ◌&&◌, List, [], ◌∷◌, Option, Some, None, if◌then◌else◌, ⊤}
use Rattle.keeper_core.specs.declared.rows.MetaRow.{MetaRow}
use Rattle.keeper_core.specs.declared.table.Table.TheVariants.{Meta as Metas}
use Rattle.keeper_sqlite.specs.declared.fault.StartFault.{StartFault}
use Rattle.keeper_sqlite.specs.declared.fault.StartFault.TheVariants.{BadStore, StoreFault, Memory}

-- the row that says that the store is of this version
abbrev pub is_version : MetaRow → Bool
is_version row = row.id == 0 && row.version == 1

-- the number of the first row, counted from 0, that is not the one row of this version
abbrev pub first_other : List MetaRow → Option ℕ
first_other [] = None
first_other (row ∷ []) = if is_version row then None else Some 0
first_other (row ∷ other ∷ rows) = if is_version row then Some 1 else Some 0

-- a row that is named stands in meta
abbrev pub IsOfMeta : StartFault → Type 0
IsOfMeta (BadStore table at) = table ≡ Metas
IsOfMeta StoreFault = ⊤
IsOfMeta Memory = ⊤

-- a row of meta that is named is the first that is not the one row of this version
abbrev pub IsOther : List MetaRow → StartFault → Type 0
IsOther rows (BadStore table at) = (table ≡ Metas) × (first_other rows ≡ Some at)
IsOther rows StoreFault = ⊤
IsOther rows Memory = ⊤
