-- What the program's keeper makes of the file of a store: what a keeper over any file does, over a file of the machine.
use Rattle.std.specs.Prelude.{List, Result}
use Rattle.sqlite.specs.Files.{IsOpened, file_state, over_files}
use Rattle.sqlite.specs.Held.{Held}
use Rattle.sqlite.specs.State.{HasCleanDisk}
use Rattle.sqlite_disk.specs.declared.Disk as disk
use Rattle.sqlite_store.specs.declared.store.FileStore.{FileStore}
use Rattle.keeper_core.specs.declared.keeper.KeepFault.{KeepFault}
use Rattle.keeper_core.specs.declared.rows.JoinRow.{JoinRow}
use Rattle.keeper_core.specs.declared.rows.Row.{Row}
use Rattle.keeper_sqlite.specs.Links as links
use Rattle.keeper_sqlite.specs.Links.{Linked}

module _ {D : Type 0} {g : disk.Ghosts D} where
  -- what is known of a connection as it is opened, where the disk has returned what was written
  abbrev pub IsFresh : Held (FileStore D g) → Type 0
  IsFresh conn = HasCleanDisk (file_state conn) → IsOpened conn

  -- the rows were written in one step, as `IsChange` of keeper_sqlite says
  abbrev pub IsChange : List Row → Linked (FileStore D g) → Linked (FileStore D g) → Result (Unit {0}) KeepFault → Type 0
  IsChange rows old new result = links.IsChange over_files IsFresh rows old new result

  -- a join row was written in its place, as `IsRewrite` of keeper_sqlite says
  abbrev pub IsRewrite : JoinRow → Linked (FileStore D g) → Linked (FileStore D g) → Result (Unit {0}) KeepFault → Type 0
  IsRewrite row old new result = links.IsRewrite over_files IsFresh row old new result

  -- the tables were read from a connection that is ready, as `IsLoad` of keeper_sqlite says
  abbrev pub IsLoad : {T E : Type 0} → Linked (FileStore D g) → Linked (FileStore D g) → Result T E → Type 0
  IsLoad {T} {E} old new result = links.IsLoad over_files IsFresh {T = T} {E = E} old new result
