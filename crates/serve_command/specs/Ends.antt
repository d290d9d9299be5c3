-- Why serving stops, and what is printed of a bad store.
use Rattle.std.specs.Prelude.{ℕ, List, ◌++◌, codes, Result, Ok, Err}
use Rattle.std.specs.Fmt.{decimal}
use Rattle.book_core.specs.declared.start.StartFault.{StartFault}
use Rattle.book_core.specs.declared.start.StartFault.TheVariants as start
use Rattle.keeper_core.specs.Printed.{table_name}
use Rattle.keeper_core.specs.declared.table.Table.{Table}
use Rattle.gw_base.specs.declared.outside.WriteStop.{WriteStop}
use Rattle.gw_base.specs.declared.outside.WriteStop.TheVariants as write
use Rattle.outside_core.specs.declared.outside.OutsideFault.{OutsideFault}
use Rattle.outside_core.specs.declared.outside.OutsideFault.TheVariants as lending
use Rattle.session_chain.specs.declared.fault.AllFault.{AllFault}
use Rattle.session_chain.specs.declared.fault.AllFault.TheVariants as all
use Rattle.serve_command.specs.declared.stop.ServeStop.{ServeStop}
use Rattle.serve_command.specs.declared.stop.ServeStop.TheVariants as stop

-- the line of a store with a row that no book starts from
unfoldable pub bad_store_line : Table → ℕ → List ℕ
bad_store_line table row = codes "refused BadStore(" ++ (table_name table ++ (codes "," ++ (decimal row ++ codes ")\n")))

-- why serving stops where a write was stopped
abbrev pub stopped_by : WriteStop → ServeStop
stopped_by write.Failed = stop.Output
stopped_by write.Memory = stop.Memory

-- why it stops where lanes can't be had
abbrev pub stop_by_lending : OutsideFault → ServeStop
stop_by_lending lending.Failed = stop.Port
stop_by_lending lending.Memory = stop.Memory

-- why it stops where a next book did not start
abbrev pub stop_by_next : StartFault → ServeStop
stop_by_next (start.BadStore table row) = stop.Keeper
stop_by_next start.StoreFault = stop.Keeper
stop_by_next start.Memory = stop.Memory

-- why it stops where no further session is served
abbrev pub stop_by_all : AllFault → ServeStop
stop_by_all (all.Start fault) = stop_by_next fault
stop_by_all all.Output = stop.Output
stop_by_all all.Memory = stop.Memory

-- this holds of the ends of the last lanes, where they were all served
abbrev pub IfServed : {V : Type 0} → Result V AllFault → (V → Type 0) → Type 0
IfServed (Ok ends) Holds = Holds ends
IfServed (Err fault) Holds = ⊥

-- this holds of why no further session is served
abbrev pub IfStopped : {V : Type 0} → Result V AllFault → (AllFault → Type 0) → Type 0
IfStopped (Ok ends) Holds = ⊥
IfStopped (Err fault) Holds = Holds fault
