-- Why no keeper is lent, where none was started.
use Rattle.keeper_sqlite.specs.declared.fault.StartFault.{StartFault}
use Rattle.keeper_sqlite.specs.declared.fault.StartFault.TheVariants as start
use Rattle.outside_core.specs.declared.outside.KeeperStart.{KeeperStart}
use Rattle.outside_core.specs.declared.outside.KeeperStart.TheVariants as lending

abbrev pub start_by : StartFault → KeeperStart
start_by (start.BadStore table row) = lending.BadStore table row
start_by start.StoreFault = lending.StoreFault
start_by start.Memory = lending.Memory
