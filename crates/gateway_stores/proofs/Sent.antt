-- The program's keeper may go to another thread.
use denote.Param.Send.{IsSend, owning_send, sendable}
use denote.Param.SendFields.{declared_send}
use Rattle.gateway_stores.specs.contracts.keeper.FileKeeper as keeper
use Rattle.gateway_stores.proofs.path.StorePath.TheSendSync as path
use Rattle.keeper_sqlite.proofs.Sent.{keeper_send as over_send}
use Rattle.sqlite_disk.proofs.modelled.Modelled.TheSendSync as modelled
use Rattle.sqlite_std_file.specs.contracts.host.Host as host
use Rattle.sqlite_std_file.specs.contracts.record.Record as record_of
use Rattle.sqlite_store.proofs.store.FileStore.TheSendSync as store
use Rattle.std.proofs.fs.File.TheSendSync as file

-- what is noted of the calls on a file owns nothing
noted_send : IsSend record_of.the_row
noted_send = owning_send record_of.the_type (search sendable, tt) (λ d. tt) (λ k x w. tt)

-- an open file of the machine
host_send : IsSend host.the_row
host_send = declared_send host.the_type (file.the_send, (noted_send, tt))

-- the keeper over its connection and its path
pub keeper_send : IsSend keeper.the_row
keeper_send = declared_send keeper.the_type (search (over_send, store.the_send, modelled.the_send, host_send, path.the_send, sendable) depth 30, tt)
