use Rattle.std.proofs.Common.{refl}
use Rattle.gateway_machine.proofs.Whatever.{on_ok, on_err}
use Rattle.gateway_machine.proofs.machine.MachineOutsideArchive.TheImpl.Goals as goal

pub closed-tells : goal.closed-tells
closed-tells g c = record { taken = on_ok c.result refl; refused = on_err c.result refl; beside = c.ensures }
