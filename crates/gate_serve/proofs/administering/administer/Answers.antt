use Rattle.std.proofs.Common.{subst, sym, ap}
use Rattle.admin_routes.specs.Orders.{order_of}
use Rattle.gate_serve.proofs.Doing.{goes_not}
use Rattle.gate_walk.specs.Walk.{administered}
use Rattle.gate_serve.proofs.administering.administer.Goals as goal

pub returns-in-Err : goal.returns-in-Err
returns-in-Err g c = goes_not c.args.seat (administered c.args.message.now (order_of c.args.message.now.too_large c.args.message.now.request c.args.target.now)) c.requires.own
