use Rattle.admin_routes.specs.Answers.{replied_made}
use Rattle.gate_serve.proofs.Doing.{goes_not}
use Rattle.gate_walk.specs.Walk.{leaves}
use Rattle.gate_serve.proofs.administering.tell.Goals as goal

pub returns-in-Err : goal.returns-in-Err
returns-in-Err g c = goes_not c.args.seat (leaves c.args.message.now (replied_made c.args.reply.now)) c.requires.own
