use Rattle.play_script.proofs.Playing.{plays_none}
use Rattle.play_script.proofs.play.play_left.Goals as goal

pub returns-in-None-clause-all : goal.returns-in-None-clause-all
returns-in-None-clause-all g c = plays_none c.args.session.now.base c.args.number c.args.left (g.W.Sink.written c.args.output.now) c.in-None.is
