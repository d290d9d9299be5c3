use Rattle.play_script.proofs.Playing.{on_err_of, says_none_opened}
use Rattle.play_script.specs.Play.{opening_of}
use Rattle.play_script.proofs.play.play_within.Goals as goal

pub returns-in_err-opening-clause-front : goal.returns-in_err-opening-clause-front
returns-in_err-opening-clause-front g c = on_err_of c.from_residual.result _ (says_none_opened c.args.limits (opening_of c.args.script.now) (g.W.Sink.written c.args.output.now))

pub returns-in_err-session-clause-front : goal.returns-in_err-session-clause-front
returns-in_err-session-clause-front g c = on_err_of c.from_residual-in_err-session.result _ (says_none_opened c.args.limits (opening_of c.args.script.now) (g.W.Sink.written c.args.output.now))
