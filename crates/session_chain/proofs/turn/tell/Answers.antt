use Rattle.gate_session.specs.Line.{session_line}
use Rattle.session_chain.proofs.Fronts.{nothing_yet}
use Rattle.session_chain.proofs.turn.tell.Goals as goal

pub returns-in_err-line-clause-front : goal.returns-in_err-line-clause-front
returns-in_err-line-clause-front g c = nothing_yet (g.S.Sink.written c.args.output.now) (session_line c.args.book.now.base.opening c.args.book.now.history)
