use Rattle.std.proofs.Common.{◌≡◌}
use Rattle.load_command.proofs.Calling.{Calling}
use Rattle.load_command.proofs.loading.play_calls.Given as goal

abbrev pub invariant-loop-number : goal.invariant-loop-number
invariant-loop-number g l = record {
  calling : Calling l.fn.session.base l.first l.fn.session.history l.seed l.calls l.number l.words.state l.session.history;
  base : l.session.base ≡ l.fn.session.base;
}
