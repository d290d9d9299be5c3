use Rattle.std.proofs.Common.{All}
use Rattle.backend_core.specs.Script.{HasReplyStatus}
use Rattle.tests_wire.proofs.backends.script.Given as goal

abbrev pub invariant-loop-word : goal.invariant-loop-word
invariant-loop-word l = All HasReplyStatus l.script.items
