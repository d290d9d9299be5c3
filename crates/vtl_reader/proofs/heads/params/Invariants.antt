use Rattle.std.proofs.Common.{◌≡◌, ◌+◌, length}
use Rattle.vtl_grammar.specs.Loops.{first, gather}
use Rattle.vtl_grammar.specs.Directives.{param_turn, with_name}
use Rattle.vtl_reader.specs.Views.{joined}
use Rattle.vtl_reader.proofs.heads.params.Given as goal

abbrev pub invariant-loop-fuel : goal.invariant-loop-fuel
invariant-loop-fuel l = joined with_name l.names (gather (first with_name) (param_turn l.at) l.fuel l.rest) ≡ gather (first with_name) (param_turn l.at) (length l.bs + 1) l.bs

abbrev pub decreases-loop-fuel : goal.decreases-loop-fuel
decreases-loop-fuel l = l.fuel
