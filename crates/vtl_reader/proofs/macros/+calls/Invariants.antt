use Rattle.std.proofs.Common.{◌≡◌, ◌+◌, ◌*◌, length}
use Rattle.vtl_grammar.specs.Calls.{wrong_calls}
use Rattle.vtl_reader.specs.Nodes.{item_of, items_made, AllBelow, BranchesBelow}
use Rattle.vtl_reader.specs.Macros.{macros_by, wrong_heads}
use Rattle.vtl_reader.proofs.macros.+calls.Given as goal

abbrev pub decreases-wrong_call : goal.decreases-wrong_call
decreases-wrong_call l = 4 * l.k + 3

abbrev pub decreases-wrong_calls : goal.decreases-wrong_calls
decreases-wrong_calls l = 4 * l.below + 1

abbrev pub decreases-wrong_branches : goal.decreases-wrong_branches
decreases-wrong_branches l = 4 * l.below + 2

abbrev pub invariant-wrong_calls-loop-rest : goal.invariant-wrong_calls-loop-rest
invariant-wrong_calls-loop-rest l = (wrong_calls (macros_by l.arena l.macros) (items_made (item_of l.arena) l.rest) ≡ wrong_calls (macros_by l.arena l.macros) (items_made (item_of l.arena) l.items)) × AllBelow l.below l.rest

abbrev pub decreases-wrong_calls-loop-rest : goal.decreases-wrong_calls-loop-rest
decreases-wrong_calls-loop-rest l = length l.rest

abbrev pub invariant-wrong_branches-loop-rest : goal.invariant-wrong_branches-loop-rest
invariant-wrong_branches-loop-rest l = (wrong_heads (macros_by l.arena l.macros) (item_of l.arena) l.rest ≡ wrong_heads (macros_by l.arena l.macros) (item_of l.arena) l.branches) × BranchesBelow (length l.arena.exprs) l.below l.rest

abbrev pub decreases-wrong_branches-loop-rest : goal.decreases-wrong_branches-loop-rest
decreases-wrong_branches-loop-rest l = length l.rest
