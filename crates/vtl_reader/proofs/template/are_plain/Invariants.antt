use Rattle.std.proofs.Common.{◌≡◌, length}
use Rattle.vtl_grammar.specs.Uses.{is_plain}
use Rattle.vtl_reader.specs.Nodes.{item_of, items_made, AllBelow}
use Rattle.vtl_reader.proofs.template.are_plain.Given as goal

abbrev pub invariant-loop-rest : goal.invariant-loop-rest
invariant-loop-rest l = (is_plain (items_made (item_of l.arena) l.rest) ≡ is_plain (items_made (item_of l.arena) l.items)) × AllBelow (length l.arena.items) l.rest

abbrev pub decreases-loop-rest : goal.decreases-loop-rest
decreases-loop-rest l = length l.rest
