use Rattle.std.proofs.Common.{◌≡◌, ◌≤◌, ◌-◌, drop, length}
use Rattle.vtl_grammar.specs.Uses.{is_simple}
use Rattle.vtl_reader.specs.Nodes.{item_of, items_made}
use Rattle.vtl_reader.proofs.template.are_simple.Given as goal

abbrev pub invariant-loop-n : goal.invariant-loop-n
invariant-loop-n l = (l.n ≤ length l.items) × (is_simple (items_made (item_of l.arena) (drop l.n l.items)) ≡ is_simple (items_made (item_of l.arena) l.items))

abbrev pub decreases-loop-n : goal.decreases-loop-n
decreases-loop-n l = length l.items - l.n
