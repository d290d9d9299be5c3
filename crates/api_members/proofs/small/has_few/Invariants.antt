use Rattle.std.proofs.Common.{◌≡◌, ◌+◌, ◌≤◌, length}
use Rattle.vtl_reader.specs.Nodes.{item_of, items_made, AllBelow}
use Rattle.api_members.specs.Small.{outputs}
use Rattle.api_members.proofs.small.has_few.Given as goal

abbrev pub invariant-loop-rest : goal.invariant-loop-rest
invariant-loop-rest l = (l.count + outputs (items_made (item_of l.arena) l.rest) ≡ outputs (items_made (item_of l.arena) l.items)) × (l.count + length l.rest ≤ length l.items) × AllBelow (length l.arena.items) l.rest

abbrev pub decreases-loop-rest : goal.decreases-loop-rest
decreases-loop-rest l = length l.rest
