-- What stands around items, and what ends them.
use Rattle.std.specs.Prelude.{◌≡◌, ℕ, ◌<◌, List, [], ◌∷◌, ◌++◌, length, Option, IfSome}
use Rattle.vtl_grammar.specs.Tree as tree
use Rattle.vtl_grammar.specs.Tree.{Expr, Item, Items, no_items, otherwise}
use Rattle.vtl_grammar.specs.Loops.{Turn, last, more}
use Rattle.vtl_grammar.specs.Lines.{Spot}
use Rattle.vtl_grammar.specs.Items as says
use Rattle.vtl_grammar.specs.Items.{with_items, with_branch, text_item}
use Rattle.vtl_reader.specs.declared.blocks.Place.{Place}
use Rattle.vtl_reader.specs.declared.blocks.Place.TheVariants as places
use Rattle.vtl_reader.specs.declared.blocks.Around.{Around}
use Rattle.vtl_reader.specs.declared.blocks.Stop.{Stop}
use Rattle.vtl_reader.specs.declared.blocks.Stop.TheVariants as stops
use Rattle.vtl_reader.specs.declared.blocks.ItemTurn.{ItemTurn}
use Rattle.vtl_reader.specs.declared.blocks.ItemTurn.TheVariants as turns
use Rattle.vtl_reader.specs.declared.blocks.BranchTurn.{BranchTurn}
use Rattle.vtl_reader.specs.declared.blocks.BranchTurn.TheVariants as branches
use Rattle.vtl_reader.specs.Nodes.{Nodes, expr_of, item_of, items_made, branch_made, AllBelow, BranchBelow}

-- at the top, where these macros are defined already
abbrev pub place_of : List (List ℕ) → Place → says.Where
place_of defined places.Top = says.at_top defined
place_of defined places.Branch = says.in_branch
place_of defined places.Body = says.in_body

abbrev pub around_of : List (List ℕ) → Around → says.Around
around_of defined a = record { place = place_of defined a.place; loop = a.looping; params = a.params.now }

abbrev pub stop_of : Nodes → Stop → says.Stop
stop_of ns stops.Finish = says.Finish
stop_of ns (stops.Else line rest) = says.Else (line, rest.now)
stop_of ns (stops.ElseIf k line rest) = says.ElseIf (expr_of ns.exprs k) (line, rest.now)
stop_of ns (stops.End line rest) = says.End (line, rest.now)

-- a line on which nothing stands so far, or something does
abbrev pub IsFresh : Option ℕ → Type 0
IsFresh line = IfSome line (λ n. n ≡ 0)

-- its condition is there, and its line is fresh
abbrev pub StopStands : Nodes → Stop → Type 0
StopStands ns stops.Finish = Unit {0}
StopStands ns (stops.Else line rest) = IsFresh line
StopStands ns (stops.ElseIf k line rest) = (k < length ns.exprs) × IsFresh line
StopStands ns (stops.End line rest) = IsFresh line

-- a turn behind this text, around the items behind it
abbrev pub item_turn_of : Nodes → List ℕ → says.Around → ItemTurn → Turn (List Item) (Items × says.Stop) (says.Around × Spot)
item_turn_of ns t a (turns.Item k line rest) = more (text_item t ++ item_of ns k ∷ []) (a, (line, rest.now))
item_turn_of ns t a (turns.End stop) = last (with_items (text_item t) no_items, stop_of ns stop)

abbrev pub TurnStands : Nodes → ItemTurn → Type 0
TurnStands ns (turns.Item k line rest) = (k < length ns.items) × IsFresh line
TurnStands ns (turns.End stop) = StopStands ns stop

abbrev pub branch_turn_of : Nodes → BranchTurn → Turn (Expr × Items) (tree.Branches × Spot) (Expr × Spot)
branch_turn_of ns (branches.Last b ids line rest) = last (with_branch (branch_made (expr_of ns.exprs) (item_of ns) b) (otherwise (items_made (item_of ns) ids.items)), (line, rest.now))
branch_turn_of ns (branches.More b k line rest) = more (branch_made (expr_of ns.exprs) (item_of ns) b) (expr_of ns.exprs k, (line, rest.now))

abbrev pub BranchStands : Nodes → BranchTurn → Type 0
BranchStands ns (branches.Last b ids line rest) = BranchBelow (length ns.exprs) (length ns.items) b × AllBelow (length ns.items) ids.items × IsFresh line
BranchStands ns (branches.More b k line rest) = BranchBelow (length ns.exprs) (length ns.items) b × (k < length ns.exprs) × IsFresh line
