-- The arguments that a frame stands for.
use Rattle.std.specs.Prelude.{ℕ, Bool, true, ◌&&◌, List, Option, Some, None, nat_lt, slice_get}
use Rattle.std.specs.List.{list_all}
use Rattle.vtl_grammar.specs.Tree.{Expr, Item, Items, Branches}
use Rattle.vtl_grammar.specs.Expanded.{Arguments, arguments, expr_with, exprs_with, item_with, items_with, branches_with, item_without, items_without, branches_without, called}
use Rattle.vtl_reader.specs.declared.nodes.ExprNode.{ExprNode}
use Rattle.vtl_reader.specs.Nodes.{Nodes, expr_of, exprs_made}
use Rattle.vtl_reader.specs.Macros.{Listed, macros_by}
use Rattle.vtl_eval.specs.declared.frame.Frame.{Frame}
use Rattle.vtl_eval.specs.declared.frame.Frame.TheOpen.{Frame-F}
use Rattle.vtl_eval.specs.declared.frame.Frame.TheOpen as f
use Rattle.vtl_eval.specs.declared.frame.Frame.TheFolds.{fold-Frame}

-- the arguments of one frame, where its caller's stand in the caller's place
abbrev pub frame_step : List ExprNode → Frame-F Arguments → Arguments
frame_step ns f.Top x = None
frame_step ns (f.Call ps ids caller) x = arguments ps.now (exprs_with caller.now (exprs_made (expr_of ns) ids.now)) x

abbrev pub arguments_of : List ExprNode → Frame → Arguments
arguments_of ns = fold-Frame Arguments (frame_step ns)

-- all arguments are expressions below n
abbrev pub sound_step : ℕ → Frame-F Bool → Bool
sound_step n f.Top = true
sound_step n (f.Call ps ids caller) = list_all (λ k. nat_lt k n) ids.now && caller.now

abbrev pub is_sound : ℕ → Frame → Bool
is_sound n = fold-Frame Bool (sound_step n)

-- the argument in this place
abbrev pub placed_in : List ℕ → Option ℕ → Option ℕ
placed_in ids None = None
placed_in ids (Some n) = slice_get ids n

-- the expression with this number, as it is evaluated in a frame
abbrev pub seen : List ExprNode → Frame → ℕ → Expr
seen ns frame k = expr_with (arguments_of ns frame) (expr_of ns k)

-- items, as they are run in a frame, where so many calls may stand inside one another

abbrev pub seen_item : Nodes → Listed → ℕ → Frame → Item → Items
seen_item ns l n frame i = item_without (called (macros_by ns l) n) (item_with (arguments_of ns.exprs frame) i)

abbrev pub seen_items : Nodes → Listed → ℕ → Frame → Items → Items
seen_items ns l n frame is = items_without (called (macros_by ns l) n) (items_with (arguments_of ns.exprs frame) is)

abbrev pub seen_branches : Nodes → Listed → ℕ → Frame → Branches → Branches
seen_branches ns l n frame bs = branches_without (called (macros_by ns l) n) (branches_with (arguments_of ns.exprs frame) bs)
