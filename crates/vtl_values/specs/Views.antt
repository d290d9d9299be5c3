-- Which tree a value stands for that is lent to be matched on.
use Rattle.std.specs.Rc.{rc_str_bytes}
use Rattle.vtl_values.specs.Val.{Val, null, boolean, whole, number, text, list, range, vals_of}
use Rattle.vtl_values.specs.Val as tree
use Rattle.vtl_values.specs.Vals.{rows_of}
use Rattle.vtl_values.specs.declared.view.View.{View}
use Rattle.vtl_values.specs.declared.view.View.TheVariants as view

abbrev pub val_in : View → Val
val_in view.Null = null
val_in (view.Bool b) = boolean b
val_in (view.Whole n) = whole n
val_in (view.Number t) = number (rc_str_bytes t.now)
val_in (view.Text t) = text (rc_str_bytes t.now)
val_in (view.List items) = list (vals_of items.now)
val_in (view.Range a b) = range a b
val_in (view.Map entries) = tree.map (rows_of entries.now)
