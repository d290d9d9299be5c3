-- Which tree a value of the program stands for, one clause for each variant, and when the size and the places kept beside it are right.
use Rattle.std.specs.Prelude.{◌≡◌, ◌≤◌, ◌^◌, ◌-◌, min, List, [], ◌∷◌}
use Rattle.std.specs.Rc.{rc_str_bytes}
use Rattle.std.specs.declared.rc.RcStr.{RcStr}
use Rattle.std.specs.declared.alloc.Global.{Global}
use Rattle.vtl_values.specs.Val.{Val, Entries, null, boolean, whole, number, text, list, range, no_entries, entry, vals_of, depth, string_bytes}
use Rattle.vtl_values.specs.Val as tree
use Rattle.vtl_values.specs.Places.{IsIndexed}
use Rattle.vtl_values.specs.declared.value.Shape.{Shape}
use Rattle.vtl_values.specs.declared.value.Size.{Size}
use Rattle.vtl_values.specs.declared.value.Shape.TheVariants as shape

abbrev pub rows_of : List (RcStr Global × Val) → Entries
rows_of [] = no_entries
rows_of (e ∷ es) = entry (rc_str_bytes e.0) e.1 (rows_of es)

abbrev pub val_of : Shape → Val
val_of shape.Null = null
val_of (shape.Bool b) = boolean b
val_of (shape.Whole n) = whole n
val_of (shape.Number t) = number (rc_str_bytes t)
val_of (shape.Str s) = text (rc_str_bytes s)
val_of (shape.List r) = list (vals_of r.value.values.items)
val_of (shape.Range a b) = range a b
val_of (shape.Map r) = tree.map (rows_of r.value.rows.items)

-- the depth and the bytes, at most 2^64 - 1, are those of the value
pub record Sizes (v : Val) (size : Size) : Type 0 where
  pub depth : size.depth ≡ tree.depth v
  pub bytes : size.bytes ≡ min (string_bytes v) (2 ^ 64 - 1)
  pub shallow : tree.depth v ≤ 64

abbrev pub IsMeasured : Shape → Type 0
IsMeasured shape.Null = Unit {0}
IsMeasured (shape.Bool b) = Unit {0}
IsMeasured (shape.Whole n) = Unit {0}
IsMeasured (shape.Number t) = Unit {0}
IsMeasured (shape.Str s) = Unit {0}
IsMeasured (shape.List r) = Sizes (list (vals_of r.value.values.items)) r.value.size
IsMeasured (shape.Range a b) = Unit {0}
IsMeasured (shape.Map r) = Sizes (tree.map (rows_of r.value.rows.items)) r.value.size × IsIndexed (rows_of r.value.rows.items) r.value.places
