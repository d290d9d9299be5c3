-- Each part of a value is less deep than the value.
use Rattle.std.specs.Prelude.{suc, ◌+◌, ◌≤◌, max, List, [], ◌∷◌}
use Rattle.std.specs.declared.rc.RcStr.{RcStr}
use Rattle.std.specs.declared.alloc.Global.{Global}
use Rattle.std.proofs.Common.{arith}
use denote.Param.Weighed.{most}
use Rattle.vtl_values.specs.Val.{Val, vals_of, depth, vals_depth, entries_depth}
use Rattle.vtl_values.specs.Vals.{val_of, rows_of}
use Rattle.vtl_values.specs.declared.value.Shape.{Shape}
use Rattle.vtl_values.specs.declared.value.Shape.TheVariants as shape
use Rattle.vtl_values.specs.declared.value.Value.TheDeep.{deep-Shape}
use Rattle.vtl_values.specs.declared.value.Value.TheShapes.{weighed-Entries-rows-at-2}

pub items_fall : (vs : List Val) → most (λ v. depth v + 1) vs ≤ suc (vals_depth (vals_of vs))
items_fall [] = omega arith
items_fall (v ∷ vs) = omega (arith, items_fall vs)

pub rows_fall : (es : List (RcStr Global × Val)) → most (weighed-Entries-rows-at-2.weight Val (λ v. depth v + 1)) es ≤ suc (entries_depth (rows_of es))
rows_fall [] = omega arith
rows_fall (e ∷ es) = omega (arith, rows_fall es)

pub depth_falls : (s : Shape) → max (deep-Shape s) 0 ≤ depth (val_of s)
depth_falls shape.Null = omega arith
depth_falls (shape.Bool b) = omega arith
depth_falls (shape.Whole n) = omega arith
depth_falls (shape.Number t) = omega arith
depth_falls (shape.Str s) = omega arith
depth_falls (shape.List r) = omega (arith, items_fall r.value.values.items)
depth_falls (shape.Range a b) = omega arith
depth_falls (shape.Map r) = omega (arith, rows_fall r.value.rows.items)
