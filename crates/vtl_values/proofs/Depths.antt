-- How deep the parts of a list or map are.
use Rattle.std.proofs.Common.{◌≡◌, ℕ, zero, suc, ◌<◌, ◌≤◌, List, [], ◌∷◌, length, get_or, ap, arith}
use Rattle.std.specs.declared.rc.RcStr.{RcStr}
use Rattle.std.specs.declared.alloc.Global.{Global}
use Rattle.vtl_values.specs.Val.{Val, depth, vals_of, vals_depth, entries_depth}
use Rattle.vtl_values.specs.Vals.{rows_of}

pub item_depth : (vs : List Val) (i : ℕ) (v : Val) → i < length vs → v ≡ get_or vs i v → depth v ≤ vals_depth (vals_of vs)
item_depth [] i v h e = absurd (omega (arith, h))
item_depth (w ∷ vs) zero v h e = omega (arith, ap depth e)
item_depth (w ∷ vs) (suc i) v h e = omega (arith, item_depth vs i v (omega (arith, h)) e)

pub row_depth : (es : List (RcStr Global × Val)) (i : ℕ) (e : RcStr Global × Val) → i < length es → e ≡ get_or es i e → depth e.1 ≤ entries_depth (rows_of es)
row_depth [] i v h e = absurd (omega (arith, h))
row_depth (w ∷ es) zero v h e = omega (arith, ap (λ z. depth z.1) e)
row_depth (w ∷ es) (suc i) v h e = omega (arith, row_depth es i v (omega (arith, h)) e)
