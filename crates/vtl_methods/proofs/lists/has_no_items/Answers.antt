use Rattle.std.proofs.Common.{length, map, sym, arith, ne_eqb}
use Rattle.vtl_values.specs.Val.{whole}
use Rattle.vtl_values.specs.Ranges.{span}
use Rattle.vtl_values.proofs.Items.{listed_vals}
use Rattle.vtl_methods.proofs.lists.has_no_items.Goals as goal

pub returns-in-List : goal.returns-in-List
returns-in-List c = rw (← c.in-List.ensures, listed_vals) c.is_empty.ensures

pub returns-in-Range : goal.returns-in-Range
unfolding span
returns-in-Range c = rw (← c.in-Range.ensures) (sym (ne_eqb (length (map whole (span c.in-Range.field-0 c.in-Range.field-1))) 0 (λ e. absurd (omega (arith, e)))))
