use Rattle.std.proofs.Common.{◌≡◌, map, take}
use Rattle.std.specs.Rc.{rc_str_bytes}
use Rattle.vtl_values.specs.Val.{text}
use Rattle.vtl_methods.proofs.maps.list_of_keys.Given as goal

abbrev pub invariant-loop-entry : goal.invariant-loop-entry
invariant-loop-entry l = l.made ≡ map (λ e. text (rc_str_bytes e.0)) (take l.entry-index l.entries)
