use Rattle.vtl_methods.specs.Methods.{map_method}
use Rattle.vtl_methods.proofs.Entries.{keys_count}
use Rattle.vtl_methods.proofs.maps.is_empty.Goals as goal

pub returns : goal.returns
unfolding map_method
returns c = rw (keys_count, ← c.is_empty.ensures, ← c.boolean.ensures) c.alone.ensures
