use Rattle.vtl_values.proofs.Items.{listed_vals}
use Rattle.vtl_methods.proofs.lists.is_in.Goals as goal

pub returns-in-List : goal.returns-in-List
returns-in-List c = rw (← c.in-List.ensures, listed_vals) c.is_item.ensures
