use Rattle.jsonpath_core.proofs.Ordered.{selected_in_order}
use Rattle.jsonpath_core.proofs.laws.nodes_are_selected_in_the_order_of_the_document.Goals as goal

pub returns : goal.returns
returns c = selected_in_order
