use Rattle.vtl_values.proofs.Items.{list_turn_within}
use Rattle.vtl_values.proofs.parts.list_turn.Goals as goal

pub item_copied-requires : goal.item_copied-requires
item_copied-requires c = list_turn_within c.args.items.now c.args.n c.requires
