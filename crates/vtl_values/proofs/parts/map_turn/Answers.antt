use Rattle.vtl_values.proofs.Items.{map_turn_within}
use Rattle.vtl_values.proofs.parts.map_turn.Goals as goal

pub value_copied-requires : goal.value_copied-requires
value_copied-requires c = map_turn_within c.args.entries.now c.args.n c.requires
