use Rattle.json_subset.proofs.Compacted.{compact_spells}
use Rattle.json_subset.proofs.laws.the_compact_text_spells_the_same_tree.Goals as goal

pub returns : goal.returns
returns c = compact_spells
