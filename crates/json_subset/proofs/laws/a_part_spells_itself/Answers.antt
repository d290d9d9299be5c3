use Rattle.json_subset.proofs.PartTexts.{part_text}
use Rattle.json_subset.proofs.laws.a_part_spells_itself.Goals as goal

pub returns : goal.returns
returns c = part_text
