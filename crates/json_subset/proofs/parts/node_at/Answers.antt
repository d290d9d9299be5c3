use Rattle.std.proofs.Common.{refl}
use Rattle.std.proofs.lemmas.Option.{slice_get_read}
use Rattle.json_subset.proofs.Nodes.{opened}
use Rattle.json_subset.proofs.parts.node_at.Goals as goal

pub returns-clause-opened : goal.returns-clause-opened
returns-clause-opened c = opened _ _ _ _ c.requires.sound (slice_get_read _ _ _ _ refl c.requires.stands c.index-nodes-k.is)

pub returns-clause-sound : goal.returns-clause-sound
returns-clause-sound c = c.requires.sound _ _ (slice_get_read _ _ _ _ refl c.requires.stands c.index-nodes-k.is)
