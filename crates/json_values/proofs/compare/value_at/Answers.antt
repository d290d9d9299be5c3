use Rattle.std.proofs.Common.{refl}
use Rattle.std.proofs.lemmas.Option.{slice_get_read}
use Rattle.json_values.proofs.Opened.{opened_value}
use Rattle.json_values.proofs.compare.value_at.Goals as goal

pub returns-clause-plain : goal.returns-clause-plain
returns-clause-plain c = opened_value c.args.values.now c.args.k c.index-values-k.result c.requires.sound (slice_get_read _ _ _ _ refl c.requires.stands c.index-values-k.is)

pub returns-clause-sound : goal.returns-clause-sound
returns-clause-sound c = c.requires.sound c.args.k c.index-values-k.result (slice_get_read _ _ _ _ refl c.requires.stands c.index-values-k.is)
