use Rattle.policy_memory.proofs.Lawful.{flushed-keeps-its-place}
use Rattle.policy_memory.proofs.laws.a_flushed_name_keeps_its_place.Goals as goal

pub returns : goal.returns
returns c = flushed-keeps-its-place
