use Rattle.api_model.proofs.Stated.{always_compiled}
use Rattle.api_model.proofs.laws.patterns_are_kept_for_whole_tokens.Goals as goal

pub returns : goal.returns
returns c = always_compiled
