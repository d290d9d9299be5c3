use Rattle.schema_rules.proofs.Chains.{unfolds}
use Rattle.schema_rules.proofs.laws.a_verdict_is_that_of_its_keywords.Goals as goal

pub returns : goal.returns
returns c = unfolds
