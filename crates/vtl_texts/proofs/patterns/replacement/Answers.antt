use Rattle.vtl_texts.specs.Patterns.{replacement_of}
use Rattle.vtl_texts.proofs.patterns.replacement.Goals as goal

pub returns : goal.returns
unfolding replacement_of
returns c = c.plain.ensures
