use Rattle.vtl_grammar.proofs.SoundTemplates.{template_read}
use Rattle.vtl_grammar.proofs.laws.what_is_read_is_a_template.Goals as goal

pub returns : goal.returns
returns c = template_read
