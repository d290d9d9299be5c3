use Rattle.vtl_grammar.proofs.Template.{template_read}
use Rattle.vtl_grammar.proofs.laws.each_template_is_read.Goals as goal

pub returns : goal.returns
returns c = template_read
