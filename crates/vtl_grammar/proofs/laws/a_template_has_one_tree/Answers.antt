use Rattle.vtl_grammar.proofs.Template.{template_once}
use Rattle.vtl_grammar.proofs.laws.a_template_has_one_tree.Goals as goal

pub returns : goal.returns
returns c = template_once
