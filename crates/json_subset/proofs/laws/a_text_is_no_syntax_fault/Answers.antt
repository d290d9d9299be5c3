use Rattle.json_subset.proofs.Limits.{json_no_syntax}
use Rattle.json_subset.proofs.laws.a_text_is_no_syntax_fault.Goals as goal

pub returns : goal.returns
returns c = json_no_syntax
