use Rattle.std.proofs.lemmas.Str.Pattern.{strip_prefix_char}
use Rattle.jsonpath_core.proofs.Fronts.{prefix_cases}
use Rattle.jsonpath_core.proofs.reader.behind.Goals as goal

pub returns-clause-value : goal.returns-clause-value
returns-clause-value c = prefix_cases c.args.c c.args.text.now c.strip_prefix.result (strip_prefix_char c.args.c c.args.text.now _ c.strip_prefix.ensures.cases c.requires)
