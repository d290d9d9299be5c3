use Rattle.std.proofs.lemmas.Str.Pattern.{strip_prefix_char}
use Rattle.resource_tree.proofs.Cuts.{prefix_cases}
use Rattle.resource_tree.proofs.reading.behind_first.Goals as goal

pub returns : goal.returns
returns c = prefix_cases c.args.c c.args.text.now c.strip_prefix.result (strip_prefix_char c.args.c c.args.text.now _ c.strip_prefix.ensures.cases c.requires)
