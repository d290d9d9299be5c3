use Rattle.std.proofs.lemmas.Str.Pattern.{strip_suffix_char}
use Rattle.resource_tree.proofs.Cuts.{suffix_cases}
use Rattle.api_mappings.proofs.Cuts.{last_of}
use Rattle.api_mappings.proofs.texts.before_last.Goals as goal

pub returns : goal.returns
returns c = last_of c.args.c c.args.text.now c.strip_suffix.result (suffix_cases c.args.c c.args.text.now c.strip_suffix.result (strip_suffix_char c.args.c c.args.text.now _ c.strip_suffix.ensures.cases c.requires))
