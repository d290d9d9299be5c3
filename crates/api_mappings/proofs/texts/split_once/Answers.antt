use Rattle.vtl_texts.proofs.Cuts.{split_once_cut}
use Rattle.api_mappings.proofs.texts.split_once.Goals as goal

pub returns : goal.returns
returns c = split_once_cut c.args.text.now c.args.part.now _ c.split_once.ensures.cases
