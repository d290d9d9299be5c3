use Rattle.vtl_texts.proofs.Counted.{index_at, index_none}
use Rattle.vtl_texts.proofs.characters.index_of.Goals as goal

pub returns-in_default : goal.returns-in_default
returns-in_default c = index_none c.args.text.now c.args.part.now c.in_default.ensures

pub returns : goal.returns
returns c = index_at c.args.text.now c.args.part.now _ _ c.length.result c.in-Some.ensures c.length.ensures
