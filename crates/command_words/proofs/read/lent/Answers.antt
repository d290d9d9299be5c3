use Rattle.std.proofs.Common.{rules, tests, map-id, ◌∙◌}
use Rattle.std.proofs.lemmas.Iterator.{YieldsList-from_map_by, YieldsList-from_slice}
use Rattle.std.proofs.lemmas.Iterator.Consumers.{YieldsList-at, map_from_collect}
use Rattle.std.proofs.lemmas.Result.{IfOk-weaker}
use Rattle.command_words.proofs.read.lent.Goals as goal

pub returns : goal.returns
returns c =
    IfOk-weaker c.collect.result _ _ (λ texts h. h ∙ map-id c.args.words.now)
    (map_from_collect _ c.collect.ensures.ran
    (YieldsList-from_map_by _ (λ text. text.now) (λ word. word) (YieldsList-at c.map.ensures.source (YieldsList-from_slice c.args.words.now c.iter.ensures.rest)) c.map.ensures.closure (λ x r q k. search (rules, tests))))
