use Rattle.std.proofs.Common.{rules, ◌∙◌}
use Rattle.vtl_texts.proofs.Rounds.{behind_shorter, gathered_cut, gathered_whole}
use Rattle.vtl_texts.proofs.pieces.all_parts.Goals as goal

pub loop-before-smaller : goal.loop-before-smaller
loop-before-smaller c = behind_shorter _ _ _ _ c.requires c.in-Some.ensures

pub loop-before-preserved : goal.loop-before-preserved
loop-before-preserved c = record {
  text = search rules;
  same = gathered_cut c.loop-before.pieces.items c.push.new.self.items c.loop-before.rest.now c.args.at.now c.in-Some.before c.in-Some.behind c.requires c.in-Some.ensures c.in_ok-push.ensures.items ∙ c.loop-before.invariant.same;
}

pub returns : goal.returns
returns c = gathered_whole c.loop-before.pieces.items c.push-2.new.self.items c.args.at.now c.loop-before.rest c.requires c.in_default.ensures c.in_ok-push-2.ensures.items ∙ c.loop-before.invariant.same
