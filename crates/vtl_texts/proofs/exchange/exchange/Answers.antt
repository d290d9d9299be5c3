use Rattle.std.proofs.Common.{rules, ◌∙◌}
use Rattle.vtl_texts.proofs.Rounds.{written_cut, written_whole, behind_shorter}
use Rattle.vtl_texts.proofs.exchange.exchange.Goals as goal

pub loop-before-smaller : goal.loop-before-smaller
loop-before-smaller c = behind_shorter _ _ _ _ c.requires c.in-Some.ensures

pub loop-before-preserved : goal.loop-before-preserved
loop-before-preserved c = record {
  text = search rules;
  same = written_cut _ _ _ c.loop-before.rest.now c.args.from.now c.args.to.now _ _ c.requires c.in-Some.ensures c.in_ok-push_str.ensures.bytes c.in_ok-push_str-2.ensures.bytes ∙ c.loop-before.invariant.same;
}

pub returns : goal.returns
returns c = written_whole _ _ c.loop-before.rest.now c.args.from.now c.args.to.now c.requires c.in_default.ensures c.in_ok-push_str-3.ensures.bytes ∙ c.loop-before.invariant.same
