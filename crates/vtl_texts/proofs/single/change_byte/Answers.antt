use Rattle.std.proofs.Common.{◌∙◌, sym}
use Rattle.vtl_texts.proofs.Bytes.{changed, changed_here, changed_not, one_more, all_done, exchanged_bytes}
use Rattle.vtl_texts.proofs.single.change_byte.Goals as goal
use Rattle.vtl_texts.proofs.single.change_byte.Goals.{then-b-old, else-b-old}

pub loop-b-preserved : goal.loop-b-preserved
loop-b-preserved c =
    let step = one_more (changed c.args.old c.args.new) c.args.bytes.now c.loop-b.bytes c.loop-b.b-index c.if-b-old.b c.loop-b-test.true c.loop-b.auto.bytes c.loop-b.invariant in
    elim c.if-b-old.branch [
      | then-b-old w ↦ step (w.b-is ∙ sym (changed_here c.args.old c.args.new _ w.if-b-old.true))
      | else-b-old w ↦ step (w.b-is ∙ sym (changed_not c.args.old c.args.new _ w.if-b-old.false))
    ]

pub returns : goal.returns
returns c = all_done (changed c.args.old c.args.new) c.args.bytes.now c.loop-b.bytes c.loop-b.b-index c.loop-b-test.false c.loop-b.invariant ∙ sym (exchanged_bytes c.args.bytes.now c.args.old c.args.new)
