use Rattle.std.proofs.Common.{◌<◌, ◌-◌, length, arith, ◌∙◌}
use Rattle.std.proofs.lemmas.Str.{IsCharBoundary-before_ascii}
use Rattle.vtl_texts.proofs.Ends.{end_blank, end_other, end_none}
use Rattle.vtl_texts.proofs.forms.trim_end.Goals as goal
use Rattle.vtl_texts.proofs.forms.trim_end.Goals.{then-loop-end-test+else-bytes-end-le32, else-loop-end-test}

pub loop-end-preserved : goal.loop-end-preserved
loop-end-preserved c =
    let t = c.args.text.now in
    let k = c.loop-end.end in
    let within : k - 1 < length t = omega (arith, c.loop-end.invariant.boundary.0, c.loop-end-test.true) in
    let small = rw c.as_bytes-bytes.ensures.value at c.if-bytes-end-le32.true in
    record {
      boundary = IsCharBoundary-before_ascii t (k - 1) within (omega (arith, small));
      same = end_blank t k c.loop-end-test.true c.loop-end.invariant.boundary.0 small ∙ c.loop-end.invariant.same;
    }

pub returns : goal.returns
returns c =
    let t = c.args.text.now in
    let k = c.loop-end.end in
    elim c.loop-end-test.branch [
      | then-loop-end-test+else-bytes-end-le32 w ↦ c.split_at.ensures.front ∙ end_other t k w.loop-end-test.true c.loop-end.invariant.boundary.0 (rw c.as_bytes-bytes.ensures.value at w.if-bytes-end-le32.false) ∙ c.loop-end.invariant.same
      | else-loop-end-test w ↦ c.split_at.ensures.front ∙ end_none t k (omega (arith, w.loop-end-test.false)) ∙ c.loop-end.invariant.same
    ]
