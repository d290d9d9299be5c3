use Rattle.std.proofs.Common.{◌≡◌, ◌<◌, ◌-◌, length, get_or, arith, sym, ◌∙◌, true, false}
use Rattle.std.proofs.lemmas.Str.{IsCharBoundary-before_ascii}
use Rattle.media_types.specs.Blanks.{is_blank}
use Rattle.media_types.proofs.Ends.{blank_is_ascii, end_blank, end_other, end_none}
use Rattle.media_types.proofs.blanks.trim_end.Goals as goal
use Rattle.media_types.proofs.blanks.trim_end.Goals.{then-loop-end-test+else-is_blank, else-loop-end-test}

pub loop-end-preserved : goal.loop-end-preserved
loop-end-preserved c =
    let t = c.args.text.now in
    let k = c.loop-end.end in
    let within : k - 1 < length t = omega (arith, c.loop-end.invariant.boundary.0, c.loop-end-test.true) in
    let blank : is_blank (get_or t (k - 1) 0) ≡ true = rw c.as_bytes-bytes.ensures.value at (sym c.is_blank.ensures ∙ c.if-is_blank.true) in
    record {
      boundary = IsCharBoundary-before_ascii t (k - 1) within (blank_is_ascii (get_or t (k - 1) 0) blank);
      same = end_blank t k c.loop-end-test.true c.loop-end.invariant.boundary.0 blank ∙ c.loop-end.invariant.same;
    }

pub returns : goal.returns
returns c =
    let t = c.args.text.now in
    let k = c.loop-end.end in
    elim c.loop-end-test.branch [
      | then-loop-end-test+else-is_blank w ↦
          let other : is_blank (get_or t (k - 1) 0) ≡ false = rw c.as_bytes-bytes.ensures.value at (sym w.is_blank.ensures ∙ w.if-is_blank.false) in
          c.split_at.ensures.front ∙ end_other t k w.loop-end-test.true c.loop-end.invariant.boundary.0 other ∙ c.loop-end.invariant.same
      | else-loop-end-test w ↦ c.split_at.ensures.front ∙ end_none t k (omega (arith, w.loop-end-test.false)) ∙ c.loop-end.invariant.same
    ]
