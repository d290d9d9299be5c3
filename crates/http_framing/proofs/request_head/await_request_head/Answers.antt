use Rattle.std.proofs.Common.{rules, arith, subst, ◌≡◌, ℕ, List, take}
use Rattle.std.proofs.lemmas.List.{length-take}
use Rattle.http_framing.specs.Heads.{IsUnfinished}
use Rattle.http_framing.proofs.Overs.{takes_both}
use Rattle.http_framing.proofs.request_head.await_request_head.Goals as goal

-- what is shown of the front is shown of what is held
unfinished : (front held : List ℕ) → front ≡ take 10240 held → IsUnfinished front → IsUnfinished (take 10240 held)
unfinished front held e h = let P : List ℕ → Type 0 = IsUnfinished in subst P e h

pub read_front-requires : goal.read_front-requires
read_front-requires g c = rw c.first.ensures (omega (arith, length-take 10240 c.loop-spans.held))

pub returns-then-len-ge-HEAD_LIMIT-clause-head : goal.returns-then-len-ge-HEAD_LIMIT-clause-head
returns-then-len-ge-HEAD_LIMIT-clause-head g c = (
  unfinished c.first.result.now c.loop-spans.held c.first.ensures (rw c.in-Ok-Unfinished.field-0-is at c.in-Ok-Unfinished.ensures),
  omega (arith, c.len.ensures.len, c.if-len-ge-HEAD_LIMIT.true),
)

pub returns-in-End-clause-head : goal.returns-in-End-clause-head
returns-in-End-clause-head g c = (
  unfinished c.first.result.now c.loop-spans.held c.first.ensures (rw c.in-Ok-Unfinished.field-0-is at c.in-Ok-Unfinished.ensures),
  omega (arith, c.len.ensures.len, c.if-len-ge-HEAD_LIMIT.false),
  c.len-in-End.ensures.len,
  c.loop-spans.invariant.end c.in-End.is,
)

pub returns-in-Fault-clause-head : goal.returns-in-Fault-clause-head
returns-in-Fault-clause-head g c = (
  unfinished c.first.result.now c.loop-spans.held c.first.ensures (rw c.in-Ok-Unfinished.field-0-is at c.in-Ok-Unfinished.ensures),
  omega (arith, c.len.ensures.len, c.if-len-ge-HEAD_LIMIT.false),
)

pub returns-in-Memory-filled-clause-taken : goal.returns-in-Memory-filled-clause-taken
returns-in-Memory-filled-clause-taken g c = takes_both _ _ _ c.loop-spans.invariant.taken c.fill_line-filled.ensures.taken

pub loop-spans-preserved : goal.loop-spans-preserved
loop-spans-preserved g c = record {
  same = search rules;
  taken = takes_both _ _ _ c.loop-spans.invariant.taken c.fill_line-filled.ensures.taken;
  end = search rules;
  rose = search rules;
  later = search rules;
  beside = search rules;
}
