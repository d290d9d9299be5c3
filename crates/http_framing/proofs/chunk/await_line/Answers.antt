use Rattle.std.proofs.Common.{rules, arith, ◌≡◌, List, ℕ, take, ap, subst, ◌∙◌, Ok, inr}
use Rattle.httparse.specs.Grammar.{HasNoChunkLine, MayBecomeChunkLine}
use Rattle.httparse.specs.Outcome.{OnPartial}
use Rattle.http_framing.proofs.Overs.{takes_both}
use Rattle.http_framing.proofs.chunk.await_line.Goals as goal

-- what is shown of the front is shown of what is held
moved : (P : List ℕ → Type 0) (front held : List ℕ) → front ≡ take 1024 held → P front → P (take 1024 held)
moved P front held e h = subst P e h

pub returns-then-len-ge-LINE_LIMIT-clause-line : goal.returns-then-len-ge-LINE_LIMIT-clause-line
returns-then-len-ge-LINE_LIMIT-clause-line g c =
    let front = c.first.result.now in
    let is = c.in-Ok-Partial.is ∙ ap Ok c.in-Ok-Partial.field-0-is in
    let none : HasNoChunkLine front = subst (λ r. OnPartial r (HasNoChunkLine front)) is c.parse_chunk_size.ensures.partial in
    inr (moved HasNoChunkLine front c.loop-len.held c.first.ensures none, omega (arith, c.len.ensures.len, c.if-len-ge-LINE_LIMIT.true))

pub returns-in-End-clause-line : goal.returns-in-End-clause-line
returns-in-End-clause-line g c =
    let front = c.first.result.now in
    let is = c.in-Ok-Partial.is ∙ ap Ok c.in-Ok-Partial.field-0-is in
    let none : HasNoChunkLine front = subst (λ r. OnPartial r (HasNoChunkLine front)) is c.parse_chunk_size.ensures.partial in
    let may : MayBecomeChunkLine front = subst (λ r. OnPartial r (MayBecomeChunkLine front)) is c.parse_chunk_size.ensures.unfinished in (
      (
        moved HasNoChunkLine front c.loop-len.held c.first.ensures none,
        moved MayBecomeChunkLine front c.loop-len.held c.first.ensures may,
        omega (arith, c.len.ensures.len, c.if-len-ge-LINE_LIMIT.false),
      ),
      c.len-in-End.ensures.len,
      c.loop-len.invariant.end c.in-End.is,
    )

pub returns-in-Fault-clause-line : goal.returns-in-Fault-clause-line
returns-in-Fault-clause-line g c =
    let front = c.first.result.now in
    let is = c.in-Ok-Partial.is ∙ ap Ok c.in-Ok-Partial.field-0-is in
    let none : HasNoChunkLine front = subst (λ r. OnPartial r (HasNoChunkLine front)) is c.parse_chunk_size.ensures.partial in
    let may : MayBecomeChunkLine front = subst (λ r. OnPartial r (MayBecomeChunkLine front)) is c.parse_chunk_size.ensures.unfinished in (
      moved HasNoChunkLine front c.loop-len.held c.first.ensures none,
      moved MayBecomeChunkLine front c.loop-len.held c.first.ensures may,
      omega (arith, c.len.ensures.len, c.if-len-ge-LINE_LIMIT.false),
    )

pub returns-in-Memory-filled-clause-taken : goal.returns-in-Memory-filled-clause-taken
returns-in-Memory-filled-clause-taken g c = takes_both _ _ _ c.loop-len.invariant.taken c.fill_line-filled.ensures.taken

pub loop-len-preserved : goal.loop-len-preserved
loop-len-preserved g c = record {
  same = search rules;
  taken = takes_both _ _ _ c.loop-len.invariant.taken c.fill_line-filled.ensures.taken;
  end = search rules;
  rose = search rules;
  later = search rules;
  beside = search rules;
}
