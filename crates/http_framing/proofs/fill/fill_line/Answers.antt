use Rattle.std.proofs.Common.{rules, arith, ◌≡◌, ℕ, List, inl, inr, true, drop, length, ◌==◌, sym, subst, ◌∙◌}
use Rattle.std.specs.List.{list_any}
use Rattle.http_framing.proofs.Overs.{takes_both}
use Rattle.http_framing.proofs.Overs.{any_later}
use Rattle.http_framing.proofs.fill.fill_line.Goals as goal
use Rattle.http_framing.proofs.fill.fill_line.Goals.{then-len-limit-via-then-len-limit, then-len-limit-via-else-len-limit+then-has_line_feed}

pub returns-in-Memory-clause-taken : goal.returns-in-Memory-clause-taken
returns-in-Memory-clause-taken g c = takes_both _ _ _ c.loop-held.invariant.taken c.fill_by.ensures.taken

pub returns-then-len-limit-clause-taken : goal.returns-then-len-limit-clause-taken
returns-then-len-limit-clause-taken g c = takes_both _ _ _ c.loop-held.invariant.taken c.fill_by.ensures.taken

pub loop-held-preserved : goal.loop-held-preserved
loop-held-preserved g c = record {
  same = search rules;
  taken = takes_both _ _ _ c.loop-held.invariant.taken c.fill_by.ensures.taken;
  more = search rules;
  later = search rules;
  beside = search rules;
}

shown : (bytes held : List ℕ) (at : ℕ) → bytes ≡ held → list_any (λ b. b == 10) (drop at bytes) ≡ true → list_any (λ b. b == 10) (drop at held) ≡ true
shown bytes held at e h = let P : List ℕ → Type 0 = λ l. list_any (λ b. b == 10) (drop at l) ≡ true in subst P e h

pub returns-then-len-limit-clause-seen : goal.returns-then-len-limit-clause-seen
returns-then-len-limit-clause-seen g c = λ more. elim c.then-len-limit.branch [
  | then-len-limit-via-then-len-limit w ↦ inl (omega (arith, c.len.ensures.len, w.if-len-limit.true))
  | then-len-limit-via-else-len-limit+then-has_line_feed w ↦ inr (any_later (λ b. b == 10) c.fill_by.new.held c.len-at.result (length c.args.held.now) (omega (arith, c.len-at.ensures.len, c.loop-held.invariant.more)) (shown w.as_slice.result.now c.fill_by.new.held c.len-at.result w.as_slice.ensures (sym w.has_line_feed.ensures ∙ w.if-has_line_feed.true)))
]
