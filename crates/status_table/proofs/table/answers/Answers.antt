use Rattle.std.proofs.Common.{rules, ◌≡◌, ℕ, ◌+◌, ◌<◌, false, List, [], ◌∷◌, ◌++◌, get_or, sym, subst}
use Rattle.status_table.specs.Statuses.{takes}
use Rattle.status_table.proofs.Tried.{answer_more}
use Rattle.status_table.proofs.table.answers.Goals as goal

pub loop-n-preserved : goal.loop-n-preserved
loop-n-preserved c = record {
  searcher = search rules;
  all = search rules;
  each =
      let grown : c.push.new.self.items ≡ c.loop-n.answers.items ++ c.in_ok-takes_status.field-0 ∷ [] = search rules in
      let now : c.in_ok-takes_status.field-0 ≡ takes c.args.pattern.now (100 + c.loop-n.n) = search rules in
      subst (λ xs. (k : ℕ) → k < c.loop-n.n + 1 → get_or xs k false ≡ takes c.args.pattern.now (100 + k)) (sym grown)
      (answer_more c.args.pattern.now c.loop-n.n c.loop-n.answers.items c.in_ok-takes_status.field-0 c.loop-n.invariant.all c.loop-n.invariant.each now);
}
