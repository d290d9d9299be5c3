use Rattle.std.proofs.Common.{rules, ◌≡◌, ◌+◌, None, subst, sym}
use Rattle.keeper_core.specs.Lists.{stage_row}
use Rattle.policy_memory.specs.Kept.{Remembers}
use Rattle.book_rules.specs.Machine.{flushed_at}
use Rattle.book_core.proofs.Remembering.{remembers_next}
use Rattle.book_core.proofs.current.flush.Goals as goal

pub returns-then-is_none-clause-remembers : goal.returns-then-is_none-clause-remembers
returns-then-is_none-clause-remembers c = λ happened r.
    let lists = c.args.current.now.tables.lists in
    let none : stage_row lists c.args.api.now c.args.stage.now ≡ None = search rules in
    subst (λ f. Remembers (flushed_at f c.args.api.now c.args.stage.now happened) (c.args.place + 1) c.args.current.now.policies) (sym none)
    (remembers_next happened c.args.place c.args.current.now.policies r)
