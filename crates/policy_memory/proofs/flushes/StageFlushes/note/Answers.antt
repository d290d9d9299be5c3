use Rattle.std.proofs.Common.{◌≡◌, List, None, get_or, subst}
use Rattle.policy_memory.specs.declared.flushes.StageFlush.{StageFlush}
use Rattle.policy_memory.specs.Kept.{last_in, IsFirstFlush}
use Rattle.policy_memory.proofs.Rows.{flushes-noted}
use Rattle.policy_memory.proofs.flushes.StageFlushes.note.Goals as goal

pub returns-in-Some-clause-noted : goal.returns-in-Some-clause-noted
returns-in-Some-clause-noted c =
    let first : IsFirstFlush c.args.self.now.rows.items c.args.api.now c.args.stage.now c.in-Some.i = subst (λ (rows : List StageFlush). IsFirstFlush rows c.args.api.now c.args.stage.now c.in-Some.i) c.as_slice.ensures.value c.in-Some.ensures in
    let at : c.index_mut.result.now ≡ get_or c.args.self.now.rows.items c.in-Some.i c.index_mut.result.now = c.index_mut.ensures.value in
    flushes-noted c.args.api.now c.args.stage.now c.args.place c.args.self.now.rows.items c.in-Some.i c.index_mut.result.now at first
