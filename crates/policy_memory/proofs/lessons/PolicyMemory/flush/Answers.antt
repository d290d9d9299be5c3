use Rattle.std.proofs.Common.{ap, subst}
use Rattle.policy_memory.specs.Kept.{Kept, Flushes}
use Rattle.policy_memory.proofs.Recalling.{remembers-flushed}
use Rattle.policy_memory.proofs.lessons.PolicyMemory.flush.Goals as goal

pub returns-clause-remembers : goal.returns-clause-remembers
returns-clause-remembers c =
    λ happened r. remembers-flushed happened c.args.self.now _ c.args.api.now c.args.stage.now c.args.place
    (ap (λ (k : Kept). k.lessons) c.self.view_is)
    (subst (λ (k : Kept). Flushes k.flushes c.args.api.now c.args.stage.now c.args.place c.note.new.self.rows.items) c.self.view_is c.in_ok-note.ensures.noted)
    r
