use Rattle.policy_memory.proofs.Rows.{flushes-added}
use Rattle.policy_memory.proofs.flushes.StageFlushes.add.Goals as goal

pub returns-clause-noted : goal.returns-clause-noted
returns-clause-noted c =
    flushes-added c.args.api.now c.args.stage.now c.args.place c.args.self.now.rows.items c.push.new.self.items _ _
    c.in_ok-push.ensures.items c.in_ok-api_text.ensures c.in_ok-stage_text.ensures c.requires
