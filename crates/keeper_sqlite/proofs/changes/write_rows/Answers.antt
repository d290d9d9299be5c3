use Rattle.std.proofs.Common.{◌∙◌, sym}
use Rattle.keeper_sqlite.proofs.Steps.{one_step, one_undone}
use Rattle.keeper_sqlite.proofs.changes.write_rows.Goals as goal

pub returns-in_err-write_each-clause-step : goal.returns-in_err-write_each-clause-step
returns-in_err-write_each-clause-step g c =
    let names = sym (c.write_each.ensures.same_reference ∙ c.transaction-change.ensures.same_reference) in
    one_undone g.S.Store _ c.args.conn.now c.transaction-change.result.conn.now c.write_each.new.change.conn.now c.drop-change.new.self.0 c.conn-1.given.0 _ c.from_residual.ensures.0 c.transaction-change.ensures.begun c.write_each.ensures.inside
    c.drop-change.ensures.undone c.drop-change.ensures.survives (sym (c.conn-1.given.1 names))

pub returns-clause-step : goal.returns-clause-step
returns-clause-step g c =
    let names = sym (c.write_each.ensures.same_reference ∙ c.transaction-change.ensures.same_reference) in
    one_step g.S.Store _ c.args.conn.now c.transaction-change.result.conn.now c.write_each.new.change.conn.now c.finish.new.change.0 c.conn-2-1.given.0 _ c.transaction-change.ensures.begun c.write_each.ensures.inside
    (λ clean. c.in_ok-write_each.ensures.written clean) c.finish.ensures.commits (sym (c.conn-2-1.given.1 names))
