use Rattle.std.proofs.Common.{subst}
use Rattle.book_rules.specs.History.{tables_after}
use Rattle.session_chain.specs.Served.{NextFails}
use Rattle.session_chain.proofs.Nexts.{next_fails}
use Rattle.session_chain.proofs.Turning.{err_by}
use Rattle.session_chain.proofs.next.next_session.Goals as goal

pub returns-clause-refused : goal.returns-clause-refused
returns-clause-refused g c =
    let after = tables_after c.args.book.base.opening c.args.book.history in
    err_by c.start.result _ _
    (λ e fails. subst (λ k. NextFails (g.K.Keeper.facts k) e.1 (g.K.Keeper.facts e.0)) c.close-keeper.ensures.keeper
    (next_fails after c.close-keeper.ensures.good (g.K.Keeper.facts c.close-keeper.result.0) (g.K.Keeper.facts e.0) e.1 c.close-keeper.ensures.keeps.told fails)) c.start.ensures.failed
