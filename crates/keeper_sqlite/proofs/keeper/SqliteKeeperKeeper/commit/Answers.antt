use Rattle.std.proofs.Common.{ap, sym, ◌∙◌}
use Rattle.keeper_sqlite.specs.Stands.{StoreStand}
use Rattle.keeper_sqlite.proofs.Links.{change_as}
use Rattle.keeper_sqlite.proofs.keeper.SqliteKeeperKeeper.commit.Goals as goal

pub returns-clause-change : goal.returns-clause-change
returns-clause-change g c =
    change_as g.B.Store g.F.StoreFile.is_fresh c.deref.result.now _ c.self.inside.link _ c.change-kept.new.self _ c.change-kept.result _
    (c.deref.ensures.value ∙ ap (λ v. v.items) c.replace-staged.ensures.value ∙ ap (λ (s : StoreStand g.row.B.Denot). s.staged) c.self.view_is) (ap (λ (s : StoreStand g.row.B.Denot). s.link) c.self.view_is)
    (sym c.count.ensures.link) (sym c.count.ensures.same) c.change-kept.ensures
