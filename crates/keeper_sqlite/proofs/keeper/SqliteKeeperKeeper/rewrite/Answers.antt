use Rattle.std.proofs.Common.{ap, sym}
use Rattle.keeper_sqlite.specs.Stands.{StoreStand}
use Rattle.keeper_sqlite.proofs.Links.{rewrite_as}
use Rattle.keeper_sqlite.proofs.keeper.SqliteKeeperKeeper.rewrite.Goals as goal

pub returns-clause-change : goal.returns-clause-change
returns-clause-change g c =
    rewrite_as g.B.Store g.F.StoreFile.is_fresh c.args.row.now c.self.inside.link _ c.rewrite_in-kept.new.link _ c.rewrite_in-kept.result _ (ap (λ (s : StoreStand g.row.B.Denot). s.link) c.self.view_is)
    (sym c.count.ensures.link) (sym c.count.ensures.same) c.rewrite_in-kept.ensures
