use Rattle.std.proofs.Common.{ap, subst}
use Rattle.keeper_sqlite.specs.Links.{Linked, IsLoad}
use Rattle.keeper_sqlite.specs.Stands.{StoreStand}
use Rattle.keeper_sqlite.proofs.keeper.SqliteKeeperKeeper.load.Goals as goal

pub returns-clause-load : goal.returns-clause-load
returns-clause-load g c =
    subst (λ (l : Linked g.row.B.Denot). IsLoad g.B.Store g.F.StoreFile.is_fresh l c.load-loaded.new.self c.load-loaded.result) (ap (λ (s : StoreStand g.row.B.Denot). s.link) c.self.view_is) c.load-loaded.ensures
