use Rattle.keeper_sqlite.proofs.Links.{loads}
use Rattle.keeper_sqlite.proofs.link.Link.load.Goals as goal

pub returns-in-Ok : goal.returns-in-Ok
returns-in-Ok g c = let ready = c.in-Ok.ensures.ok in loads g.B.Store g.F.StoreFile.is_fresh c.args.self.now c.load_open.new.self ready.0 c.load_open.result ready.1 c.load_open.ensures.open c.load_open.ensures.owed
