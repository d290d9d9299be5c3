use Rattle.keeper_sqlite.proofs.Links.{change_since}
use Rattle.keeper_sqlite.proofs.link.Link.change.Goals as goal

pub returns : goal.returns
returns g c =
    let ready = c.in_ok-make_ready.ensures.ok in change_since g.B.Store g.F.StoreFile.is_fresh c.args.rows.now c.args.self.now c.make_ready.new.self c.write_open.new.self ready.0 c.write_open.result ready.1 ready.2 c.write_open.ensures
