use Rattle.std.proofs.Common.{rules, ◌≡◌, subst, sym}
use Rattle.keeper_core.specs.Lists.{put as put_of}
use Rattle.book_opening.specs.Ready.{AreReady}
use Rattle.book_core.proofs.Puts.{ready_after}
use Rattle.book_core.proofs.changes.put.Goals as goal

pub returns-clause-ready : goal.returns-clause-ready
returns-clause-ready c =
    let lists : c.put.new.self.lists ≡ put_of c.args.row c.args.tables.now.lists = search rules in
    subst (λ l. AreReady l c.put-2.new.ready) (sym lists)
    (ready_after c.args.row c.args.held c.args.tables.now.lists c.args.ready.now c.put-2.new.ready c.place-place.result c.requires.held c.place-place.ensures c.requires.ready c.put-2.ensures)
