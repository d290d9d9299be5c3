use Rattle.std.proofs.Common.{◌≡◌, [], Some, List, refl, ap, subst, sym}
use Rattle.sqlite.specs.Held.{Held}
use Rattle.keeper_sqlite.specs.declared.undo.Undo.{Undo}
use Rattle.keeper_sqlite.specs.Links.{Linked, IsReady}
use Rattle.keeper_sqlite.proofs.Links.{ready_now, reopened_at}
use Rattle.keeper_sqlite.proofs.link.Link.make_ready.Goals as goal

pub returns-then-is_some-clause-ok : goal.returns-then-is_some-clause-ok
returns-then-is_some-clause-ok g c =
    subst (λ (l : Linked g.row.B.Denot). (x : Held g.row.B.Denot) × IsReady g.B.Store g.F.StoreFile.is_fresh l x × (l ≡ record { conn = Some x; owed = [] })) c.self.view_is
    (ready_now g.B.Store g.F.StoreFile.is_fresh _ _ (sym c.if-is_some.ensures) c.self.invariant)

pub returns-clause-ok : goal.returns-clause-ok
returns-clause-ok g c = (
  c.in_ok-conn.conn,
  subst (λ (l : Linked g.row.B.Denot). IsReady g.B.Store g.F.StoreFile.is_fresh l c.in_ok-conn.conn) c.self.view_is
      (reopened_at g.B.Store g.F.StoreFile.is_fresh _ _ c.deref.result.now _ (sym c.if-is_some.ensures) c.deref.ensures.value c.in_ok-conn.ensures.reopened),
  ap (λ (o : List Undo). let it : Linked g.row.B.Denot = record { conn = Some c.in_ok-conn.conn; owed = o } in it) c.clear.ensures.items,
)
