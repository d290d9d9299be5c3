use Rattle.std.proofs.Common.{refl, subst, sym, ◌∙◌, inr}
use Rattle.keeper_core.specs.declared.keeper.KeepFault.{KeepFault}
use Rattle.keeper_sqlite.specs.Links.{IsReady}
use Rattle.keeper_sqlite.proofs.Links.{ready_at, settled_at}
use Rattle.keeper_sqlite.proofs.Steps.{step_asked}
use Rattle.keeper_sqlite.proofs.link.Link.write_open.Goals as goal

pub returns-in-Ok : goal.returns-in-Ok
returns-in-Ok g c =
    let was = sym c.take.ensures.value ∙ c.in-Some.is in (
      c.write_rows.new.undos.items,
      c.write_rows.new.conn,
      record {
        from = c.in-Some.conn;
        ready = subst (λ l. IsReady g.B.Store g.F.StoreFile.is_fresh l c.in-Some.conn) c.self.view_is (ready_at g.B.Store g.F.StoreFile.is_fresh _ _ _ was);
        step = c.in-Ok.ensures.step;
      },
      refl,
      settled_at _ _ _ was c.self.invariant,
    )

pub returns-in-Err : goal.returns-in-Err
returns-in-Err g c =
    let was = sym c.take.ensures.value ∙ c.in-Some.is in
    let kept = c.keep_or_owe.ensures in
    inr (
      c.write_rows.new.undos.items,
      kept.0,
      record {
        from = c.in-Some.conn;
        ready = subst (λ l. IsReady g.B.Store g.F.StoreFile.is_fresh l c.in-Some.conn) c.self.view_is (ready_at g.B.Store g.F.StoreFile.is_fresh _ _ _ was);
        step = step_asked g.B.Store _ _ _ _ _ c.in-Err.ensures.step kept.1;
      },
      kept.2,
    )
