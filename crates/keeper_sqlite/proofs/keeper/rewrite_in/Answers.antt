use Rattle.std.proofs.Common.{◌≡◌, true, arith, sym, ◌∙◌, ap}
use Rattle.keeper_core.specs.declared.rows.JoinRow.{JoinRow}
use Rattle.keeper_core.specs.declared.rows.Row.TheVariants.{Join}
use Rattle.keeper_sqlite.specs.Columns.{can_be_written}
use Rattle.keeper_sqlite.proofs.Links.{rewrites}
use Rattle.keeper_sqlite.proofs.keeper.rewrite_in.Goals as goal

pub change-requires : goal.change-requires
change-requires g c = record {
  fit = λ k d low. let first : k ≡ 0 = omega arith in let fits : can_be_written (Join c.in_ok-copy.field-0) ≡ true = ap (λ (it : JoinRow). can_be_written (Join it)) c.in_ok-copy.ensures ∙ sym c.if-not-join_can_be_written.ensures in rw first fits;
}

pub returns : goal.returns
returns g c = rewrites g.B.Store g.F.StoreFile.is_fresh c.args.row.now c.in_ok-copy.field-0 c.args.link.now c.change.new.self c.change.result c.in_ok-copy.ensures (sym c.if-not-join_can_be_written.ensures) c.change.ensures
