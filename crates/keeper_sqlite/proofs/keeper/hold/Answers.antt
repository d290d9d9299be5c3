use Rattle.std.proofs.Common.{◌≡◌, ◌++◌, ◌∷◌, [], true}
use Rattle.std.proofs.lemmas.List.Elements.{All-push}
use Rattle.keeper_core.specs.declared.rows.Row.{Row}
use Rattle.keeper_sqlite.specs.Columns.{can_be_written}
use Rattle.keeper_sqlite.proofs.keeper.hold.Goals as goal

pub returns-clause-fit : goal.returns-clause-fit
returns-clause-fit c =
    let items : c.push.new.self.items ≡ c.args.staged.now.items ++ c.in_ok-copy.field-0 ∷ [] = c.in_ok-push.ensures.items in
    let same : c.in_ok-copy.field-0 ≡ c.args.row.now = c.in_ok-copy.ensures in
    rw items (All-push (λ (row : Row). can_be_written row ≡ true) _ _ c.requires.fit (rw same c.requires.fits))
