use Rattle.std.proofs.Common.{rules, ◌≡◌, ap, subst, Some, IfSome}
use Rattle.std.specs.Option.{option_copied}
use Rattle.keeper_core.specs.Lists.{key_row}
use Rattle.book_core.proofs.admitting.admit.Goals as goal

pub admit_under-requires-clause-name : goal.admit_under-requires-clause-name
admit_under-requires-clause-name c =
    let lists = c.args.tables.now.lists in
    let row = c.in-Some.row.now in
    let named : key_row lists row.key ≡ Some row = subst (λ found. IfSome (option_copied found) (λ r. key_row lists r.key ≡ Some r)) c.in-Some.is c.find_key.ensures.row in
    c.requires.fits.keys row.key row named
