use Rattle.std.proofs.Common.{◌≡◌, ◌≤◌, length, subst, sym}
use Rattle.gw_base.specs.Names.{is_ascii}
use Rattle.book_core.proofs.Short.{is_of_ascii, is_short}
use Rattle.book_core.proofs.admitting.name_of.Goals as goal

pub of-requires-clause-ascii : goal.of-requires-clause-ascii
of-requires-clause-ascii c = subst is_ascii (sym c.as_str.ensures) (is_of_ascii c.args.text.now c.requires)

pub of-requires-clause-short : goal.of-requires-clause-short
of-requires-clause-short c = subst (λ t. length t ≤ 64) (sym c.as_str.ensures) (is_short c.args.text.now c.requires)
