use Rattle.std.proofs.Common.{[], subst, sym}
use Rattle.book_rules.specs.Fits.{AreFit}
use Rattle.book_core.specs.Standing.{standing}
use Rattle.fit_rows.proofs.FitsAfter.{fits_at}
use Rattle.book_core.proofs.current.time.Goals as goal

pub returns-clause-fits : goal.returns-clause-fits
returns-clause-fits c =
    subst (λ t. AreFit c.args.current.now.tables.lists t) (sym c.later.ensures) (fits_at (standing [] c.args.current.now) c.args.moment c.requires.fits)
