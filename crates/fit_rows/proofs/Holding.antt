-- Rows may stand after every history.
use Rattle.std.proofs.Common.{◌≡◌, ◌≤◌, ℕ, Bool, true, List, [], ◌∷◌, reverse, Option, Some, None, refl}
use Rattle.std.specs.Prelude.{is_some}
use Rattle.keeper_core.specs.Lists.{Lists, join_row, plan_row}
use Rattle.keeper_core.specs.declared.rows.JoinRow.{JoinRow}
use Rattle.keeper_core.specs.declared.rows.PlanRow.{PlanRow}
use Rattle.book_rules.specs.Fits.{AreFit}
use Rattle.book_rules.specs.Good.{bad_row}
use Rattle.book_rules.specs.History.{state_of, state_after, tables_after}
use Rattle.book_rules.specs.Machine.{opened}
use Rattle.book_rules.specs.declared.events.Entry.{Entry}
use Rattle.fit_rows.proofs.FitsAfter.{fits_after}
use Rattle.fit_rows.proofs.Fitting.{opens_fit}
use Rattle.fit_rows.specs.Laws.{NoneIsOverused, RowsMayStand}

fits_by : (opening : Lists) (entries : List Entry) → bad_row opening ≡ None → AreFit (state_of (opened opening) entries).lists (state_of (opened opening) entries).latest
fits_by opening [] good = opens_fit opening good
fits_by opening (newest ∷ older) good = fits_after (state_of (opened opening) older) newest.event newest.kept (fits_by opening older good)

pub rows_stand : RowsMayStand
unfolding state_after
rows_stand opening history good = fits_by opening (reverse history) good

pub none_overused : NoneIsOverused
none_overused opening history plan key row good found = under (plan_row (tables_after opening history) plan) (λ of e. e) (fit.planned plan key row found)
  where
    fit : AreFit (state_after opening history).lists (state_after opening history).latest
    fit = rows_stand opening history good

    under : (of : Option PlanRow) → ((p : PlanRow) → of ≡ Some p → plan_row (tables_after opening history) plan ≡ Some p) → is_some of ≡ true → row.used ≤ row.allowance
    under None same some = absurd cc
    under (Some of) same some = (fit.joins plan key of row (same of refl) found).tally.counted.within
