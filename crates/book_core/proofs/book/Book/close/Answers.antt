use Rattle.std.proofs.Common.{◌≡◌, None, subst}
use Rattle.book_rules.specs.Good.{bad_row}
use Rattle.book_rules.specs.History.{tables_after}
use Rattle.book_core.proofs.book.Book.close.Goals as goal

pub returns-clause-good : goal.returns-clause-good
returns-clause-good g c =
    subst (λ v. bad_row (tables_after v.base.opening v.history) ≡ None) c.self.view_is
    (c.good_tables_stay_good.ensures c.self.inside.opening.lists c.self.inside.history.items c.self.invariant.order c.self.invariant.good c.self.invariant.stated)
