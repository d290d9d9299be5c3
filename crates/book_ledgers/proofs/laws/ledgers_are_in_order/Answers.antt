use Rattle.book_ledgers.proofs.Ordering.{in_order}
use Rattle.book_ledgers.proofs.laws.ledgers_are_in_order.Goals as goal

pub returns : goal.returns
returns c = in_order
