use Rattle.good_tables.proofs.After.{tables_stay_good}
use Rattle.good_tables.proofs.laws.good_tables_stay_good.Goals as goal

pub returns : goal.returns
returns c = tables_stay_good
