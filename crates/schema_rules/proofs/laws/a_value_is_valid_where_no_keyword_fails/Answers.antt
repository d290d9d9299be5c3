use Rattle.schema_rules.proofs.Keywords.{fails_by_a_keyword}
use Rattle.schema_rules.proofs.laws.a_value_is_valid_where_no_keyword_fails.Goals as goal

pub returns : goal.returns
returns c = fails_by_a_keyword
