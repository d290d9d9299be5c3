use Rattle.method_answers.proofs.Admitting.{asks_where_keyed}
use Rattle.method_answers.proofs.laws.a_key_is_asked_for_where_the_method_asks_for_one.Goals as goal

pub returns : goal.returns
returns c = asks_where_keyed
