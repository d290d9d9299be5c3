use Rattle.http_edge.proofs.NextUnique.{run_unique}
use Rattle.http_edge.proofs.laws.a_stream_has_one_list_of_messages.Goals as goal

pub returns : goal.returns
returns c = λ bytes ms ns a b. run_unique ms ns a b bytes
