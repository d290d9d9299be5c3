use Rattle.wire_text.proofs.Passed.{never_sent_on}
use Rattle.wire_text.proofs.laws.what_is_never_sent_on.Goals as goal

pub returns : goal.returns
returns c = never_sent_on
