use Rattle.wire_text.proofs.Passed.{never_passed_on}
use Rattle.wire_text.proofs.laws.what_is_never_passed_on.Goals as goal

pub returns : goal.returns
returns c = never_passed_on
