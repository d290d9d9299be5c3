use Rattle.std.proofs.Common.{refl}
use Rattle.std.specs.Fmt.{digits}
use Rattle.http_edge.specs.Answers.{spelled}
use Rattle.http_edge.proofs.refusal.head_too_large.Goals as goal

pub returns : goal.returns
unfolding spelled digits
returns c = refl
