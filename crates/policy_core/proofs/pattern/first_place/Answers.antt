use Rattle.std.proofs.Common.{◌∙◌, sym}
use Rattle.std.specs.Str.{chars}
use Rattle.policy_core.specs.Views.{same_of}
use Rattle.policy_core.proofs.Scans.{place_here}
use Rattle.policy_core.proofs.pattern.first_place.Goals as goal

pub returns-in-Some : goal.returns-in-Some
returns-in-Some c = record {
  value = sym c.loop-left.invariant.same ∙ place_here (same_of c.args.case) (chars c.args.pattern.now) (chars c.loop-left.place.now) _ c.in-Some.ensures.value;
}
