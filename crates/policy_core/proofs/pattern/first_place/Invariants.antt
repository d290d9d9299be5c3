use Rattle.std.proofs.Common.{◌≡◌, length}
use denote.Text.{Utf8}
use denote.Shadow.{shadow}
use Rattle.std.specs.Str.{chars}
use Rattle.policy_core.specs.Patterns.{first_place}
use Rattle.policy_core.specs.Views.{same_of}
use Rattle.policy_core.proofs.pattern.first_place.Given as goal

-- no place so far does
abbrev pub invariant-loop-left : goal.invariant-loop-left
invariant-loop-left l = record {
  utf8 : shadow (Utf8 l.place);
  same : first_place (same_of l.case) (chars l.pattern) (chars l.place) ≡ first_place (same_of l.case) (chars l.pattern) (chars l.text);
}

abbrev pub decreases-loop-left : goal.decreases-loop-left
decreases-loop-left l = length (chars l.place)
