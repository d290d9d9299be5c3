use Rattle.std.proofs.Common.{◌≡◌, length}
use denote.Text.{Utf8}
use denote.Shadow.{shadow}
use Rattle.std.specs.Str.{chars}
use Rattle.policy_core.specs.Patterns.{covers}
use Rattle.policy_core.specs.Views.{same_of}
use Rattle.policy_core.proofs.Scans.{IsLeft}
use Rattle.policy_core.proofs.pattern.covers.Given as goal

-- what is left is covered where the whole is
abbrev pub invariant-loop-rest : goal.invariant-loop-rest
invariant-loop-rest l = record {
  utf8_pattern : shadow (Utf8 l.left.0.now);
  utf8_text : shadow (Utf8 l.left.1.now);
  is_left : IsLeft (chars l.left.0.now) (chars l.left.1.now);
  same : covers (same_of l.case) (chars l.left.0.now) (chars l.left.1.now) ≡ covers (same_of l.case) (chars l.fn.pattern) (chars l.fn.text);
}

abbrev pub decreases-loop-rest : goal.decreases-loop-rest
decreases-loop-rest l = length (chars l.left.0.now)
