use Rattle.std.proofs.Common.{◌≡◌, length}
use denote.Text.{Utf8}
use denote.Shadow.{shadow}
use Rattle.std.specs.Str.{chars}
use Rattle.policy_core.specs.Patterns.{after_run}
use Rattle.policy_core.specs.Views.{same_of}
use Rattle.policy_core.proofs.pattern.after_run.Given as goal

-- what is left of both comes to the same
abbrev pub invariant-loop-c : goal.invariant-loop-c
invariant-loop-c l = record {
  utf8_pattern : shadow (Utf8 l.pattern);
  utf8_text : shadow (Utf8 l.text);
  same : after_run (same_of l.case) (chars l.pattern) (chars l.text) ≡ after_run (same_of l.case) (chars l.fn.pattern) (chars l.fn.text);
}

abbrev pub decreases-loop-c : goal.decreases-loop-c
decreases-loop-c l = length (chars l.pattern)
