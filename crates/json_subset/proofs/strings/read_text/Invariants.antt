use Rattle.std.proofs.Common.{◌≡◌}
use Rattle.json_subset.specs.Strings.{string, text_from}
use Rattle.json_subset.proofs.strings.read_text.Given as goal

abbrev pub invariant-loop-left : goal.invariant-loop-left
invariant-loop-left l = text_from l.n l.text.items l.left l.rest ≡ string l.n l.bytes

abbrev pub decreases-loop-left : goal.decreases-loop-left
decreases-loop-left l = l.left
