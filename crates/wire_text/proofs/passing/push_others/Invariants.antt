use Rattle.std.proofs.Common.{◌≡◌, ◌++◌, drop}
use Rattle.std.specs.Prelude.{if◌then◌else◌}
use Rattle.wire_text.specs.Passing.{without_first}
use Rattle.wire_text.proofs.passing.push_others.Given as goal

-- the others so far, and those of the headers that are left, are those of all
abbrev pub invariant-loop-header : goal.invariant-loop-header
invariant-loop-header l = l.made.items ++ (if l.passed then drop l.header-index l.headers else without_first (drop l.header-index l.headers)) ≡ l.initial.made.items ++ without_first l.headers
