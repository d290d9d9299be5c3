use Rattle.std.proofs.Common.{◌≡◌, ◌++◌, drop}
use Rattle.wire_text.specs.Passing.{passed_on_of}
use Rattle.wire_text.proofs.passing.passed_on.Given as goal

-- what went on so far, and what goes on of the headers that are left, is what goes on of all
abbrev pub invariant-loop-header : goal.invariant-loop-header
invariant-loop-header l = l.made.items ++ passed_on_of (drop l.header-index l.headers) ≡ passed_on_of l.headers
