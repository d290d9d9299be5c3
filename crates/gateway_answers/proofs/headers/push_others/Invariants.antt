use Rattle.std.proofs.Common.{◌≡◌, ◌++◌, drop}
use Rattle.gateway_answers.specs.Headers.{others}
use Rattle.gateway_answers.proofs.headers.push_others.Given as goal

-- the others so far, and those of the headers that are left, are those of all
abbrev pub invariant-loop-header : goal.invariant-loop-header
invariant-loop-header l = l.made.items ++ others (drop l.header-index l.headers) ≡ l.initial.made.items ++ others l.headers
