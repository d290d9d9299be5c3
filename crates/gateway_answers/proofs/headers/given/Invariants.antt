use Rattle.std.proofs.Common.{◌≡◌, ◌++◌, drop}
use Rattle.gateway_answers.specs.Headers.{given}
use Rattle.gateway_answers.proofs.headers.given.Given as goal

-- what is given so far, and of the headers that are left, is what is given of all
abbrev pub invariant-loop-header : goal.invariant-loop-header
invariant-loop-header l = l.made.items ++ given l.roots (drop l.header-index l.headers) ≡ given l.roots l.headers
