use Rattle.std.proofs.Common.{◌≡◌, ◌++◌, drop}
use Rattle.std.specs.Prelude.{if◌then◌else◌}
use Rattle.integration_flow.specs.Headers.{replaced, without}
use Rattle.integration_flow.proofs.headers.replaced.Given as goal

-- what stands so far, and what the headers that are left come to, is what all of them come to
abbrev pub invariant-loop-header : goal.invariant-loop-header
invariant-loop-header l = l.made.items ++ (if l.stands then without (drop l.header-index l.headers) l.over.0 else replaced (drop l.header-index l.headers) l.over) ≡ replaced l.headers l.over
