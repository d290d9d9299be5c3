use Rattle.std.proofs.Common.{◌≡◌, drop}
use Rattle.call_facts.specs.Pairs.{header_value}
use Rattle.call_facts.proofs.pairs.header_value.Given as goal

abbrev pub invariant-loop-header : goal.invariant-loop-header
invariant-loop-header l = header_value l.headers l.name ≡ header_value (drop l.header-index l.headers) l.name
