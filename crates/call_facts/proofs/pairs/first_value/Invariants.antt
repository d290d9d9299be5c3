use Rattle.std.proofs.Common.{◌≡◌, drop}
use Rattle.call_facts.specs.Pairs.{first_value}
use Rattle.call_facts.proofs.pairs.first_value.Given as goal

abbrev pub invariant-loop-pair : goal.invariant-loop-pair
invariant-loop-pair l = first_value l.pairs l.name ≡ first_value (drop l.pair-index l.pairs) l.name
