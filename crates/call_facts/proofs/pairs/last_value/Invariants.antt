use Rattle.std.proofs.Common.{◌≡◌, take}
use Rattle.std.specs.Option.{option_map}
use Rattle.call_facts.specs.Pairs.{last_value}
use Rattle.call_facts.proofs.pairs.last_value.Given as goal

abbrev pub invariant-loop-pair : goal.invariant-loop-pair
invariant-loop-pair l = option_map (λ v. v.now) l.found ≡ last_value (take l.pair-index l.pairs) l.name
