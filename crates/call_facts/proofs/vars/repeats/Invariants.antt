use Rattle.std.proofs.Common.{◌≡◌, drop}
use Rattle.call_facts.specs.Pairs.{each_once}
use Rattle.call_facts.proofs.vars.repeats.Given as goal

-- where no name of the rest stands twice, none does
abbrev pub invariant-loop-i : goal.invariant-loop-i
invariant-loop-i l = each_once (drop l.i l.pairs) ≡ drop l.i l.pairs → each_once l.pairs ≡ l.pairs
