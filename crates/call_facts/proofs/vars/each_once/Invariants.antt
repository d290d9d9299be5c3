use Rattle.std.proofs.Common.{◌≡◌, ◌++◌, drop}
use Rattle.call_facts.specs.Pairs.{each_once}
use Rattle.call_facts.proofs.vars.each_once.Given as goal

-- what is made so far, and what the rest leaves, are what all leave
abbrev pub invariant-loop-i : goal.invariant-loop-i
invariant-loop-i l = l.made.items ++ each_once (drop l.i l.pairs) ≡ each_once l.pairs
