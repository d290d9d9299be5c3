use Rattle.std.proofs.Common.{◌≡◌, drop, map}
use Rattle.wire_text.specs.Passing.{is_among}
use Rattle.wire_text.proofs.passing.is_among.Given as goal

-- a name that is among those that are left is among all
abbrev pub invariant-loop-other : goal.invariant-loop-other
invariant-loop-other l = is_among (map (λ n. n.now) (drop l.other-index l.names)) l.name ≡ is_among (map (λ n. n.now) l.names) l.name
