use Rattle.std.proofs.Common.{◌≡◌, ℕ, List, map, take}
use Rattle.std.specs.Borrow.{Bor}
use Rattle.method_checks.specs.Segments.{decoded}
use Rattle.method_checks.proofs.segments.decode_all.Given as goal

-- the segments of the parts so far
abbrev pub invariant-loop-part : goal.invariant-loop-part
invariant-loop-part l = l.segments.items ≡ map decoded (map (λ (part : Bor (List ℕ)). part.now) (take l.part-index l.parts))
