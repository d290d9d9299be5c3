use Rattle.std.proofs.Common.{◌≡◌, bytes_eq, drop, map}
use Rattle.std.specs.List.{list_any}
use Rattle.api_members.proofs.gateway.is_among.Given as goal

abbrev pub invariant-loop-other : goal.invariant-loop-other
invariant-loop-other l = list_any (λ k. bytes_eq k l.name) (map (λ k. k.now) (drop l.other-index l.names)) ≡ list_any (λ k. bytes_eq k l.name) (map (λ k. k.now) l.names)
