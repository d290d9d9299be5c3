use Rattle.std.proofs.Common.{◌≡◌, ℕ, List, ◌++◌, map, take, string_bytes}
use Rattle.std.specs.Prelude.{codes}
use Rattle.std.specs.Borrow.{Bor}
use Rattle.std.specs.List.{flat_map}
use Rattle.method_checks.proofs.messages.list.Given as goal

-- the first name, and behind it those so far, each behind a comma
abbrev pub invariant-loop-name : goal.invariant-loop-name
invariant-loop-name l = string_bytes l.text ≡ string_bytes l.initial.text ++ flat_map (λ name. codes ", " ++ name) (map (λ (name : Bor (List ℕ)). name.now) (take l.name-index l.others))
