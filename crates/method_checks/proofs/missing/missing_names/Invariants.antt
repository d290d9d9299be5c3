use Rattle.std.proofs.Common.{◌≡◌, ℕ, List, ◌++◌, map, drop}
use Rattle.std.specs.Borrow.{Bor}
use Rattle.method_checks.specs.Missing.{missing_names}
use Rattle.method_checks.proofs.missing.missing_names.Given as goal

-- the names so far, and those of the parameters that are left, are those of all
abbrev pub invariant-loop-parameter : goal.invariant-loop-parameter
invariant-loop-parameter l =
    map (λ (name : Bor (List ℕ)). name.now) l.names.items ++ missing_names l.request l.target l.found (drop l.parameter-index l.parameters)
    ≡ missing_names l.request l.target l.found l.parameters
