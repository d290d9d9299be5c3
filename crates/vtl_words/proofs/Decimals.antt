-- The numbers that digits mean.
use Rattle.std.proofs.Common.{ℕ, ◌+◌, ◌-◌, ◌*◌, ◌≤◌, List, [], ◌∷◌, arith}
use Rattle.vtl_grammar.specs.Numbers.{decimal}

-- further digits make no number less
pub decimal_least : (n : ℕ) (ds : List ℕ) → n ≤ decimal n ds
decimal_least n [] = omega arith
decimal_least n (d ∷ ds) = omega (arith, decimal_least (10 * n + (d - 48)) ds)
