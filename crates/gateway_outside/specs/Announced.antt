-- The line that says where the gateway listens.
use Rattle.std.specs.Prelude.{ℕ, List, ◌++◌, codes}
use Rattle.std.specs.Fmt.{decimal}

-- at this port of the loopback, with so many lanes
unfoldable pub listening : ℕ → ℕ → List ℕ
listening port lanes = codes "listening on 127.0.0.1:" ++ (decimal port ++ (codes " with " ++ (decimal lanes ++ codes " lanes\n")))
