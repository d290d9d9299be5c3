-- Names and values: header fields, parameters, variables.
use Rattle.std.specs.Prelude.{ℕ, List, [], ◌∷◌, fold, Option, Some, None, if◌then◌else◌}
use Rattle.std.specs.Str.{bytes_eq}
use Rattle.gw_base.specs.Lists.{last_of_each}
use Rattle.gw_base.specs.Names.{same_name}
use Rattle.call_facts.specs.declared.vars.Vars.{Vars}

abbrev pub Pairs : Type 0
Pairs = List (List ℕ × List ℕ)

-- the value of the first pair of this name
abbrev pub first_value : Pairs → List ℕ → Option (List ℕ)
first_value [] x = None
first_value (p ∷ ps) x = if bytes_eq p.0 x then Some p.1 else first_value ps x

-- the value of the last pair of this name
abbrev pub last_value : Pairs → List ℕ → Option (List ℕ)
last_value ps x = fold (λ found p. if bytes_eq p.0 x then Some p.1 else found) None ps

-- the value of the first header field of this name
abbrev pub header_value : Pairs → List ℕ → Option (List ℕ)
header_value [] x = None
header_value (p ∷ ps) x = if same_name p.0 x then Some p.1 else header_value ps x

-- each name once: of a repeated name the earlier pairs go, and the last keeps its place
abbrev pub each_once : Pairs → Pairs
each_once ps = last_of_each (λ p q. bytes_eq q.0 p.0) ps

-- the same of the variables of a stage
abbrev pub once : Vars → Vars
once variables = record { pairs = each_once variables.pairs }
