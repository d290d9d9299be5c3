-- A validator: `body` and `parameters`, booleans, false by default.
use Rattle.std.specs.Prelude.{List, [], ◌∷◌, ◌++◌, codes, bytes_eq, if◌then◌else◌, Ok, false}
use Rattle.json_subset.specs.Tree.{Tree}
use Rattle.api_parts.specs.Reading.{Text, Read, ◌>>=◌, each, unknown}
use Rattle.api_parts.specs.declared.parts.Validator.{Validator}
use Rattle.gw_base.specs.Names.{is_name}
use Rattle.api_reading.specs.Values.{flag_in, object_in}

abbrev pub validator_member : Validator → Text → Tree → Read Validator
validator_member v x t =
    if bytes_eq x (codes "body") then (flag_in x t >>= λ b. Ok (record v { body = b }))
    else if bytes_eq x (codes "parameters") then (flag_in x t >>= λ b. Ok (record v { parameters = b }))
    else unknown x

abbrev pub validator_in : Text → Tree → Read Validator
validator_in name t = object_in name t >>= each validator_member record { body = false; parameters = false }

-- the validators by their names
abbrev pub validators_member : List (Text × Validator) → Text → Tree → Read (List (Text × Validator))
validators_member vs x t = if is_name x then (validator_in x t >>= λ v. Ok (vs ++ (x, v) ∷ [])) else unknown x

abbrev pub validators_in : Text → Tree → Read (List (Text × Validator))
validators_in name t = object_in name t >>= each validators_member []
