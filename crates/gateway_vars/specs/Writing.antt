-- Which paths below $context may be written, and what they write over.
use Rattle.std.specs.Prelude.{ℕ, ◌==◌, List, [], ◌∷◌, length, Option, Some, None, if◌then◌else◌, codes}
use Rattle.std.specs.Option.{option_map}
use Rattle.std.specs.Str.{bytes_eq}
use Rattle.gw_base.specs.Names.{lower}
use Rattle.gateway_vars.specs.Values.{only}
use Rattle.gateway_vars.specs.declared.slots.Side.{Side}
use Rattle.gateway_vars.specs.declared.slots.Side.TheVariants as sides
use Rattle.gateway_vars.specs.declared.slots.Part.{Part}
use Rattle.gateway_vars.specs.declared.slots.Part.TheVariants as parts

-- AWS: "Use a mapping template to override an API's request and response parameters and status codes"
abbrev pub named : Part → List (List ℕ) → Option (Part × List ℕ)
named part rest = option_map (λ x. (part, x)) (only rest)

-- a status has no name
abbrev pub bare : Part → List (List ℕ) → Option (Part × List ℕ)
bare part rest = if length rest == 0 then Some (part, []) else None

-- requestOverride.header.NAME, .querystring.NAME and .path.NAME, in the template of a request
abbrev pub request_part : List ℕ → List (List ℕ) → Option (Part × List ℕ)
request_part x rest =
    if bytes_eq x (codes "header") then named parts.Header rest
    else if bytes_eq x (codes "querystring") then named parts.Query rest
    else if bytes_eq x (codes "path") then named parts.Path rest
    else None

-- responseOverride.header.NAME and .status, in the template of a response
abbrev pub response_part : List ℕ → List (List ℕ) → Option (Part × List ℕ)
response_part x rest =
    if bytes_eq x (codes "header") then named parts.Header rest
    else if bytes_eq x (codes "status") then bare parts.Status rest
    else None

abbrev pub part_below : Side → List (List ℕ) → Option (Part × List ℕ)
part_below side [] = None
part_below sides.Request (x ∷ rest) = request_part x rest
part_below sides.Response (x ∷ rest) = response_part x rest

abbrev pub group_of : Side → List ℕ
group_of sides.Request = codes "requestOverride"
group_of sides.Response = codes "responseOverride"

-- the part of a message, and the name in it, that a path writes over
unfoldable pub slot_of : Side → List (List ℕ) → Option (Part × List ℕ)
slot_of side [] = None
slot_of side (x ∷ rest) = if bytes_eq x (group_of side) then part_below side rest else None

-- the name under which a write is kept: those of header fields are equal without regard to case (RFC 9110, section 5.1),
-- so they are in lower case
abbrev pub kept_name : Part → List ℕ → List ℕ
kept_name parts.Header x = lower x
kept_name parts.Query x = x
kept_name parts.Path x = x
kept_name parts.Status x = x

-- the path of a part and a name
abbrev pub path_at : Side → Part → List ℕ → List (List ℕ)
path_at side parts.Header x = group_of side ∷ codes "header" ∷ x ∷ []
path_at side parts.Query x = group_of side ∷ codes "querystring" ∷ x ∷ []
path_at side parts.Path x = group_of side ∷ codes "path" ∷ x ∷ []
path_at side parts.Status x = group_of side ∷ codes "status" ∷ []

-- the part and the name that a path writes over, as a write to it is kept
abbrev pub kept_slot : Side → List (List ℕ) → Option (Part × List ℕ)
kept_slot side path = option_map (λ slot. (slot.0, kept_name slot.0 slot.1)) (slot_of side path)

-- the path under which a write is kept, where it may be written
abbrev pub kept_at : Side → List (List ℕ) → Option (List (List ℕ))
kept_at side path = option_map (λ slot. path_at side slot.0 slot.1) (kept_slot side path)
