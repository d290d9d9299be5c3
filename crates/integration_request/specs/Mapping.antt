-- What is mapped into a request (API Gateway Developer Guide, "Set up request and response data mappings").
use Rattle.std.specs.Prelude.{ℕ, Bool, true, false, List, Option, None, if◌then◌else◌}
use Rattle.std.specs.List.{filter_map}
use Rattle.api_parts.specs.declared.parts.Mapping.{Mapping}
use Rattle.api_parts.specs.declared.parts.ParameterPlace.{ParameterPlace}
use Rattle.api_parts.specs.declared.parts.ParameterPlace.TheVariants.{Path, Query, Header}
use Rattle.call_facts.specs.Pairs.{Pairs}
use Rattle.gateway_vars.specs.Held.{Held}
use Rattle.gw_base.specs.Names.{lower}
use Rattle.integration_flow.specs.Headers.{with_value}
use Rattle.integration_request.specs.PathValues.{path_value}
use Rattle.integration_request.specs.Values.{value_of}
use Rattle.integration_request.specs.declared.mapping.Mapped.{Mapped}
use Rattle.wire_text.specs.declared.places.PathValue.{PathValue}

-- the places are the same
unfoldable pub is_onto : ParameterPlace → ParameterPlace → Bool
is_onto Path Path = true
is_onto Query Query = true
is_onto Header Header = true
is_onto place other = false

-- the name under which a value is written: that of a header in lower case
abbrev pub name_onto : ParameterPlace → List ℕ → List ℕ
name_onto Path x = x
name_onto Query x = x
name_onto Header x = lower x

-- a pair that is mapped onto a place, where its source has a value
abbrev pub mapped_pair : ParameterPlace → Held → Mapping → Option (List ℕ × List ℕ)
mapped_pair place held m = if is_onto place m.place then with_value (name_onto place m.name) (value_of held m.origin) else None

-- all of them, in the order of the definition
abbrev pub mapped_pairs : ParameterPlace → Held → List Mapping → Pairs
mapped_pairs place held ms = filter_map (mapped_pair place held) ms

abbrev pub mapped_value : List ℕ → Held → Mapping → Option PathValue
mapped_value resource held m = if is_onto Path m.place then path_value resource m (value_of held m.origin) else None

abbrev pub mapped_values : List ℕ → Held → List Mapping → List PathValue
mapped_values resource held ms = filter_map (mapped_value resource held) ms

-- what the mappings of a method of the resource of this path give
abbrev pub mapped : List ℕ → Held → List Mapping → Mapped
mapped resource held ms = record { headers = mapped_pairs Header held ms; query = mapped_pairs Query held ms; path = mapped_values resource held ms }
