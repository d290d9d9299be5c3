-- Which response rule a status selects (API Gateway Developer Guide, "Integration response").
use Rattle.std.specs.Prelude.{ℕ, Bool, false, List, [], Option, Some, None, is_none, slice_get}
use Rattle.std.specs.List.{find}
use Rattle.std.specs.Option.{option_map}
use Rattle.api_model.specs.Definition.{Definition, parts_of}
use Rattle.api_model.specs.Getters.{or_second}
use Rattle.api_parts.specs.declared.parts.Integration.{Integration}
use Rattle.api_parts.specs.declared.parts.ResponseRule.{ResponseRule}
use Rattle.status_table.specs.Statuses.{takes}

-- a pattern matches the whole text of the status
abbrev pub matches : Option (List ℕ) → ℕ → Bool
matches None status = false
matches (Some pattern) status = takes pattern status

abbrev pub is_for : ℕ → ResponseRule → Bool
is_for status rule = matches rule.pattern status

-- the rule for all statuses that no pattern takes
abbrev pub is_default : ResponseRule → Bool
is_default rule = is_none rule.pattern

-- the first rule whose pattern takes the status, else the first that has none
unfoldable pub chosen : List ResponseRule → ℕ → Option ResponseRule
chosen rules status = or_second (find (is_for status) rules) (find is_default rules)

abbrev pub responses_in : Option Integration → List ResponseRule
responses_in None = []
responses_in (Some integration) = integration.responses

-- the response rules of a method
abbrev pub rules_of : Definition → ℕ → List ResponseRule
rules_of d n = responses_in (option_map (λ m. m.integration) (slice_get (parts_of d).methods n))
