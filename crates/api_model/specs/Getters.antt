-- What the getters give of the parts of a definition.
use Rattle.std.specs.Prelude.{ℕ, Bool, List, codes, Option, Some, None, slice_get}
use Rattle.std.specs.Option.{option_map}
use Rattle.schema_rules.specs.Rules.{Schemas}
use Rattle.resource_tree.specs.Parameters.{value_at}
use Rattle.api_parts.specs.Reading.{Text}
use Rattle.api_parts.specs.declared.parts.GatewayRule.{GatewayRule}
use Rattle.api_parts.specs.declared.parts.Method.{Method}
use Rattle.api_parts.specs.declared.parts.Resource.{Resource}
use Rattle.api_parts.specs.declared.parts.TokenAuthorizer.{TokenAuthorizer}
use Rattle.api_parts.specs.declared.parts.Validator.{Validator}
use Rattle.api_model.specs.Definition.{Definition, parts_of}

-- the first, and where it is none, the second
abbrev pub or_second : {A : Type 0} → Option A → Option A → Option A
or_second (Some x) o = Some x
or_second None o = o

-- the method of a verb, else of ANY
abbrev pub entry_of : List (Text × ℕ) → Text → Option ℕ
entry_of verbs verb = or_second (value_at verbs verb) (value_at verbs (codes "ANY"))

-- what is named by its number
abbrev pub numbered : {A : Type 0} → List A → Option ℕ → Option A
numbered xs None = None
numbered xs (Some n) = slice_get xs n

-- what a method gives, where it stands
abbrev pub of_method : {A : Type 0} → Option Method → (Method → Option A) → Option A
of_method None f = None
of_method (Some m) f = f m

-- the compiled pattern of an authorizer
abbrev pub whole_of : Option TokenAuthorizer → Option Text
whole_of None = None
whole_of (Some a) = a.whole

-- the authorizer of the method of this number
abbrev pub authorizer_of : Definition → ℕ → Option TokenAuthorizer
authorizer_of d n = of_method (slice_get (parts_of d).methods n) (λ m. numbered (parts_of d).authorizers m.authorizer)

-- its validator, with the name that this has
abbrev pub validator_of : Definition → ℕ → Option (Text × Validator)
validator_of d n = of_method (slice_get (parts_of d).methods n) (λ m. numbered (parts_of d).validators m.validator)

-- and its model for a media type, with the name that this has
abbrev pub model_of : Definition → ℕ → Text → Option (Text × (Schemas × ℕ))
model_of d n media = of_method (slice_get (parts_of d).methods n) (λ m. numbered (parts_of d).models (value_at m.models media))
