-- What a definition names is there.
use Rattle.std.specs.Prelude.{◌≡◌, ℕ, ◌<◌, List, length, codes, Option, Some, None, Result, Ok, Err, IsSomeAnd, if◌then◌else◌, slice_get}
use Rattle.std.specs.List.{All}
use Rattle.std.specs.Option.{option_and_then, option_map}
use Rattle.json_subset.specs.Reading.{json}
use Rattle.json_subset.specs.Tree.{Tree}
use Rattle.json_subset.specs.declared.fault.JsonFault.{JsonFault}
use Rattle.api_parts.specs.Reading.{Text}
use Rattle.api_members.specs.Authorizers.{IsCompiled, authorizer_name}
use Rattle.api_resources.specs.Named.{methods_in, model_under, name_under}
use Rattle.api_model.specs.Definition.{Definition, parts_of}
use Rattle.api_model.specs.Getters.{authorizer_of, model_of, validator_of}

abbrev pub tree_of : Result Tree JsonFault → Option Tree
tree_of (Ok t) = Some t
tree_of (Err fault) = None

-- the document that a definition is
abbrev pub document_of : Definition → Option Tree
document_of d = if d.is_text then None else tree_of (json d.source)

abbrev pub method_at : ℕ → Tree → Option Tree
method_at n t = option_map (λ m. m.1) (slice_get (methods_in t) n)

-- what the document has as the method of this number
unfoldable pub method_value : Definition → ℕ → Option Tree
method_value d n = option_and_then (method_at n) (document_of d)

-- the names that it gives: of its authorizer, of its validator, and of its model for a media type
abbrev pub authorizer_under : Definition → ℕ → Option Text
authorizer_under d n = option_and_then (name_under (codes "authorizer")) (method_value d n)

abbrev pub validator_under : Definition → ℕ → Option Text
validator_under d n = option_and_then (name_under (codes "validator")) (method_value d n)

abbrev pub model_named : Definition → ℕ → Text → Option Text
model_named d n media = option_and_then (model_under media) (method_value d n)

-- What is found has the name that is given; where none is given, nothing is found.
abbrev pub IsNamed : {A : Type 0} → (A → Text) → Option Text → Option A → Type 0
IsNamed name_of None found = found ≡ None
IsNamed name_of (Some name) found = IsSomeAnd found (λ v. name_of v ≡ name)

-- so it is with all that a method names
pub record FindsNamed (d : Definition) (n : ℕ) : Type 0 where
  pub authorizer : IsNamed authorizer_name (authorizer_under d n) (authorizer_of d n)
  pub validator : IsNamed (λ v. v.0) (validator_under d n) (validator_of d n)
  pub model : (media : Text) → IsNamed (λ m. m.0) (model_named d n media) (model_of d n media)

abbrev pub AlwaysFindsNamed : Type 0
AlwaysFindsNamed = (d : Definition) (n : ℕ) → n < length (parts_of d).methods → FindsNamed d n

-- and each authorizer has its pattern for whole tokens, where it has one
abbrev pub AlwaysCompiled : Type 0
AlwaysCompiled = (d : Definition) → All IsCompiled (parts_of d).authorizers
