-- What a request for a method fails by, before it is integrated.
use Rattle.std.specs.Prelude.{ℕ, Bool, true, false, not, List, [], ◌∷◌, codes, slice_get, Option, Some, None, Result, Ok, Err}
use Rattle.std.specs.Option.{option_map, unwrap_or}
use Rattle.json_subset.specs.Reading.{json}
use Rattle.json_subset.specs.Tree.{Tree}
use Rattle.json_subset.specs.declared.fault.JsonFault.{JsonFault}
use Rattle.schema_rules.specs.Rules.{Schemas}
use Rattle.schema_rules.specs.Verdict.{is_valid, verdict}
use Rattle.resource_tree.specs.declared.found.Found.{Found}
use Rattle.call_facts.specs.Kinds.{kind_message}
use Rattle.call_facts.specs.declared.kind.Kind.{Kind}
use Rattle.call_facts.specs.declared.kind.Kind.TheVariants.{BadRequestParameters, BadRequestBody}
use Rattle.call_facts.specs.declared.request.Request.{Request}
use Rattle.call_facts.specs.declared.target.Target.{Target}
use Rattle.api_model.specs.Definition.{Definition, parts_of}
use Rattle.api_model.specs.Getters.{model_of, or_second, validator_of}
use Rattle.api_parts.specs.declared.parts.Method.{Method}
use Rattle.api_parts.specs.declared.parts.Parameter.{Parameter}
use Rattle.api_parts.specs.declared.parts.Validator.{Validator}
use Rattle.media_types.specs.MediaTypes.{media_type}
use Rattle.method_checks.specs.Messages.{missing_message}
use Rattle.method_checks.specs.Missing.{missing_names}

-- the kind of the gateway response, and its message; none where nothing fails
abbrev pub Failed : Type 0
Failed = Option (Kind × List ℕ)

-- the bytes are a document, and it is valid by the model
abbrev pub accepts : Schemas × ℕ → Result Tree JsonFault → Bool
accepts model (Ok tree) = is_valid (verdict model.0 tree model.1)
accepts model (Err fault) = false

-- of a model that stands, it must be
abbrev pub refuses : Option (Schemas × ℕ) → List ℕ → Bool
refuses None body = false
refuses (Some model) body = not (accepts model (json body))

-- the model of a method under just this name
abbrev pub model_under : Definition → ℕ → List ℕ → Option (Schemas × ℕ)
model_under d n name = option_map (λ (m : List ℕ × (Schemas × ℕ)). m.1) (model_of d n name)

-- the model of the media type, else that of `$default`
abbrev pub model_for : Definition → ℕ → List ℕ → Option (Schemas × ℕ)
model_for d n media = or_second (model_under d n media) (model_under d n (codes "$default"))

-- the parameters of a method
abbrev pub parameters_of : Definition → ℕ → List Parameter
parameters_of d n = unwrap_or (option_map (λ (m : Method). m.parameters) (slice_get (parts_of d).methods n)) []

-- all that are missing are named
abbrev pub failed_by_names : List (List ℕ) → Failed
failed_by_names [] = None
failed_by_names (name ∷ names) = Some (BadRequestParameters, missing_message (name ∷ names))

abbrev pub failed_parameters : Bool → Request → Target → Found → List Parameter → Failed
failed_parameters false request target found ps = None
failed_parameters true request target found ps = failed_by_names (missing_names request target found ps)

abbrev pub failed_if : Bool → Failed
failed_if false = None
failed_if true = Some (BadRequestBody, kind_message BadRequestBody)

abbrev pub failed_body : Bool → Definition → ℕ → Request → Failed
failed_body false d n request = None
failed_body true d n request = failed_if (refuses (model_for d n (media_type request.headers)) request.body)

-- the parameters are checked before the body, both where the validator says so
abbrev pub failed_by : Option Validator → Definition → ℕ → Request → Target → Found → Failed
failed_by None d n request target found = None
failed_by (Some v) d n request target found = or_second (failed_parameters v.parameters request target found (parameters_of d n)) (failed_body v.body d n request)

-- what a request for the method of this number fails by; without a validator nothing is checked
unfoldable pub failed_check : Definition → ℕ → Request → Target → Found → Failed
failed_check d n request target found = failed_by (option_map (λ (v : List ℕ × Validator). v.1) (validator_of d n)) d n request target found
