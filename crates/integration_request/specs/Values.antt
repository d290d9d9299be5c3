-- The values of the sources of a request's mappings (API Gateway Developer Guide, "Parameter mapping source examples").
use Rattle.std.specs.Prelude.{ℕ, List, [], ◌∷◌, Option, Some, None}
use Rattle.api_parts.specs.declared.parts.Origin.{Origin}
use Rattle.api_parts.specs.declared.parts.Origin.TheVariants as origins
use Rattle.api_parts.specs.declared.parts.ParameterPlace.{ParameterPlace}
use Rattle.api_parts.specs.declared.parts.ParameterPlace.TheVariants.{Path, Query, Header}
use Rattle.call_facts.specs.Pairs.{first_value, header_value}
use Rattle.gateway_answers.specs.Values.{dotted, text_unless_null}
use Rattle.gateway_vars.specs.Held.{Held, root}
use Rattle.gateway_vars.specs.Input.{Params}
use Rattle.integration_flow.specs.Bodies.{text_at}
use Rattle.vtl_eval.specs.Roots.{name}
use Rattle.vtl_eval.specs.declared.roots.Root.TheVariants as roots

-- a parameter of a request: of its path, the first of its query, or the first header without regard to case
abbrev pub parameter_of : Params → ParameterPlace → List ℕ → Option (List ℕ)
parameter_of params Path x = first_value params.path x
parameter_of params Query x = first_value params.query x
parameter_of params Header x = header_value params.header x

-- What a source is worth in a request: `context.X` and `stageVariables.N` have the values that the request's template would see.
-- No reply is there yet.
abbrev pub value_of : Held → Origin → Option (List ℕ)
value_of held (origins.Static t) = Some t
value_of held (origins.Parameter place x) = parameter_of held.params place x
value_of held (origins.Body path) = text_at held.body path
value_of held (origins.Context x) = text_unless_null (root held roots.Context (dotted x))
value_of held (origins.StageVariable x) = text_unless_null (root held roots.StageVariables (name x ∷ []))
value_of held (origins.ReplyHeader x) = None
