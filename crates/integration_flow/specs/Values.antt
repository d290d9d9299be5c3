-- The values of the sources of a rule's mappings.
use Rattle.std.specs.Prelude.{ℕ, List, [], ◌∷◌, Option, Some, None}
use Rattle.api_parts.specs.declared.parts.Origin.{Origin}
use Rattle.api_parts.specs.declared.parts.Origin.TheVariants as origins
use Rattle.call_facts.specs.Pairs.{header_value}
use Rattle.call_facts.specs.declared.request.WireReply.{WireReply}
use Rattle.gateway_answers.specs.Values.{dotted, text_unless_null}
use Rattle.gateway_vars.specs.Held.{Held, root}
use Rattle.integration_flow.specs.Bodies.{text_at}
use Rattle.vtl_eval.specs.Roots.{name}
use Rattle.vtl_eval.specs.declared.roots.Root.TheVariants as roots

-- What a source is worth where a backend replied so: `context.X` and `stageVariables.N` have the values that the rule's template
-- would see. A response rule has no source that names the request's parameters.
abbrev pub value_of : Held → WireReply → Origin → Option (List ℕ)
value_of held reply (origins.Static t) = Some t
value_of held reply (origins.ReplyHeader x) = header_value reply.headers x
value_of held reply (origins.Body path) = text_at reply.body path
value_of held reply (origins.Context x) = text_unless_null (root held roots.Context (dotted x))
value_of held reply (origins.StageVariable x) = text_unless_null (root held roots.StageVariables (name x ∷ []))
value_of held reply (origins.Parameter place x) = None
