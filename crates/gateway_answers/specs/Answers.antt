-- Gateway responses: the answers that the gateway makes itself.
use Rattle.std.specs.Prelude.{ℕ, nat_lt, List, [], ◌∷◌, ◌++◌, codes, Option, Some, None, Result, Ok, Err, if◌then◌else◌}
use Rattle.std.specs.Option.{unwrap_or}
use Rattle.api_model.specs.Definition.{Definition, parts_of}
use Rattle.api_model.specs.Getters.{or_second}
use Rattle.api_parts.specs.declared.parts.GatewayRule.{GatewayRule}
use Rattle.api_parts.specs.declared.parts.Origin.{Origin}
use Rattle.call_facts.specs.Kinds.{kind_name, kind_status}
use Rattle.call_facts.specs.declared.answer.Answer.{Answer}
use Rattle.call_facts.specs.declared.facts.CallFacts.{CallFacts}
use Rattle.call_facts.specs.declared.kind.Kind.{Kind}
use Rattle.gateway_answers.specs.Headers.{given, headers_of}
use Rattle.gateway_vars.specs.Escapes.{json_string}
use Rattle.gateway_vars.specs.Held.{Failed}
use Rattle.gateway_vars.specs.Meanings.{failure_meanings}
use Rattle.method_flow.specs.Answers.{budget, without_writes}
use Rattle.method_flow.specs.declared.answers.Made.{Made}
use Rattle.resource_tree.specs.Parameters.{value_at}
use Rattle.vtl_eval.specs.Meaning.{rendering}
use Rattle.vtl_eval.specs.declared.stop.Rendered.{Rendered}
use Rattle.vtl_eval.specs.declared.stop.Stop.{Stop}
use Rattle.vtl_grammar.specs.Expanded.{expanded}
use Rattle.vtl_grammar.specs.Templates.{tree_of}

-- `{"message":` and the message as a JSON string
unfoldable pub default_body : List ℕ → List ℕ
default_body message = codes "{\"message\":" ++ json_string message ++ codes "}"

-- the rule for all kinds whose status is below 500, and that for all others
abbrev pub class_name : Kind → List ℕ
class_name kind = if nat_lt (kind_status kind) 500 then codes "DEFAULT_4XX" else codes "DEFAULT_5XX"

abbrev pub rule_named : Definition → List ℕ → Option GatewayRule
rule_named d x = value_at (parts_of d).gateway x

-- the rule of a kind, and where it has none, that of its class; where no API is known there is none
abbrev pub rule_for : Option Definition → Kind → Option GatewayRule
rule_for None kind = None
rule_for (Some d) kind = or_second (rule_named d (kind_name kind)) (rule_named d (class_name kind))

-- what a rule lacks is as if there were no rule
abbrev pub status_by : Option GatewayRule → Kind → ℕ
status_by None kind = kind_status kind
status_by (Some rule) kind = unwrap_or rule.status (kind_status kind)

abbrev pub headers_in : Option GatewayRule → List (List ℕ × Origin)
headers_in None = []
headers_in (Some rule) = rule.headers

abbrev pub template_in : Option GatewayRule → Option (List ℕ)
template_in None = None
template_in (Some rule) = rule.template

-- the text of a template in a gateway response, or the limit that it meets first
abbrev pub failure_text : Failed → List ℕ → Result Rendered Stop
failure_text failed template = without_writes (rendering budget (failure_meanings failed) (expanded (tree_of template)) [])

-- a template that stops gives the body of no template
abbrev pub body_of : List ℕ → Result Rendered Stop → List ℕ
body_of message (Ok rendered) = rendered.text
body_of message (Err stop) = default_body message

abbrev pub body_by : Failed → Option (List ℕ) → List ℕ
body_by failed None = default_body failed.message
body_by failed (Some template) = body_of failed.message (failure_text failed template)

abbrev pub answer_by : Option GatewayRule → Failed → Answer
answer_by rule failed = record {
  status = status_by rule failed.kind;
  headers = headers_of failed.kind (given failed (headers_in rule));
  body = body_by failed (template_in rule);
}

-- the gateway response of a kind with a message, by the rules of the API that is called
unfoldable pub gateway_answer : Kind → List ℕ → Option Definition → CallFacts → Answer
gateway_answer kind message d facts = answer_by (rule_for d kind) (record { kind = kind; message = message; facts = facts })

-- the same with its cause
abbrev pub failed_made : Kind → List ℕ → Option Definition → CallFacts → Made
failed_made kind message d facts = record { answer = gateway_answer kind message d facts; cause = Some kind }
