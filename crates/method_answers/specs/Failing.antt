-- The gateway's own answers under an API that is a document.
use Rattle.std.specs.Prelude.{Some}
use Rattle.api_model.specs.Definition.{Definition}
use Rattle.call_facts.specs.Kinds.{kind_message}
use Rattle.call_facts.specs.declared.facts.CallFacts.{CallFacts}
use Rattle.call_facts.specs.declared.kind.Kind.{Kind}
use Rattle.gateway_answers.specs.Answers.{failed_made}
use Rattle.method_flow.specs.declared.answers.Made.{Made}

-- the gateway's own answer of a kind with its own message
abbrev pub failed_by : Kind → Definition → CallFacts → Made
failed_by kind d f = failed_made kind (kind_message kind) (Some d) f
