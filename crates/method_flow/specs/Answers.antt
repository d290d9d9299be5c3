-- Answers, and their causes.
use Rattle.std.specs.Prelude.{ℕ, List, [], ◌∷◌, ◌++◌, codes, Some, None, Result, Ok, Err}
use Rattle.call_facts.specs.Kinds.{kind_name, kind_status, kind_message}
use Rattle.call_facts.specs.declared.answer.Answer.{Answer}
use Rattle.call_facts.specs.declared.facts.CallFacts.{CallFacts}
use Rattle.call_facts.specs.declared.kind.Kind.{Kind}
use Rattle.call_facts.specs.declared.kind.Kind.TheVariants.{ApiConfigurationError}
use Rattle.call_facts.specs.declared.request.Request.{Request}
use Rattle.call_facts.specs.declared.target.Target.{Target}
use Rattle.gateway_vars.specs.Held.{asked}
use Rattle.gateway_vars.specs.Meanings.{meanings_of}
use Rattle.gateway_vars.specs.declared.slots.Side.TheVariants as sides
use Rattle.method_flow.specs.declared.answers.Made.{Made}
use Rattle.resource_tree.specs.declared.found.Found.{Found}
use Rattle.vtl_eval.specs.Meaning.{rendering}
use Rattle.vtl_eval.specs.Roots.{Kept, Meanings}
use Rattle.vtl_eval.specs.declared.stop.Rendered.{Rendered}
use Rattle.vtl_eval.specs.declared.stop.Stop.{Stop}
use Rattle.vtl_grammar.specs.Expanded.{expanded}
use Rattle.vtl_grammar.specs.Tree.{Items}

-- the body of a gateway response
unfoldable pub message_body : Kind → List ℕ
message_body kind = codes "{\"message\":\"" ++ kind_message kind ++ codes "\"}"

-- a gateway response tells its one cause
unfoldable pub gateway_answer : Kind → Answer
gateway_answer kind = record {
  status = kind_status kind;
  headers = (codes "content-type", codes "application/json") ∷ (codes "x-gateway-cause", kind_name kind) ∷ [];
  body = message_body kind;
}

abbrev pub gateway_made : Kind → Made
gateway_made kind = record { answer = gateway_answer kind; cause = Some kind }

-- the answer of a text API
unfoldable pub text_answer : List ℕ → Answer
text_answer text = record { status = 200; headers = (codes "content-type", codes "text/plain") ∷ []; body = text }

-- a text API has no resources, so nothing is found of a path
abbrev pub nothing_found : Found
nothing_found = record { resource = 0; params = [] }

-- what the references of a template mean, of such a request and call
abbrev pub meanings_at : Request → Target → CallFacts → Meanings
meanings_at request target facts = meanings_of sides.Request (asked request target nothing_found facts)

-- the most evaluated nodes of a render
unfoldable pub budget : ℕ
budget = 1000000

-- what was written besides is let go
abbrev pub without_writes : Result (Rendered × Kept) (Stop × Kept) → Result Rendered Stop
without_writes (Ok made) = Ok made.0
without_writes (Err met) = Err met.0

-- the text of a template over such a request and call, or the limit that is met first
abbrev pub text_over : Request → Target → CallFacts → Items → Result Rendered Stop
text_over request target facts items = without_writes (rendering budget (meanings_at request target facts) (expanded items) [])

-- the text that was rendered, or where the render stops, that the API is configured badly
abbrev pub text_made : Result Rendered Stop → Made
text_made (Ok rendered) = record { answer = text_answer rendered.text; cause = None }
text_made (Err stop) = gateway_made ApiConfigurationError
