-- What the outcome of an exchange with a backend is answered (API Gateway Developer Guide, "Integration response", and "Gateway
-- response types": INTEGRATION_FAILURE, INTEGRATION_TIMEOUT).
use Rattle.std.specs.Prelude.{Bool, true, false, Option, Some, None, Ok, Err}
use Rattle.api_parts.specs.declared.parts.ResponseRule.{ResponseRule}
use Rattle.backend_core.specs.declared.outcome.Outcome.{Outcome}
use Rattle.backend_core.specs.declared.outcome.Outcome.TheVariants as outcomes
use Rattle.call_facts.specs.declared.answer.Answer.{Answer}
use Rattle.call_facts.specs.declared.kind.Kind.{Kind}
use Rattle.call_facts.specs.declared.kind.Kind.TheVariants.{ApiConfigurationError, IntegrationFailure, IntegrationTimeout, UnsupportedMediaType}
use Rattle.call_facts.specs.declared.request.WireReply.{WireReply}
use Rattle.integration_flow.specs.Answers.{client_of}
use Rattle.integration_flow.specs.Choosing.{chosen, rules_of}
use Rattle.integration_flow.specs.Stopping.{Flow}
use Rattle.integration_flow.specs.declared.stops.FlowStop.{FlowStop}
use Rattle.integration_flow.specs.declared.stops.FlowStop.TheVariants.{Media, Config, Memory}
use Rattle.method_answers.specs.Calls.{Call}
use Rattle.method_answers.specs.Failing.{failed_by}
use Rattle.method_flow.specs.declared.answers.Made.{Made}
use Rattle.wire_text.specs.Passing.{proxied}

-- the kind that tells why an integration gives no answer. Want of memory has none: it comes to no answer at all
abbrev pub kind_of : FlowStop → Kind
kind_of Media = UnsupportedMediaType
kind_of Config = ApiConfigurationError
kind_of Memory = ApiConfigurationError

abbrev pub stopped : Call → FlowStop → Made
stopped c stop = failed_by (kind_of stop) c.definition c.facts

-- an answer of the backend's has no cause of the gateway's
abbrev pub answered_by : Call → Flow Answer → Made
answered_by c (Ok answer) = record { answer = answer; cause = None }
answered_by c (Err stop) = stopped c stop

-- by the response rule that the reply's status selects; where there is none, the API is configured badly
abbrev pub ruled : Call → WireReply → Option ResponseRule → Flow Answer
ruled c reply None = Err Config
ruled c reply (Some rule) = client_of rule c.request c.target c.found c.facts reply

unfoldable pub mapped_made : Call → WireReply → Made
mapped_made c reply = answered_by c (ruled c reply (chosen (rules_of c.definition c.method) reply.status))

abbrev pub proxied_made : WireReply → Made
proxied_made reply = record { answer = proxied reply; cause = None }

-- a reply is passed on, or turned into the answer by a response rule
abbrev pub reply_made : Bool → Call → WireReply → Made
reply_made true c reply = proxied_made reply
reply_made false c reply = mapped_made c reply

-- a failure and a lapse of time have kinds of their own. An exchange for which memory is wanting has no outcome
abbrev pub outcome_made : Bool → Call → Outcome → Made
outcome_made passes c (outcomes.Reply reply) = reply_made passes c reply
outcome_made passes c outcomes.Failed = failed_by IntegrationFailure c.definition c.facts
outcome_made passes c outcomes.TimedOut = failed_by IntegrationTimeout c.definition c.facts
outcome_made passes c outcomes.Memory = failed_by IntegrationFailure c.definition c.facts
