-- What a client is answered where a backend replied (API Gateway Developer Guide, "Integration response" and "Use a mapping
-- template to override an API's request and response parameters and status codes").
use Rattle.std.specs.Prelude.{ℕ, ◌+◌, ◌*◌, ◌-◌, ◌==◌, nat_le, Bool, true, false, ◌&&◌, List, [], length, get_or, Option, Some, None, Result, Ok, Err, if◌then◌else◌}
use Rattle.std.specs.List.{list_all}
use Rattle.std.specs.Option.{option_map}
use Rattle.api_parts.specs.declared.parts.ResponseRule.{ResponseRule}
use Rattle.call_facts.specs.Pairs.{Pairs}
use Rattle.call_facts.specs.declared.answer.Answer.{Answer}
use Rattle.call_facts.specs.declared.facts.CallFacts.{CallFacts}
use Rattle.call_facts.specs.declared.request.Request.{Request}
use Rattle.call_facts.specs.declared.request.WireReply.{WireReply}
use Rattle.call_facts.specs.declared.target.Target.{Target}
use Rattle.gateway_answers.specs.Headers.{may_be_written}
use Rattle.gateway_vars.specs.Held.{Held, replied}
use Rattle.gateway_vars.specs.Overriding.{nothing}
use Rattle.gateway_vars.specs.declared.changes.Overrides.{Overrides}
use Rattle.gateway_vars.specs.declared.slots.Side.TheVariants as sides
use Rattle.gw_base.specs.Names.{is_digit}
use Rattle.integration_flow.specs.Headers.{mapped, typed, written_over}
use Rattle.integration_flow.specs.Rendering.{rendered}
use Rattle.integration_flow.specs.Stopping.{Flow}
use Rattle.integration_flow.specs.declared.written.Written.{Written}
use Rattle.integration_flow.specs.declared.stops.FlowStop.TheVariants.{Config}
use Rattle.media_types.specs.MediaTypes.{media_type}
use Rattle.resource_tree.specs.Parameters.{value_at}
use Rattle.resource_tree.specs.declared.found.Found.{Found}

-- without a template the reply's body is passed on
abbrev pub written : Held → WireReply → Option (List ℕ) → Flow Written
written held reply None = Ok (record { body = reply.body; overrides = nothing })
written held reply (Some template) = rendered sides.Response held template

-- a status from 200 to 599, of three digits
unfoldable pub status_in : List ℕ → Option ℕ
status_in t =
    if length t == 3 && nat_le 50 (get_or t 0 0) && nat_le (get_or t 0 0) 53 && is_digit (get_or t 1 0) && is_digit (get_or t 2 0)
    then Some (100 * (get_or t 0 0 - 48) + 10 * (get_or t 1 0 - 48) + (get_or t 2 0 - 48)) else None

abbrev pub status_by : Option ℕ → Flow ℕ
status_by None = Err Config
status_by (Some status) = Ok status

-- the rule's status, or the one that is written over it; what is no such status stops the answer
abbrev pub status_over : ℕ → Option (List ℕ) → Flow ℕ
status_over status None = Ok status
status_over status (Some t) = status_by (status_in t)

abbrev pub answer_with : Pairs → List ℕ → Flow ℕ → Flow Answer
answer_with headers body (Err stop) = Err stop
answer_with headers body (Ok status) = Ok (record { status = status; headers = headers; body = body })

-- a mapped or overriding header that may not be written stops the answer
abbrev pub if_writable : Bool → Flow Answer → Flow Answer
if_writable true made = made
if_writable false made = Err Config

abbrev pub are_writable : Pairs → Bool
are_writable hs = list_all may_be_written hs

-- the media type of a reply, where the rule has a template for it
abbrev pub rendered_media : List ℕ → Option (List ℕ) → Option (List ℕ)
rendered_media media template = option_map (λ t. media) template

unfoldable pub answer_from : ℕ → Pairs → Option (List ℕ) → WireReply → Written → Flow Answer
answer_from status hs media reply made =
    if_writable (are_writable hs && are_writable made.overrides.headers)
    (answer_with (written_over (typed hs media reply) made.overrides.headers) made.body (status_over status made.overrides.status))

abbrev pub answer_by : ℕ → Pairs → Option (List ℕ) → WireReply → Flow Written → Flow Answer
answer_by status hs media reply (Err stop) = Err stop
answer_by status hs media reply (Ok made) = answer_from status hs media reply made

unfoldable pub answer_at : ResponseRule → Held → WireReply → List ℕ → Flow Answer
answer_at rule held reply media =
    let template = value_at rule.templates media in
    answer_by rule.status (mapped held reply rule.parameters) (rendered_media media template) reply (written held reply template)

-- the answer that a rule makes of a backend's reply to a request
unfoldable pub client_of : ResponseRule → Request → Target → Found → CallFacts → WireReply → Flow Answer
client_of rule request target found facts reply = answer_at rule (replied request target found facts reply) reply (media_type reply.headers)
