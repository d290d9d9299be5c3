-- The requests that integrations send to their backends (API Gateway Developer Guide, "Integrations for REST APIs").
use Rattle.std.specs.Prelude.{ℕ, ◌≤◌, ◌<◌, ◌&&◌, List, [], Option, Some, None, Result, Ok, Err, slice_get}
use Rattle.std.specs.Option.{option_map, unwrap_or}
use Rattle.api_model.specs.Definition.{Definition, parts_of}
use Rattle.api_parts.specs.declared.parts.Integration.{Integration}
use Rattle.api_parts.specs.declared.parts.IntegrationKind.{IntegrationKind}
use Rattle.api_parts.specs.declared.parts.IntegrationKind.TheVariants as kinds
use Rattle.api_resources.specs.Resources.{path_of}
use Rattle.backend_core.specs.declared.request.WireRequest.{WireRequest}
use Rattle.call_facts.specs.Pairs.{Pairs}
use Rattle.call_facts.specs.Target.{past}
use Rattle.call_facts.specs.declared.facts.CallFacts.{CallFacts}
use Rattle.call_facts.specs.declared.request.Request.{Request}
use Rattle.call_facts.specs.declared.target.Target.{Target}
use Rattle.gateway_vars.specs.Held.{asked}
use Rattle.integration_flow.specs.Headers.{written_over}
use Rattle.integration_flow.specs.Mocking.{mock_status}
use Rattle.integration_flow.specs.Preparing.{prepared}
use Rattle.integration_flow.specs.Stopping.{Flow}
use Rattle.integration_flow.specs.declared.stops.FlowStop.TheVariants.{Config}
use Rattle.integration_flow.specs.declared.written.Written.{Written}
use Rattle.integration_request.specs.Headers.{with_type}
use Rattle.integration_request.specs.Mapping.{mapped}
use Rattle.integration_request.specs.PathValues.{over_mapped}
use Rattle.integration_request.specs.Queries.{over_pairs, proxied}
use Rattle.integration_request.specs.Wire.{sent}
use Rattle.integration_request.specs.Writing.{if_writable, may_be_mapped, may_be_over}
use Rattle.integration_request.specs.declared.made.Prepared.{Prepared}
use Rattle.integration_request.specs.declared.made.Prepared.TheVariants.{Mock, Wire, Proxy}
use Rattle.integration_request.specs.declared.mapping.Mapped.{Mapped}
use Rattle.integration_request.specs.declared.outgoing.Outgoing.{Outgoing}
use Rattle.resource_tree.specs.declared.found.Found.{Found}
use Rattle.wire_text.specs.Passing.{passed_on_of}
use Rattle.wire_text.specs.Queries.{query_of}

-- HTTP: what is mapped, over which the template writes, and the body that it makes; nothing else of the request goes on
abbrev pub http_out : Request → Mapped → Written → Outgoing
http_out request m made = record {
  path = over_mapped made.overrides.path m.path;
  query = query_of (over_pairs m.query made.overrides.query);
  headers = with_type request.headers (written_over m.headers made.overrides.headers);
  body = made.body;
}

unfoldable pub http_made : Integration → Request → Pairs → Mapped → Written → Flow WireRequest
http_made i request variables m made = if_writable (may_be_mapped m && may_be_over made.overrides) (sent i variables (http_out request m made))

-- a body that may not be passed on is told before all else
abbrev pub http_by : Integration → Request → Pairs → Mapped → Flow Written → Flow WireRequest
http_by i request variables m (Err stop) = Err stop
http_by i request variables m (Ok made) = http_made i request variables m made

unfoldable pub http_of : Integration → List ℕ → Request → Target → Found → CallFacts → Flow WireRequest
http_of i resource request target found facts =
    let held = asked request target found facts in
    http_by i request facts.variables.pairs (mapped resource held i.parameters) (prepared i held)

-- HTTP_PROXY: the request goes on, with what is mapped in its place
abbrev pub proxy_out : Request → Target → Mapped → Outgoing
proxy_out request target m = record {
  path = m.path;
  query = proxied (past 63 request.target) target.query m.query;
  headers = written_over (passed_on_of request.headers) m.headers;
  body = request.body;
}

unfoldable pub proxy_made : Integration → Request → Target → Pairs → Mapped → Flow WireRequest
proxy_made i request target variables m = if_writable (may_be_mapped m) (sent i variables (proxy_out request target m))

unfoldable pub proxy_of : Integration → List ℕ → Request → Target → Found → CallFacts → Flow WireRequest
proxy_of i resource request target found facts =
    proxy_made i request target facts.variables.pairs (mapped resource (asked request target found facts) i.parameters)

-- what is made of a request
abbrev pub made_as : {A : Type 0} → (A → Prepared) → Flow A → Flow Prepared
made_as make (Err stop) = Err stop
made_as make (Ok x) = Ok (make x)

abbrev pub made_for : IntegrationKind → Integration → List ℕ → Request → Target → Found → CallFacts → Flow Prepared
made_for kinds.Mock i resource request target found facts = made_as (λ status. Mock status) (mock_status i request target found facts)
made_for kinds.Http i resource request target found facts = made_as (λ sent. Wire sent) (http_of i resource request target found facts)
made_for kinds.HttpProxy i resource request target found facts = made_as (λ sent. Proxy sent) (proxy_of i resource request target found facts)

abbrev pub made_by : Option Integration → List ℕ → Request → Target → Found → CallFacts → Flow Prepared
made_by None resource request target found facts = Err Config
made_by (Some i) resource request target found facts = made_for i.kind i resource request target found facts

-- the path of the resource that was found
abbrev pub resource_path : Definition → Found → List ℕ
resource_path d found = unwrap_or (option_map path_of (slice_get (parts_of d).resources found.resource)) []

-- what the integration of a method makes of a request
unfoldable pub wire_of : Definition → ℕ → Request → Target → Found → CallFacts → Flow Prepared
wire_of d n request target found facts =
    made_by (option_map (λ m. m.integration) (slice_get (parts_of d).methods n)) (resource_path d found) request target found facts

-- the status of an integration without a backend has three digits
abbrev pub HasStatus : Prepared → Type 0
HasStatus (Mock status) = (100 ≤ status) × (status < 1000)
HasStatus (Wire sent) = Unit {0}
HasStatus (Proxy sent) = Unit {0}
