-- A request with its destination.
use Rattle.std.specs.Prelude.{ℕ, List, Option, Some, None, Ok, Err}
use Rattle.api_parts.specs.declared.parts.Integration.{Integration}
use Rattle.api_parts.specs.declared.uri.Uri.{Uri}
use Rattle.backend_core.specs.declared.request.WireRequest.{WireRequest}
use Rattle.call_facts.specs.Pairs.{Pairs}
use Rattle.integration_flow.specs.Stopping.{Flow}
use Rattle.integration_flow.specs.declared.stops.FlowStop.TheVariants.{Config}
use Rattle.integration_request.specs.Headers.{framed}
use Rattle.integration_request.specs.declared.outgoing.Outgoing.{Outgoing}
use Rattle.wire_text.specs.Destinations.{destination_of}
use Rattle.wire_text.specs.Messages.{message_of}
use Rattle.wire_text.specs.Queries.{with_query_of}
use Rattle.wire_text.specs.declared.places.Destination.{Destination}
use Rattle.wire_text.specs.declared.places.PathValue.{PathValue}

abbrev pub destination_by : Option Uri → Pairs → List PathValue → Option Destination
destination_by None variables values = None
destination_by (Some uri) variables values = destination_of uri variables values

-- the request as it is written (RFC 9112, section 3)
abbrev pub wired : Integration → Outgoing → Destination → WireRequest
wired i out to = record {
  host = to.host;
  port = to.port;
  timeout = i.timeout;
  bytes = message_of i.method (with_query_of to.path out.query) (framed to out.headers out.body) out.body;
}

abbrev pub sent_to : Integration → Outgoing → Option Destination → Flow WireRequest
sent_to i out None = Err Config
sent_to i out (Some to) = Ok (wired i out to)

-- a request goes to the destination of its integration's uri, where that is one with these values
unfoldable pub sent : Integration → Pairs → Outgoing → Flow WireRequest
sent i variables out = sent_to i out (destination_by i.backend variables out.path)
