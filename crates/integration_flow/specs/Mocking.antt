-- What an integration without a backend tells (API Gateway Developer Guide, "Set up mock integrations").
use Rattle.std.specs.Prelude.{ℕ, ◌&&◌, [], codes, Option, Some, None, Ok, Err, pos, int_le, unsigned_abs, if◌then◌else◌}
use Rattle.api_parts.specs.declared.parts.Integration.{Integration}
use Rattle.call_facts.specs.declared.facts.CallFacts.{CallFacts}
use Rattle.call_facts.specs.declared.request.Request.{Request}
use Rattle.call_facts.specs.declared.request.WireReply.{WireReply}
use Rattle.call_facts.specs.declared.target.Target.{Target}
use Rattle.gateway_vars.specs.Documents.{document}
use Rattle.gateway_vars.specs.Held.{asked}
use Rattle.integration_flow.specs.Preparing.{prepared}
use Rattle.integration_flow.specs.Stopping.{Flow}
use Rattle.integration_flow.specs.declared.stops.FlowStop.TheVariants.{Config}
use Rattle.integration_flow.specs.declared.written.Written.{Written}
use Rattle.json_subset.specs.Documents.{form, kind, member_named}
use Rattle.json_subset.specs.Tree.{Tree}
use Rattle.json_subset.specs.declared.doc.Kind.{Kind}
use Rattle.json_subset.specs.declared.doc.Kind.TheVariants as kinds
use Rattle.resource_tree.specs.declared.found.Found.{Found}

-- a whole number from 100 to 999
abbrev pub number_in : Kind → Flow ℕ
number_in kinds.Null = Err Config
number_in (kinds.Bool b) = Err Config
number_in (kinds.Whole z) = if int_le (pos 100) z && int_le z (pos 999) then Ok (unsigned_abs z) else Err Config
number_in kinds.Decimal = Err Config
number_in kinds.Wide = Err Config
number_in kinds.Text = Err Config
number_in (kinds.List n) = Err Config
number_in (kinds.Object n) = Err Config

abbrev pub number_at : Option Tree → Flow ℕ
number_at None = Err Config
number_at (Some t) = number_in (kind (form t))

abbrev pub status_in : Option Tree → Flow ℕ
status_in None = Err Config
status_in (Some t) = number_at (member_named (form t) (codes "statusCode"))

-- the status that a prepared body tells: the `statusCode` of a JSON object
abbrev pub told_by : Flow Written → Flow ℕ
told_by (Err stop) = Err stop
told_by (Ok made) = status_in (document made.body)

-- what an integration without a backend tells of a request; what the template writes over goes nowhere
unfoldable pub mock_status : Integration → Request → Target → Found → CallFacts → Flow ℕ
mock_status i request target found facts = told_by (prepared i (asked request target found facts))

-- the reply that stands for a backend's: the status alone
abbrev pub mock_reply : ℕ → WireReply
mock_reply status = record { status = status; headers = []; body = [] }
