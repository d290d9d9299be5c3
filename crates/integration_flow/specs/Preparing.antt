-- The body that an integration prepares of a request (API Gateway Developer Guide, "Integration passthrough behaviors").
use Rattle.std.specs.Prelude.{ℕ, ◌==◌, Bool, true, false, List, length, Option, Some, None, Ok, Err}
use Rattle.api_parts.specs.declared.parts.Integration.{Integration}
use Rattle.api_parts.specs.declared.parts.Passthrough.{Passthrough}
use Rattle.api_parts.specs.declared.parts.Passthrough.TheVariants.{Never, WhenNoMatch, WhenNoTemplates}
use Rattle.gateway_vars.specs.Held.{Held}
use Rattle.gateway_vars.specs.Overriding.{nothing}
use Rattle.gateway_vars.specs.declared.slots.Side.TheVariants as sides
use Rattle.integration_flow.specs.Rendering.{rendered}
use Rattle.integration_flow.specs.Stopping.{Flow}
use Rattle.integration_flow.specs.declared.written.Written.{Written}
use Rattle.integration_flow.specs.declared.stops.FlowStop.TheVariants.{Media}
use Rattle.media_types.specs.MediaTypes.{media_type}
use Rattle.resource_tree.specs.Parameters.{value_at}

-- a body for whose media type no template stands is passed on, or not; that may depend on whether there are templates at all
abbrev pub passes : Passthrough → Bool → Bool
passes WhenNoMatch has_none = true
passes WhenNoTemplates has_none = has_none
passes Never has_none = false

abbrev pub if_passed : Bool → List ℕ → Flow Written
if_passed true body = Ok (record { body = body; overrides = nothing })
if_passed false body = Err Media

-- its template's text with what this writes over, else the request's body
abbrev pub prepared_by : Integration → Held → Option (List ℕ) → Flow Written
prepared_by i held None = if_passed (passes i.passthrough (length i.templates == 0)) held.body
prepared_by i held (Some template) = rendered sides.Request held template

-- the template is that of the request's media type
unfoldable pub prepared : Integration → Held → Flow Written
prepared i held = prepared_by i held (value_at i.templates (media_type held.params.header))
