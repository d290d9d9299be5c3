-- What may be written into a request.
use Rattle.std.specs.Prelude.{ℕ, Bool, true, false, ◌&&◌, List, Err}
use Rattle.std.specs.List.{list_all}
use Rattle.call_facts.specs.Pairs.{Pairs}
use Rattle.gateway_answers.specs.Headers.{is_value_byte}
use Rattle.gateway_vars.specs.declared.changes.Overrides.{Overrides}
use Rattle.integration_flow.specs.Answers.{are_writable}
use Rattle.integration_flow.specs.Stopping.{Flow}
use Rattle.integration_flow.specs.declared.stops.FlowStop.TheVariants.{Config}
use Rattle.integration_request.specs.declared.mapping.Mapped.{Mapped}
use Rattle.wire_text.specs.declared.places.PathValue.{PathValue}

-- no control character but the tab is in a value
abbrev pub are_pairs_writable : Pairs → Bool
are_pairs_writable ps = list_all (λ p. list_all is_value_byte p.1) ps

abbrev pub are_values_writable : List PathValue → Bool
are_values_writable vs = list_all (λ v. list_all is_value_byte v.value) vs

-- what is mapped may be written, of the path too where the uri has no such name
abbrev pub may_be_mapped : Mapped → Bool
may_be_mapped m = are_writable m.headers && are_pairs_writable m.query && are_values_writable m.path

-- and so may what a template writes over
abbrev pub may_be_over : Overrides → Bool
may_be_over o = are_writable o.headers && are_pairs_writable o.query && are_pairs_writable o.path

-- what may not be written stops the request
abbrev pub if_writable : {A : Type 0} → Bool → Flow A → Flow A
if_writable true made = made
if_writable false made = Err Config
