-- Methods that ask for a key (API Gateway Developer Guide, "API keys").
use Rattle.std.specs.Prelude.{ℕ, Bool, false, List, [], codes, slice_get}
use Rattle.std.specs.Option.{option_map, unwrap_or}
use Rattle.api_model.specs.Definition.{Definition, parts_of}
use Rattle.api_parts.specs.declared.parts.Method.{Method}
use Rattle.call_facts.specs.Pairs.{header_value}
use Rattle.call_facts.specs.declared.request.Request.{Request}

-- whether the method of this number asks for one
abbrev pub key_required : Definition → ℕ → Bool
key_required d n = unwrap_or (option_map (λ (m : Method). m.api_key_required) (slice_get (parts_of d).methods n)) false

-- the value that a request hands in: that of its first header `x-api-key`, else the empty text
abbrev pub key_value : Request → List ℕ
key_value r = unwrap_or (header_value r.headers (codes "x-api-key")) []
