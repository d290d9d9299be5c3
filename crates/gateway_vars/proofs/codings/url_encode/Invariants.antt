use Rattle.std.proofs.Common.{◌≡◌, ◌++◌}
use Rattle.std.specs.String.{string_bytes}
use Rattle.form_urlencoded.specs.Serialize.{serialized_text}
use Rattle.gateway_vars.specs.Codings.{url_encoded}
use Rattle.gateway_vars.proofs.codings.url_encode.Given as goal

abbrev pub invariant-loop-piece : goal.invariant-loop-piece
invariant-loop-piece l = string_bytes l.made ++ serialized_text l.piece-iterator ≡ url_encoded l.text
