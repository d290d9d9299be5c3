use Rattle.std.proofs.Common.{◌≡◌, ◌++◌, [], length}
use Rattle.std.specs.Option.{option_map}
use denote.Text.{Utf8}
use denote.Shadow.{shadow}
use Rattle.api_mappings.specs.Uris.{outside}
use Rattle.api_mappings.proofs.uri.pieces.Given as goal

-- the pieces so far, and those of the rest
abbrev pub invariant-loop-front : goal.invariant-loop-front
invariant-loop-front l = record {
  utf8 : shadow (Utf8 l.rest);
  same : option_map (λ more. l.pieces.items ++ more) (outside [] l.rest) ≡ outside [] l.fn.text;
}

abbrev pub decreases-loop-front : goal.decreases-loop-front
decreases-loop-front l = length l.rest
