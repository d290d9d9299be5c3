use Rattle.std.proofs.Common.{◌≡◌, ◌++◌, length, map}
use Rattle.vtl_texts.specs.Places.{parts}
use denote.Shadow.{shadow}
use denote.Text.{Utf8}
use Rattle.vtl_texts.proofs.pieces.all_parts.Given as goal

abbrev pub invariant-loop-before : goal.invariant-loop-before
invariant-loop-before l = record {
  text : shadow (Utf8 l.rest);
  same : map (λ p. p.now) l.pieces.items ++ parts l.rest l.at ≡ parts l.text l.at;
}

abbrev pub decreases-loop-before : goal.decreases-loop-before
decreases-loop-before l = length l.rest
