use Rattle.std.proofs.Common.{◌≡◌, ◌++◌, length}
use Rattle.std.specs.String.{string_bytes}
use Rattle.vtl_texts.specs.Places.{exchanged}
use denote.Shadow.{shadow}
use denote.Text.{Utf8}
use Rattle.vtl_texts.proofs.exchange.exchange.Given as goal

abbrev pub invariant-loop-before : goal.invariant-loop-before
invariant-loop-before l = record {
  text : shadow (Utf8 l.rest);
  same : string_bytes l.made ++ exchanged l.rest l.from l.to ≡ string_bytes l.fn.made ++ exchanged l.text l.from l.to;
}

abbrev pub decreases-loop-before : goal.decreases-loop-before
decreases-loop-before l = length l.rest
