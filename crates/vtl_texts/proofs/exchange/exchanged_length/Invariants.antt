use Rattle.std.proofs.Common.{◌≡◌, ◌+◌, ◌≤◌, length}
use Rattle.vtl_texts.specs.Places.{exchanged}
use denote.Shadow.{shadow}
use denote.Text.{Utf8}
use Rattle.vtl_texts.proofs.exchange.exchanged_length.Given as goal

-- what the rest takes is what all takes, without the room that was used
abbrev pub invariant-loop-before : goal.invariant-loop-before
invariant-loop-before l = record {
  text : shadow (Utf8 l.rest);
  used : length (exchanged l.rest l.from l.to) + l.most ≡ length (exchanged l.text l.from l.to) + l.room;
  fits : l.room ≤ l.most;
}

abbrev pub decreases-loop-before : goal.decreases-loop-before
decreases-loop-before l = length l.rest
