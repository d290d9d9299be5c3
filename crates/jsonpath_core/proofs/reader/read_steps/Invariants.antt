use Rattle.std.proofs.Common.{◌≡◌, length}
use denote.Text.{Utf8}
use denote.Shadow.{shadow}
use Rattle.jsonpath_core.specs.Reading.{steps_of}
use Rattle.jsonpath_core.specs.Views.{AreKept, steps_view}
use Rattle.jsonpath_core.proofs.Turns.{after}
use Rattle.jsonpath_core.proofs.reader.read_steps.Given as goal

-- the steps so far, and those of the rest, are those of the text
abbrev pub invariant-loop-rest : goal.invariant-loop-rest
invariant-loop-rest l = record {
  utf8 : shadow (Utf8 l.rest);
  so_far : after (steps_view l.steps.items) (steps_of l.n l.rest) ≡ steps_of l.n l.text;
  kept : AreKept l.steps.items;
}

abbrev pub decreases-loop-rest : goal.decreases-loop-rest
decreases-loop-rest l = length l.rest
