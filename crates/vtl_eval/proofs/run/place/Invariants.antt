use Rattle.std.proofs.Common.{◌≡◌, ◌+◌, drop}
use Rattle.vtl_eval.specs.Views.{place_of}
use Rattle.vtl_eval.proofs.run.place.Given as goal

abbrev pub invariant-loop-entry : goal.invariant-loop-entry
invariant-loop-entry l = (l.i ≡ l.entry-index) × (place_of l.names l.name ≡ l.i + place_of (drop l.entry-index l.names) l.name)
