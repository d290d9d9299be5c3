use Rattle.std.proofs.Common.{◌≡◌, ◌+◌, drop, option_map}
use Rattle.vtl_values.specs.Places.{place_of}
use Rattle.vtl_values.specs.Vals.{rows_of}
use Rattle.vtl_values.proofs.places.first_place.Given as goal

abbrev pub invariant-loop-entry : goal.invariant-loop-entry
invariant-loop-entry l = record {
  place : l.n ≡ l.entry-index;
  same : place_of l.key (rows_of l.entries) ≡ option_map (λ k. l.n + k) (place_of l.key (rows_of (drop l.entry-index l.entries)));
}
