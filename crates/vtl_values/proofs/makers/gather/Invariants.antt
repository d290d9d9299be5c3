use Rattle.std.proofs.Common.{◌≡◌, drop}
use Rattle.vtl_values.specs.Val.{no_entries}
use Rattle.vtl_values.specs.Vals.{rows_of}
use Rattle.vtl_values.specs.Making.{gathered}
use Rattle.vtl_values.specs.Places.{ArePlaced}
use Rattle.vtl_values.proofs.makers.gather.Given as goal

abbrev pub invariant-loop-pair : goal.invariant-loop-pair
invariant-loop-pair l = record {
  same : gathered (rows_of l.entries.items) (drop l.pair-index l.pairs) ≡ gathered no_entries l.pairs;
  placed : ArePlaced (rows_of l.entries.items) l.places;
}
