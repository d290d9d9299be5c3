use Rattle.std.proofs.Common.{◌≡◌, ◌++◌, drop}
use Rattle.json_subset.specs.Compact.{compact_from, compacted}
use Rattle.json_subset.specs.CompactView.{place_of}
use Rattle.json_subset.proofs.compact.compact_bytes.Given as goal

abbrev pub invariant-loop-b : goal.invariant-loop-b
invariant-loop-b l = l.kept.items ++ compact_from (place_of l.place) (drop l.b-index l.bytes) ≡ compacted l.bytes
