use Rattle.std.proofs.Common.{◌≡◌, ◌++◌, drop}
use Rattle.std.specs.Option.{option_map}
use Rattle.record_fields.specs.Pairs.{pairs_of}
use Rattle.record_fields.proofs.pairs.pairs_in.Given as goal

-- the pairs so far, and those of the fields that are left, are those of all
abbrev pub invariant-loop-field : goal.invariant-loop-field
invariant-loop-field l = option_map (λ rest. l.pairs.items ++ rest) (pairs_of (drop l.field-index l.fields)) ≡ pairs_of l.fields
