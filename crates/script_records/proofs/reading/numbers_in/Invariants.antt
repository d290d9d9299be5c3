use Rattle.std.proofs.Common.{◌≡◌, ◌++◌, drop}
use Rattle.std.specs.Option.{option_map}
use Rattle.script_records.specs.Records.{numbers_of}
use Rattle.script_records.proofs.reading.numbers_in.Given as goal

-- the numbers so far, and those of the fields that are left, are those of all
abbrev pub invariant-loop-field : goal.invariant-loop-field
invariant-loop-field l = option_map (λ numbers. l.numbers.items ++ numbers) (numbers_of (drop l.field-index l.fields)) ≡ numbers_of l.fields
