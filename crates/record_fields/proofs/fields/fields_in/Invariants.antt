use Rattle.std.proofs.Common.{◌≡◌, drop, length}
use Rattle.record_fields.specs.Coding.{all_decoded, fields_of, parts_of}
use Rattle.record_fields.proofs.Parts.{with_rest}
use Rattle.record_fields.proofs.fields.fields_in.Given as goal

-- the fields so far, and those of the parts that are left, are those of the line
abbrev pub invariant-loop-part : goal.invariant-loop-part
invariant-loop-part l = with_rest l.fields.items (all_decoded (drop (length l.yielded) (parts_of l.line))) ≡ fields_of l.line
