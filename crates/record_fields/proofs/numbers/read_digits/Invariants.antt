use Rattle.std.proofs.Common.{◌≡◌, true, drop}
use Rattle.std.specs.List.{list_all}
use Rattle.record_fields.specs.Numbers.{read_on, is_decimal}
use Rattle.record_fields.proofs.numbers.read_digits.Given as goal

-- the number so far goes on to the whole one
abbrev pub invariant-loop-digit : goal.invariant-loop-digit
invariant-loop-digit l = record {
  so_far : read_on l.value (drop l.digit-index l.field) ≡ read_on 0 l.field;
  digits : list_all is_decimal (drop l.digit-index l.field) ≡ true;
}
