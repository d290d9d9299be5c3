use Rattle.std.proofs.Common.{◌≡◌, ◌-◌, ◌++◌}
use Rattle.std.specs.String.{string_bytes}
use Rattle.load_command.specs.Summary.{key_lines}
use Rattle.load_command.proofs.summary.key_lines.Given as goal

-- the lines so far, and those of the keys that are left, are those of all
abbrev pub invariant-loop-number : goal.invariant-loop-number
invariant-loop-number l = string_bytes l.lines ++ key_lines l.tables.lists l.number (8 - l.number) ≡ key_lines l.tables.lists 0 8
