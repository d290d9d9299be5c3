use Rattle.std.proofs.Common.{◌≡◌, map, Some}
use Rattle.resource_tree.specs.Reading.{each_part}
use Rattle.resource_tree.proofs.reading.read_each.Given as goal

-- the parts so far are those of the texts so far
abbrev pub invariant-loop-text : goal.invariant-loop-text
invariant-loop-text l = each_part (map (λ text. text.now) l.yielded) ≡ Some l.parts.items
