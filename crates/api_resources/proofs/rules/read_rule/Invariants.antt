use Rattle.std.proofs.Common.{◌≡◌, drop}
use Rattle.json_subset.specs.Documents.{form, part, root_tree, member_named}
use Rattle.json_values.specs.Parts.{entries_of, items_of}
use Rattle.api_parts.specs.Reading.{◌>>=◌, each}
use Rattle.api_resources.specs.Rules.{rule_in, rule_member, rule_of}
use Rattle.api_resources.proofs.rules.read_rule.Given as goal

abbrev pub invariant-loop-i : goal.invariant-loop-i
invariant-loop-i l = (each rule_member l.read (drop l.i (entries_of (form (part l.doc l.id)))) >>= rule_of) ≡ rule_in l.name (part l.doc l.id)
