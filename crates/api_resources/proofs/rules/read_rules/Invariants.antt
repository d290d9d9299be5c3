use Rattle.std.proofs.Common.{◌≡◌, drop}
use Rattle.json_subset.specs.Documents.{form, part, root_tree, member_named}
use Rattle.json_values.specs.Parts.{entries_of, items_of}
use Rattle.api_parts.specs.Reading.{◌>>=◌, each}
use Rattle.api_reading.specs.Values.{numbered}
use Rattle.api_resources.specs.Rules.{rules_in, rules_member}
use Rattle.api_resources.proofs.rules.read_rules.Given as goal

abbrev pub invariant-loop-i : goal.invariant-loop-i
invariant-loop-i l = each rules_member l.read (numbered l.i (drop l.i (items_of (form (part l.doc l.id))))) ≡ rules_in l.name (part l.doc l.id)
