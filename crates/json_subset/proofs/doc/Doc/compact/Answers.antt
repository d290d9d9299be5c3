use Rattle.std.proofs.Common.{◌≡◌, rules}
use Rattle.std.specs.String.{string_bytes}
use Rattle.json_subset.specs.Compact.{compacted}
use Rattle.json_subset.specs.Documents.{part, root_tree, span}
use Rattle.json_subset.proofs.PartTexts.{part_compact}
use Rattle.json_subset.proofs.doc.Doc.compact.Goals as goal

pub span-requires-clause-sound : goal.span-requires-clause-sound
span-requires-clause-sound c = rw (c.as_str.ensures.value, c.deref.ensures.value) c.self.invariant.sound

pub returns-in-Ok-clause-spells : goal.returns-in-Ok-clause-spells
returns-in-Ok-clause-spells c =
    let e : string_bytes c.in-Ok.text ≡ compacted (span c.args.self.now.text (part c.args.self.now c.args.id)) = search rules in
    part_compact c.args.self.now.text (string_bytes c.in-Ok.text) (root_tree c.args.self.now) (part c.args.self.now c.args.id) (rw (← c.self.view_is) c.self.invariant.spelled) e
