use Rattle.std.proofs.lemmas.Str.{IsUtf8-string_bytes}
use Rattle.json_subset.proofs.doc.Doc.of.Goals as goal

pub invariant_of-result : goal.invariant_of-result
invariant_of-result c = record { utf8 = IsUtf8-string_bytes c.args.text; sound = c.requires.sound; root = c.requires.root; spelled = c.requires.spelled }
