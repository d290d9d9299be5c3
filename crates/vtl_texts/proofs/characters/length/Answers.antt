use Rattle.std.proofs.Common.{rules, ap, sym, length}
use Rattle.std.proofs.lemmas.Str.{chars_from_encodes, chars-IsAscii}
use Rattle.vtl_texts.specs.Characters.{text_length}
use Rattle.vtl_texts.proofs.characters.length.Goals as goal

pub returns-then-is_ascii : goal.returns-then-is_ascii
unfolding text_length
returns-then-is_ascii c = ap length (sym (chars-IsAscii c.args.text.now c.if-is_ascii.ensures.cases))

pub returns : goal.returns
unfolding text_length
returns c = search (rules, chars_from_encodes)
