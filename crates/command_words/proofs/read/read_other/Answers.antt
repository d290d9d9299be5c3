use Rattle.std.proofs.Common.{sym, ◌∙◌}
use Rattle.command_words.proofs.Asked.{others_ask_nothing}
use Rattle.command_words.proofs.read.read_other.Goals as goal

pub returns-else-is_row : goal.returns-else-is_row
returns-else-is_row c = others_ask_nothing c.args.words.now (sym c.is_row.ensures ∙ c.if-is_row.false)
