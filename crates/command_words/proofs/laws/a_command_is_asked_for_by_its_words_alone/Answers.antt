use Rattle.command_words.proofs.Alone.{commands_have_their_words}
use Rattle.command_words.proofs.laws.a_command_is_asked_for_by_its_words_alone.Goals as goal

pub returns : goal.returns
returns c = commands_have_their_words
