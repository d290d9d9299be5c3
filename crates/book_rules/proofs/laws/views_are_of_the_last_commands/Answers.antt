use Rattle.book_rules.proofs.Viewing.{views_are}
use Rattle.book_rules.proofs.laws.views_are_of_the_last_commands.Goals as goal

pub returns : goal.returns
returns c = views_are
