use Rattle.key_index.proofs.Following.{follows}
use Rattle.key_index.proofs.laws.an_index_follows_the_rows.Goals as goal

pub returns : goal.returns
returns c = follows
