use Rattle.json_subset.proofs.Whole.{white_rest}
use Rattle.json_subset.proofs.reader.read_document.Goals as goal

pub read_value-requires-clause-front : goal.read_value-requires-clause-front
read_value-requires-clause-front c = white_rest c.args.text.now _ c.after_white.ensures c.requires.utf8
