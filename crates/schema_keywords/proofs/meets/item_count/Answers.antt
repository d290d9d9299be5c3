use Rattle.std.proofs.Common.{sym}
use Rattle.json_values.specs.Values.{plain_of}
use Rattle.json_values.proofs.Lookups.{counted_items}
use Rattle.schema_keywords.proofs.meets.item_count.Goals as goal

pub returns : goal.returns
returns c = sym (counted_items (plain_of c.args.values.now) c.args.ids.now)
