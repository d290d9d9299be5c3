use Rattle.jsonpath_core.specs.Spelling.{is_name_byte}
use Rattle.std.proofs.Common.{rules}
use Rattle.jsonpath_core.proofs.Fronts.{cut_before, name_ends_in_ascii}
use Rattle.jsonpath_core.proofs.reader.split_name.Goals as goal

pub split_at-requires : goal.split_at-requires
split_at-requires c = cut_before is_name_byte c.args.text.now c.name_len.result name_ends_in_ascii (search rules) (search rules)
