use Rattle.std.proofs.Common.{arith}
use Rattle.json_subset.proofs.Cut.{utf8_behind}
use Rattle.json_subset.proofs.reader.read_scalar.Goals as goal

pub read_string-requires : goal.read_string-requires
read_string-requires c = utf8_behind _ c.in-34.len_at_least (omega arith) c.requires
