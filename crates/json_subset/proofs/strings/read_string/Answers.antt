use Rattle.json_subset.proofs.Spans.{string_utf8, false_is_not_true}
use Rattle.json_subset.proofs.strings.read_string.Goals as goal

pub unreachable-requires : goal.unreachable-requires
unreachable-requires c = false_is_not_true (c.in-Err.ensures.succeeds (string_utf8 c.args.n c.args.bytes.now _ _ c.requires c.in_ok-text.ensures))
