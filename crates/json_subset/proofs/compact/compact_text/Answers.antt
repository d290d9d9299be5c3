use Rattle.std.proofs.Common.{sym, subst, List, ℕ, []}
use Rattle.std.specs.Str.{IsUtf8}
use Rattle.json_subset.specs.Compact.{outside}
use Rattle.json_subset.proofs.Spans.{false_is_not_true}
use Rattle.json_subset.proofs.Squeeze.{compact_utf8}
use Rattle.json_subset.proofs.compact.compact_text.Goals as goal

pub unreachable-requires : goal.unreachable-requires
unreachable-requires c =
    let P : List ℕ → Type 0 = IsUtf8 in
    false_is_not_true (c.in-Err.ensures.succeeds (subst P (sym c.in_ok-kept.ensures) (compact_utf8 outside [] c.as_bytes.result.now c.as_bytes.ensures.utf8)))
