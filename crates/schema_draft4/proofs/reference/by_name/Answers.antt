use Rattle.std.proofs.Common.{sym}
use Rattle.std.proofs.lemmas.Str.{IsUtf8-from_ascii}
use Rattle.schema_draft4.proofs.Targets.{name_ascii}
use Rattle.schema_draft4.proofs.reference.by_name.Goals as goal

pub unreachable-requires : goal.unreachable-requires
unreachable-requires c = c.in-Err.ensures.cases.0 (IsUtf8-from_ascii c.in-Some.bytes.now (name_ascii c.in-Some.bytes.now (sym c.if-not-is_name.ensures)))
