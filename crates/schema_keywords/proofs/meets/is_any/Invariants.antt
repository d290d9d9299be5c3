use Rattle.std.proofs.Common.{◌≡◌, drop}
use Rattle.json_values.specs.Values.{form_of, plain_of}
use Rattle.schema_keywords.specs.Keywords as says
use Rattle.schema_keywords.proofs.meets.is_any.Given as goal

abbrev pub invariant-loop-name : goal.invariant-loop-name
invariant-loop-name l = says.is_any (form_of (plain_of l.values) l.form) (drop l.name-index l.names) ≡ says.is_any (form_of (plain_of l.values) l.form) l.names
