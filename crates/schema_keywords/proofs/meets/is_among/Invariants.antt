use Rattle.std.proofs.Common.{◌≡◌, length, drop, map}
use Rattle.json_subset.specs.Documents.{form}
use Rattle.json_subset.specs.Nodes.{AllBelow}
use Rattle.json_values.specs.Values.{plain_of}
use Rattle.schema_keywords.specs.Keywords as says
use Rattle.schema_keywords.proofs.meets.is_among.Given as goal

abbrev pub invariant-loop-id : goal.invariant-loop-id
invariant-loop-id l = record {
  listed : AllBelow (length l.entries) (drop l.id-index l.ids);
  so_far : says.is_among (form (plain_of l.values l.k)) (map (plain_of l.entries) (drop l.id-index l.ids)) ≡ says.is_among (form (plain_of l.values l.k)) (map (plain_of l.entries) l.ids);
}
