use Rattle.std.proofs.Common.{◌≡◌, drop, map}
use Rattle.std.specs.String.{string_bytes}
use Rattle.json_subset.specs.Tree.{members_of}
use Rattle.json_subset.specs.Nodes.{member_at}
use Rattle.json_values.specs.Values.{plain_of}
use Rattle.schema_keywords.specs.Keywords as says
use Rattle.schema_keywords.proofs.meets.has_all.Given as goal

abbrev pub invariant-loop-name : goal.invariant-loop-name
invariant-loop-name l = says.has_all (map string_bytes (drop l.name-index l.names)) (members_of (map (member_at (plain_of l.values)) l.members.list.items)) ≡ says.has_all (map string_bytes l.names) (members_of (map (member_at (plain_of l.values)) l.members.list.items))
