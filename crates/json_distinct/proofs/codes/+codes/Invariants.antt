use Rattle.std.proofs.Common.{◌≡◌, [], ◌+◌, ◌*◌, ◌%◌, ◌^◌, map, drop}
use Rattle.json_subset.specs.Tree.{trees_of, members_of}
use Rattle.json_subset.specs.Nodes.{member_at, AllBelow, AllValuesBelow}
use Rattle.json_values.specs.Values.{plain_of}
use Rattle.json_distinct.specs.Codes as says
use Rattle.json_distinct.proofs.codes.+codes.Given as goal

abbrev pub decreases-code_of : goal.decreases-code_of
decreases-code_of l = 3 * l.k + 2

abbrev pub decreases-code_of_form : goal.decreases-code_of_form
decreases-code_of_form l = 3 * l.k + 1

abbrev pub decreases-code_of_items : goal.decreases-code_of_items
decreases-code_of_items l = 3 * l.k

abbrev pub decreases-code_of_members : goal.decreases-code_of_members
decreases-code_of_members l = 3 * l.k

abbrev pub invariant-code_of_items-loop-id : goal.invariant-code_of_items-loop-id
invariant-code_of_items-loop-id l = record {
  below : AllBelow l.k (drop l.id-index l.ids);
  so_far : says.code_behind l.code (trees_of (map (plain_of l.values) (drop l.id-index l.ids))) ≡ says.code_behind (says.hashed 7 [] 0 0) (trees_of (map (plain_of l.values) l.ids));
}

abbrev pub invariant-code_of_members-loop-member : goal.invariant-code_of_members-loop-member
invariant-code_of_members-loop-member l = record {
  below : AllValuesBelow l.k (drop l.member-index l.members);
  one : (l.one + says.sum 10 (members_of (map (member_at (plain_of l.values)) (drop l.member-index l.members)))) % 2 ^ 64 ≡ says.sum 10 (members_of (map (member_at (plain_of l.values)) l.members)) % 2 ^ 64;
  other : (l.other + says.sum 11 (members_of (map (member_at (plain_of l.values)) (drop l.member-index l.members)))) % 2 ^ 64 ≡ says.sum 11 (members_of (map (member_at (plain_of l.values)) l.members)) % 2 ^ 64;
}
