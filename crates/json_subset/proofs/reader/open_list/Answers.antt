use Rattle.std.proofs.Common.{arith}
use Rattle.json_subset.proofs.Fronts.{behind_bracket, behind_both, some_room}
use Rattle.json_subset.proofs.reader.open_list.Goals as goal

pub add-requires-clause-inside : goal.add-requires-clause-inside
add-requires-clause-inside c =
    (behind_both 91 93 c.args.from.now c.args.inside.now c.after_white-bytes.result.now c.in-Some.rest.now (omega arith) (omega arith) c.requires.bracket c.after_white-bytes.ensures c.in-Some.ensures c.requires.front.utf8).rest

pub returns-clause-turn : goal.returns-clause-turn
returns-clause-turn c =
    let behind = behind_bracket 91 c.args.from.now c.args.inside.now c.after_white-bytes.result.now (omega arith) c.requires.bracket c.after_white-bytes.ensures c.requires.front.utf8 in
    record {
      front = c.requires.front;
      inside = behind.rest;
      parts = rw c.new-2.ensures.items (tt, some_room c.args.text.now c.args.from.now c.after_white-bytes.result.now c.requires.front behind);
    }
