use Rattle.std.proofs.Common.{◌≡◌, arith, refl, rules, length, [], None}
use Rattle.std.specs.BTreeMap.{get_by_text}
use Rattle.json_subset.specs.Numbered.{HasPlaces}
use Rattle.json_subset.proofs.Fronts.{behind_bracket, behind_both, behind_then, label_behind, some_room}
use Rattle.json_subset.proofs.Spans.{known}
use Rattle.json_subset.proofs.reader.open_object.Goals as goal

pub add-requires-clause-inside : goal.add-requires-clause-inside
add-requires-clause-inside c =
    (behind_both 123 125 c.args.from.now c.args.inside.now c.after_white-bytes.result.now c.in-Some.rest.now (omega arith) (omega arith) c.requires.bracket c.after_white-bytes.ensures c.in-Some.ensures c.requires.front.utf8).rest

pub read_label-requires : goal.read_label-requires
read_label-requires c = (behind_bracket 123 c.args.from.now c.args.inside.now c.after_white-bytes.result.now (omega arith) c.requires.bracket c.after_white-bytes.ensures c.requires.front.utf8).rest.utf8

pub returns-clause-turn : goal.returns-clause-turn
returns-clause-turn c =
    let bracket = behind_bracket 123 c.args.from.now c.args.inside.now c.after_white-bytes.result.now (omega arith) c.requires.bracket c.after_white-bytes.ensures c.requires.front.utf8 in
    let behind = behind_then c.args.from.now c.after_white-bytes.result.now c.in_ok-name.rest.now bracket (known _ _ _ (label_behind (length c.args.text.now) _ c.after_white-bytes.result.now bracket.rest.utf8) c.in_ok-name.ensures.gives) in
    let none : HasPlaces [] c.new-names.result = λ q. (let e : get_by_text c.new-names.result q ≡ None = search rules in e) in
    record {
      front = c.requires.front;
      inside = behind.rest;
      parts =
          rw c.new-before.ensures.items (
            tt,
            some_room c.args.text.now c.args.from.now c.in_ok-name.rest.now c.requires.front behind,
            c.in_ok-name.ensures.names [] refl none,
          );
    }
