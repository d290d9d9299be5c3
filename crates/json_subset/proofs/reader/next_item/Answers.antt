use Rattle.std.proofs.Common.{◌∙◌, ap, arith, Ok, length, length-append, [], ◌∷◌}
use Rattle.json_subset.specs.Views.{next_of}
use Rattle.json_subset.proofs.Fronts.{next_done, next_goes}
use Rattle.json_subset.proofs.Nodes.{below_push}
use Rattle.json_subset.proofs.Places.{rest_le}
use Rattle.json_subset.proofs.Rests.{rest_more}
use Rattle.json_subset.proofs.reader.next_item.Goals as goal

pub add-requires-clause-inside : goal.add-requires-clause-inside
add-requires-clause-inside c =
    rest_more c.requires.inside (next_done (length c.args.text.now) 93 c.args.bytes.now c.in-Done.rest.now (omega arith) (c.in_ok-next.ensures ∙ ap (λ s. Ok (next_of s)) c.in-Done.is) c.requires.inside.utf8).rest

pub returns-in-More-clause-turn : goal.returns-in-More-clause-turn
returns-in-More-clause-turn c =
    let behind = next_goes (length c.args.text.now) 93 c.args.bytes.now c.in-More.rest.now (omega arith) (c.in_ok-next.ensures ∙ ap (λ s. Ok (next_of s)) c.in-More.is) c.requires.inside.utf8 in
    let less = behind.less in
    let room = c.requires.room in
    let more = length-append c.args.ids.items (c.args.k ∷ []) in
    record {
      front = c.requires.front;
      inside = rest_more c.requires.inside behind.rest;
      parts = rw c.in_ok-push.ensures.items (below_push _ c.args.ids.items c.args.k c.requires.below c.requires.stands, omega (arith, less, room, more, rest_le (rest_more c.requires.front c.requires.inside)));
    }
