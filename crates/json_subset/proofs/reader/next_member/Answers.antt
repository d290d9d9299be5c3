use Rattle.std.proofs.Common.{◌≡◌, ◌∙◌, ◌-◌, ap, sym, subst, rules, arith, ℕ, Ok, length, map, length-append, [], ◌∷◌, ◌++◌}
use Rattle.std.proofs.lemmas.Result.{err_from_is_err_and}
use Rattle.std.specs.String.{string_bytes}
use Rattle.json_subset.specs.Reading.{label, named, names_of}
use Rattle.json_subset.specs.Turns.{next_member, with_label, goes, in_object}
use Rattle.json_subset.specs.Nodes.{member_at, tree_of}
use Rattle.json_subset.specs.Numbered.{has_name, IsEntered}
use Rattle.json_subset.specs.Views.{next_of}
use Rattle.json_subset.proofs.Fronts.{next_done, next_goes, label_behind, behind_then}
use Rattle.json_subset.proofs.Names.{names_same, names_entered}
use Rattle.json_subset.proofs.Nodes.{values_push, map_member_push}
use Rattle.json_subset.proofs.Places.{rest_le}
use Rattle.json_subset.proofs.Rests.{rest_more}
use Rattle.json_subset.proofs.Spans.{known}
use Rattle.json_subset.proofs.Texts.{fails_along}
use Rattle.json_subset.proofs.Turns.{fails_label}
use Rattle.json_subset.proofs.reader.next_member.Goals as goal

pub add-requires-clause-inside : goal.add-requires-clause-inside
add-requires-clause-inside c =
    rest_more c.requires.inside (next_done (length c.args.text.now) 125 c.args.bytes.now c.in-Done.rest.now (omega arith) (c.in_ok-next.ensures ∙ ap (λ s. Ok (next_of s)) c.in-Done.is) c.requires.inside.utf8).rest

pub read_label-requires : goal.read_label-requires
read_label-requires c =
    (next_goes (length c.args.text.now) 125 c.args.bytes.now c.in-More.rest.now (omega arith) (c.in_ok-next.ensures ∙ ap (λ s. Ok (next_of s)) c.in-More.is) c.requires.inside.utf8).rest.utf8

pub returns-in_err-name-in-More-clause-gives : goal.returns-in_err-name-in-More-clause-gives
returns-in_err-name-in-More-clause-gives c =
    let p = err_from_is_err_and c.from_residual-in_err-name-in-More.result c.from_residual-in_err-name-in-More.ensures.1 in
    let f = tree_of c.args.text.now c.args.nodes.now.items in
    let ms = map (member_at f) c.args.members.before.items ++ (string_bytes c.args.members.name, f c.args.k) ∷ [] in
    let at = length c.args.text.now - length c.args.from.now in
    let same : has_name c.args.members.names ≡ named (names_of ms) = λ j q. names_same f c.args.members (f c.args.k) c.requires.names q j in
    rw (p.1, p.2)
    (fails_along _ _ _
    (ap (λ g. with_label at ms (label (length c.args.text.now) g c.in-More.rest.now)) same
    ∙ ap (next_member (length c.args.text.now) at ms) (sym (c.in_ok-next.ensures ∙ ap (λ s. Ok (next_of s)) c.in-More.is)))
    (fails_label at ms _ _ c.in_err-name-in-More.ensures.gives))

pub returns-in_ok-name-in-More-clause-gives : goal.returns-in_ok-name-in-More-clause-gives
returns-in_ok-name-in-More-clause-gives c =
    let f = tree_of c.args.text.now c.args.nodes.now.items in
    let ms = map (member_at f) c.args.members.before.items ++ (string_bytes c.args.members.name, f c.args.k) ∷ [] in
    let at = length c.args.text.now - length c.args.from.now in
    let same : has_name c.args.members.names ≡ named (names_of ms) = λ j q. names_same f c.args.members (f c.args.k) c.requires.names q j in
    rw c.in_ok-push.ensures.items
    (ap (next_member (length c.args.text.now) at ms) (c.in_ok-next.ensures ∙ ap (λ s. Ok (next_of s)) c.in-More.is)
    ∙ ap (λ g. with_label at ms (label (length c.args.text.now) g c.in-More.rest.now)) (sym same)
    ∙ ap (with_label at ms) c.in_ok-name-in-More.ensures.gives
    ∙ ap (λ z. Ok (goes at (in_object z (string_bytes c.in_ok-name-in-More.name)) c.in_ok-name-in-More.rest.now)) (sym (map_member_push f c.args.members.before.items (c.args.members.name, c.args.k))))

pub returns-in_ok-name-in-More-clause-turn : goal.returns-in_ok-name-in-More-clause-turn
returns-in_ok-name-in-More-clause-turn c =
    let first = next_goes (length c.args.text.now) 125 c.args.bytes.now c.in-More.rest.now (omega arith) (c.in_ok-next.ensures ∙ ap (λ s. Ok (next_of s)) c.in-More.is) c.requires.inside.utf8 in
    let behind = behind_then c.args.bytes.now c.in-More.rest.now c.in_ok-name-in-More.rest.now first (known _ _ _ (label_behind (length c.args.text.now) _ c.in-More.rest.now first.rest.utf8) c.in_ok-name-in-More.ensures.gives) in
    let less = behind.less in
    let room = c.requires.room in
    let more = length-append c.args.members.before.items ((c.args.members.name, c.args.k) ∷ []) in
    let count : c.len-in-More.result ≡ length (c.args.members.before.items ++ (c.args.members.name, c.args.k) ∷ []) = search rules in
    let P : ℕ → Type 0 = λ n. IsEntered n (string_bytes c.in_ok-name-in-More.name) c.args.members.names c.read_label.new.names in
    record {
      front = c.requires.front;
      inside = rest_more c.requires.inside behind.rest;
      parts =
          rw c.in_ok-push.ensures.items (
            values_push _ c.args.members.before.items (c.args.members.name, c.args.k) c.requires.below c.requires.stands,
            omega (arith, less, room, more, rest_le (rest_more c.requires.front c.requires.inside)),
            names_entered c.args.members c.args.k (string_bytes c.in_ok-name-in-More.name) c.read_label.new.names c.requires.names (subst P count c.in_ok-name-in-More.ensures.names),
          );
    }
