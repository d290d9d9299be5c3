use Rattle.std.proofs.Common.{◌≡◌, ◌∷◌, ◌++◌, [], ◌∙◌, ap, lit<}
use Rattle.std.proofs.lemmas.List.{get_or_read}
use Rattle.std.specs.String.{string_bytes}
use Rattle.resource_tree.proofs.Joined.{join_next}
use Rattle.resource_tree.proofs.found.join.Goals as goal

pub loop-segment-preserved : goal.loop-segment-preserved
loop-segment-preserved c =
    let all = c.args.segments.now in
    let first = c.in-Some.first.now in
    let others = c.in-Some.others.now in
    let i = c.loop-segment.segment-index in
    let split : all ≡ first ∷ others = c.in-Some.ensures.cases.0 in
    let is = c.as_str-in-loop-segment.ensures ∙ get_or_read others i c.segment-item.result c.loop-segment-test.true c.segment-item.is [] in
    let slash : string_bytes c.push.new.self ≡ string_bytes c.loop-segment.text ++ 47 ∷ [] =
    c.in_ok-push.ensures.bytes ∙ ap (λ t. string_bytes c.loop-segment.text ++ t) (c.in_ok-push.ensures.ascii (lit< tt)) in
    c.in_ok-push_str.ensures.bytes ∙ ap (λ t. t ++ c.as_str-in-loop-segment.result.now) slash
    ∙ join_next 47 all others first i c.as_str-in-loop-segment.result.now (string_bytes c.loop-segment.text) split c.loop-segment-test.true is c.loop-segment.invariant
