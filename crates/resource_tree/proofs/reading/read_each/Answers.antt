use Rattle.std.proofs.Common.{◌≡◌, ◌∙◌, ◌∷◌, [], sym, ap, length, map, eqb, Some, None, lit<}
use Rattle.std.proofs.lemmas.List.{map-append}
use Rattle.std.proofs.lemmas.Iterator.Consumers.{YieldsList-turn, YieldsList-end}
use Rattle.std.proofs.lemmas.Iterator.Splits.{YieldsList-from_str_split}
use Rattle.std.specs.List.{slice_split}
use Rattle.std.specs.Str.Iter.{split_text, split_has_more, split_pattern}
use Rattle.resource_tree.specs.Reading.{each_part, part_of}
use Rattle.resource_tree.proofs.Cuts.{each_part_push, each_part_none}
use Rattle.resource_tree.proofs.reading.read_each.Goals as goal

pub loop-text-preserved : goal.loop-text-preserved
loop-text-preserved c =
    let read : Some c.in-Some-2.part ≡ part_of c.in-Some.text.now = sym c.in-Some-2.is ∙ c.in_ok-part.ensures in
    ap each_part (map-append (λ text. text.now) c.loop-text.yielded (c.in-Some.text ∷ []))
    ∙ each_part_push (map (λ text. text.now) c.loop-text.yielded) c.in-Some.text.now c.loop-text.parts.items c.in-Some-2.part c.loop-text.invariant read
    ∙ ap (λ items. Some items) (sym c.in_ok-push-in-Some-2.ensures.items)

pub returns-in-None-2 : goal.returns-in-None-2
returns-in-None-2 c =
    let text = c.in-Some.text.now in
    let g = c.into_iter-text-iterator.ensures.into_iter_gives in
    let t = YieldsList-turn (YieldsList-from_str_split 47 c.args.rest.now (lit< tt) (ap split_text g ∙ c.split-text-items.ensures.text) (ap split_has_more g ∙ c.split-text-items.ensures.has_more) (ap split_pattern g ∙ c.split-text-items.ensures.pattern)) c.loop-text.yielded _ c.loop-text.yielded_by _ _ c.in-Some.text c.in-Some.is c.next.ensures.steps in
    let none : part_of text ≡ None = sym c.in_ok-part.ensures ∙ c.in-None-2.is in
    sym (each_part_none (slice_split (λ b. eqb b 47) c.args.rest.now) (length c.loop-text.yielded) text t.0 (ap part_of (sym t.1) ∙ none))

pub returns : goal.returns
returns c =
    let g = c.into_iter-text-iterator.ensures.into_iter_gives in
    let t = YieldsList-end (YieldsList-from_str_split 47 c.args.rest.now (lit< tt) (ap split_text g ∙ c.split-text-items.ensures.text) (ap split_has_more g ∙ c.split-text-items.ensures.has_more) (ap split_pattern g ∙ c.split-text-items.ensures.pattern)) c.loop-text.yielded _ c.loop-text.yielded_by _ _ c.in-None.is c.next.ensures.steps in
    sym c.loop-text.invariant ∙ ap each_part t.0
