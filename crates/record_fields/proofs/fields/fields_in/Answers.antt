use Rattle.std.proofs.Common.{◌≡◌, ◌∙◌, ◌∷◌, [], sym, ap, ◌++◌, length, drop, eqb, rules, tests, Some}
use Rattle.std.specs.Slice.Iter.{split_rest, split_done, split_callee}
use Rattle.std.proofs.lemmas.List.{length_push}
use Rattle.std.proofs.lemmas.Iterator.Consumers.{YieldsList-turn, YieldsList-end}
use Rattle.std.proofs.lemmas.Iterator.Splits.{YieldsList-from_slice_split}
use Rattle.record_fields.specs.Coding.{all_decoded, decoded, parts_of}
use Rattle.record_fields.proofs.Parts.{with_rest, field_next, none_next, none_left}
use Rattle.record_fields.proofs.fields.fields_in.Goals as goal

pub loop-part-preserved : goal.loop-part-preserved
loop-part-preserved c =
    let g = c.into_iter-part-iterator.ensures.into_iter_gives in
    let t = YieldsList-turn (YieldsList-from_slice_split _ (λ b. eqb b 32) c.args.line.now (ap split_rest g ∙ c.split-part-items.ensures.rest) (ap split_done g ∙ c.split-part-items.ensures.done) (ap split_callee g ∙ c.split-part-items.ensures.closure) (λ x r q k. search (rules, tests))) c.loop-part.yielded _ c.loop-part.yielded_by _ _ c.in-Some.part c.in-Some.is c.next.ensures.steps in
    let read : Some c.in-Some-2.field ≡ decoded c.in-Some.part.now = sym c.in-Some-2.is ∙ c.in_ok-field.ensures in
    let parts = parts_of c.args.line.now in
    let n = length c.loop-part.yielded in
    ap (λ items. with_rest items (all_decoded (drop (length (c.loop-part.yielded ++ c.in-Some.part ∷ [])) parts))) c.in_ok-push.ensures.items
    ∙ ap (λ k. with_rest (c.loop-part.fields.items ++ c.in-Some-2.field ∷ []) (all_decoded (drop k parts))) (length_push c.loop-part.yielded c.in-Some.part)
    ∙ field_next parts n c.in-Some.part.now c.in-Some-2.field c.loop-part.fields.items t.0 t.1 read ∙ c.loop-part.invariant

pub returns-in_default : goal.returns-in_default
returns-in_default c =
    let g = c.into_iter-part-iterator.ensures.into_iter_gives in
    let t = YieldsList-turn (YieldsList-from_slice_split _ (λ b. eqb b 32) c.args.line.now (ap split_rest g ∙ c.split-part-items.ensures.rest) (ap split_done g ∙ c.split-part-items.ensures.done) (ap split_callee g ∙ c.split-part-items.ensures.closure) (λ x r q k. search (rules, tests))) c.loop-part.yielded _ c.loop-part.yielded_by _ _ c.in-Some.part c.in-Some.is c.next.ensures.steps in
    sym (none_next (parts_of c.args.line.now) (length c.loop-part.yielded) c.in-Some.part.now c.loop-part.fields.items t.0 t.1 (sym c.in_ok-field.ensures ∙ c.in_default.is)) ∙ c.loop-part.invariant

pub returns : goal.returns
returns c =
    let g = c.into_iter-part-iterator.ensures.into_iter_gives in
    let t = YieldsList-end (YieldsList-from_slice_split _ (λ b. eqb b 32) c.args.line.now (ap split_rest g ∙ c.split-part-items.ensures.rest) (ap split_done g ∙ c.split-part-items.ensures.done) (ap split_callee g ∙ c.split-part-items.ensures.closure) (λ x r q k. search (rules, tests))) c.loop-part.yielded _ c.loop-part.yielded_by _ _ c.in-None.is c.next.ensures.steps in
    sym (none_left (parts_of c.args.line.now) (length c.loop-part.yielded) c.loop-part.fields.items t.1) ∙ c.loop-part.invariant
