use Rattle.std.proofs.Common.{◌≡◌, [], ◌∷◌, Some, None, ◌++◌, sym, ap, ◌∙◌, rules}
use Rattle.std.specs.Option.{option_map}
use Rattle.api_mappings.specs.Uris.{outside, pieces_of, then_pieces}
use Rattle.api_parts.specs.declared.uri.Piece.TheVariants.{Literal}
use Rattle.api_mappings.proofs.Braces.{no_close, closes, shorter, last_piece, goes_on}
use Rattle.api_mappings.proofs.uri.pieces.Goals as goal

pub loop-front-smaller : goal.loop-front-smaller
loop-front-smaller c = shorter c.loop-front.rest.now c.in-Some.front.now c.in-Some.behind.now c.in-Some-split_once.inside.now c.in-Some-split_once.more.now c.in-Some.ensures c.in-Some-split_once.ensures

pub loop-front-preserved : goal.loop-front-preserved
loop-front-preserved c = record {
  utf8 = search rules;
  same = goes_on c.loop-front.rest.now c.in-Some.front.now c.in-Some.behind.now c.in-Some-split_once.inside.now c.in-Some-split_once.more.now c.in-Some.ensures c.in-Some-split_once.ensures _ _ _ _ _ _ (rw c.in-Some-2.is at c.in_ok-literal.ensures) c.in_ok-push.ensures.items c.in_ok-push-2.ensures.items c.loop-front.invariant.same;
}

pub returns-in_default-split_once : goal.returns-in_default-split_once
unfolding pieces_of
returns-in_default-split_once c = sym (ap (option_map (λ more. c.loop-front.pieces.items ++ more)) (no_close c.loop-front.rest.now c.in-Some.front.now c.in-Some.behind.now [] [] c.in-Some.ensures c.in_default-split_once.ensures)) ∙ c.loop-front.invariant.same

pub returns-in_default-2 : goal.returns-in_default-2
unfolding pieces_of
returns-in_default-2 c =
    let none : None ≡ _ = rw c.in_default-2.is at c.in_ok-literal.ensures in
    ap (λ x. option_map (λ more. c.loop-front.pieces.items ++ more) (then_pieces x (outside [] c.in-Some-split_once.more.now))) none
    ∙ sym (ap (option_map (λ more. c.loop-front.pieces.items ++ more)) (closes c.loop-front.rest.now c.in-Some.front.now c.in-Some.behind.now c.in-Some-split_once.inside.now c.in-Some-split_once.more.now c.in-Some.ensures c.in-Some-split_once.ensures))
    ∙ c.loop-front.invariant.same

pub returns : goal.returns
unfolding pieces_of
returns c =
    ap Some c.in_ok-push-3.ensures.items
    ∙ ap (λ x. Some (c.loop-front.pieces.items ++ Literal x ∷ [])) c.in_ok-last.ensures
    ∙ sym (ap (option_map (λ more. c.loop-front.pieces.items ++ more)) (last_piece c.loop-front.rest.now c.in_default.ensures))
    ∙ c.loop-front.invariant.same
