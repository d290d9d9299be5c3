use Rattle.std.proofs.Common.{sym, ap, ◌∙◌, eqb-true}
use Rattle.vtl_texts.specs.Places.{split_at, without_empty_end}
use Rattle.vtl_texts.proofs.Rounds.{parts_empty}
use Rattle.vtl_texts.proofs.pieces.split.Goals as goal

pub returns-then-is_empty : goal.returns-then-is_empty
unfolding split_at
returns-then-is_empty c =
    rw (← c.if-is_empty.ensures) (c.in_ok-pieces.ensures ∙ parts_empty c.args.text.now c.args.at.now (eqb-true _ 0 (sym c.if-is_empty.ensures)))

pub returns : goal.returns
unfolding split_at
returns c = rw (← c.if-is_empty.ensures) (c.drop_empty_end.ensures ∙ ap without_empty_end c.in_ok-pieces.ensures)
