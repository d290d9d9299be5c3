use Rattle.std.proofs.Common.{◌≡◌, map, vec_len}
use Rattle.vtl_texts.specs.Places.{without_empty_end}
use Rattle.vtl_texts.proofs.pieces.drop_empty_end.Given as goal

abbrev pub invariant-loop-last : goal.invariant-loop-last
invariant-loop-last l = without_empty_end (map (λ p. p.now) l.pieces.items) ≡ without_empty_end (map (λ p. p.now) l.fn.pieces.items)

abbrev pub decreases-loop-last : goal.decreases-loop-last
decreases-loop-last l = vec_len l.pieces
