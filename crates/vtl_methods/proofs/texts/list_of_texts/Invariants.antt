use Rattle.std.proofs.Common.{◌≡◌, take, map}
use Rattle.vtl_values.specs.Val.{text}
use Rattle.vtl_methods.proofs.texts.list_of_texts.Given as goal

abbrev pub invariant-loop-part : goal.invariant-loop-part
invariant-loop-part l = l.made ≡ map text (map (λ p. p.now) (take l.part-index l.parts))
