-- What is known in the middle of a loop.
use Rattle.std.proofs.Common.{◌≡◌, List, [], ◌∷◌, ◌++◌, ap, ◌∙◌, sym}
use Rattle.std.specs.Prelude.{Ok, Err}
use Rattle.std.proofs.lemmas.List.{append_assoc, append-nil}
use Rattle.vtl_values.specs.Val.{Val}
use Rattle.vtl_values.specs.Printed.{printed}
use Rattle.vtl_eval.specs.World.{Outcome}
use Rattle.vtl_eval.specs.Evaluated.{all_printed}

-- more before what is still to come
abbrev pub with_front : {A : Type 0} → List A → Outcome (List A) → Outcome (List A)
with_front front (Ok (xs, s)) = Ok (front ++ xs, s)
with_front front (Err e) = Err e

-- one value more in front
pub printed_more : (vs : List Val) (v : Val) → all_printed (vs ++ v ∷ []) ≡ all_printed vs ++ printed v
printed_more [] v = append-nil (printed v)
printed_more (u ∷ vs) v = ap (λ t. printed u ++ t) (printed_more vs v) ∙ sym (append_assoc (printed u) (all_printed vs) (printed v))
