-- Where nothing goes on.
use Rattle.std.proofs.Common.{◌≡◌, ℕ, List, [], ◌∷◌, refl}
use Rattle.std.specs.Prelude.{Err}
use Rattle.vtl_grammar.specs.Faults.{bad}
use Rattle.vtl_grammar.specs.Directives.{bad_form}
use Rattle.vtl_words.specs.Views.{bad_at, bad_form_at}

pub bad_is : {A : Type 0} (bs : List ℕ) → bad {A = A} bs ≡ Err (bad_at bs)
bad_is [] = refl
bad_is (b ∷ bs) = refl

pub bad_form_is : {A : Type 0} (at : ℕ) (bs : List ℕ) → bad_form {A = A} at bs ≡ Err (bad_form_at at bs)
bad_form_is at [] = refl
bad_form_is at (b ∷ bs) = refl
