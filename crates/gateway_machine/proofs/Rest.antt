-- What holds of all holds of the rest.
use Rattle.std.proofs.Common.{suc, List, ◌∷◌, All, arith}

pub of_rest : {A : Type 0} (P : A → Type 0) (x : A) (xs : List A) → All P (x ∷ xs) → All P xs
of_rest P x xs all k d within = all (suc k) d (omega (arith, within))
