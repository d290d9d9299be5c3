-- What follows of each lane is so of what all of them tell.
use Rattle.std.proofs.Common.{◌≡◌, ℕ, List, [], ◌∷◌, map, All, get_or, subst, sym}
use Rattle.std.proofs.lemmas.List.Elements.{All-nil, All-cons, All-map}

pub of_both : {X : Type 0} (P : X → Type 0) (lanes : List X) (a b : X) → lanes ≡ a ∷ b ∷ [] → P a → P b → All P lanes
of_both P lanes a b is first second = subst (All P) (sym is) (All-cons P a (b ∷ []) first (All-cons P b [] second (All-nil P)))

pub all_told : {A X : Type 0} (Q : A → Type 0) (P : X → Type 0) (told : A → X) (lanes : List A) → ((lane : A) → Q lane → P (told lane)) → All Q lanes → All P (map told lanes)
all_told Q P told lanes each all = All-map P told lanes (λ k d lt. each (get_or lanes k d) (all k d lt))
