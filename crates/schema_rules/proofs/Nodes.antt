-- Schemas one by one.
use Rattle.std.proofs.Common.{◌≡◌, ℕ, zero, suc, List, [], ◌∷◌, Option, Some, ap, sym, ◌∙◌, subst, unwrap_or}
use Rattle.std.specs.Prelude.{slice_get}
use Rattle.schema_rules.specs.Made.{AllWellMade, AreWellMade}
use Rattle.schema_rules.specs.Views.{IsSoundNode}
use Rattle.schema_rules.specs.declared.rule.Node.{Node}

pub made_at : (ns : List Node) (k : ℕ) (x : Node) → AreWellMade ns → slice_get ns k ≡ Some x → AllWellMade x.rules.items
made_at [] k x h e = absurd cc
made_at (y ∷ ns) zero x h e = let same : y ≡ x = cc in let P : Node → Type 0 = λ z. AllWellMade z.rules.items in subst P same h.0
made_at (y ∷ ns) (suc k) x h e = made_at ns k x h.1 e

some_inj : {A : Type 0} (x y : A) → Some x ≡ Some y → x ≡ y
some_inj {A = A} x y e = let out : Option A → A = λ o. unwrap_or o x in ap out e

-- what holds of the schema that stands here holds of every schema that stands here
pub sound_here : (ns : List Node) (ts : List ℕ) (k : ℕ) (x : Node) → slice_get ns k ≡ Some x → IsSoundNode ns ts x → (y : Node) → slice_get ns k ≡ Some y → IsSoundNode ns ts y
sound_here ns ts k x at h y e = let P : Node → Type 0 = IsSoundNode ns ts in subst P (some_inj x y (sym at ∙ e)) h
