-- What holds of the members that are read, one after another.
use Rattle.std.proofs.Common.{◌≡◌, ℕ, Bool, true, false, cond, List, [], ◌∷◌, ◌++◌, Result, Ok, Err, refl, sym, subst, append_assoc, append-nil}
use Rattle.api_parts.specs.Reading.{Text, Read, ◌>>=◌, each, under}

-- what follows a value was read of it
pub bind_ok : {A B : Type 0} (r : Read A) (f : A → Read B) (y : B) → (r >>= f) ≡ Ok y → (x : A) × (r ≡ Ok x) × (f x ≡ Ok y)
bind_ok (Ok x) f y e = (x, refl, e)
bind_ok (Err fault) f y e = absurd cc

pub ok_same : {A : Type 0} (x y : A) → ◌≡◌ {A = Read A} (Ok x) (Ok y) → x ≡ y
ok_same x y e = cc

-- a choice, by its sides
pub either : {A : Type 0} (P : Type 0) (b : Bool) (r s : Read A) (y : A) → (b ≡ true → r ≡ Ok y → P) → (b ≡ false → s ≡ Ok y → P) → cond b r s ≡ Ok y → P
either P true r s y f g e = f refl e
either P false r s y f g e = g refl e

-- what each member adds to, behind those before it, all add to
module _ {G V : Type 0} (add : G → Text → V → Read G) (R : G → List (Text × V) → Type 0)
    (step : (g : G) (seen : List (Text × V)) (x : Text) (v : V) (h : G) → R g seen → add g x v ≡ Ok h → R h (seen ++ (x, v) ∷ [])) where
  one_gathers : (m : Text × V) (ms seen : List (Text × V)) (g h : G) → R g seen → ((more : G) → R more (seen ++ m ∷ []) → each add more ms ≡ Ok h → R h (seen ++ m ∷ ms))
      → (r : Read G) → add g m.0 m.1 ≡ r → (under m.0 r >>= λ more. each add more ms) ≡ Ok h → R h (seen ++ m ∷ ms)
  one_gathers m ms seen g h p rest (Ok more) is e = rest more (step g seen m.0 m.1 more p is) e
  one_gathers m ms seen g h p rest (Err fault) is e = absurd cc

  pub each_gathers : (ms seen : List (Text × V)) (g h : G) → R g seen → each add g ms ≡ Ok h → R h (seen ++ ms)
  each_gathers [] seen g h p e = subst (R h) (sym (append-nil seen)) (subst (λ k. R k seen) (ok_same g h e) p)
  each_gathers (m ∷ ms) seen g h p e =
      one_gathers m ms seen g h p (λ more q f. subst (R h) (append_assoc seen (m ∷ []) ms) (each_gathers ms (seen ++ m ∷ []) more h q f)) (add g m.0 m.1) refl e
