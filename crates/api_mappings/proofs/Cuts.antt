-- What stands at the front of a text, by where it first stands.
use Rattle.std.proofs.Common.{◌≡◌, ℕ, suc, List, [], ◌∷◌, length, Option, Some, None, MatchOption, refl, sym, ap, ◌∙◌, true, false, arith}
use Rattle.std.proofs.lemmas.Bool.Decides.{nat_tests}
use Rattle.std.specs.Prelude.{◌==◌}
use Rattle.std.specs.Option.{option_map}
use denote.Ref.{Bor}
use Rattle.resource_tree.specs.Reading.{before_last}
use Rattle.vtl_texts.specs.Places.{behind, cut, earliest}

-- what stands behind a cut that has nothing before it
abbrev fronts : Option (List ℕ × List ℕ) → Option (List ℕ)
fronts None = None
fronts (Some ([], rest)) = Some rest
fronts (Some (b ∷ before, rest)) = None

fronts_map : (o : Option (List ℕ)) → fronts (option_map (λ rest. ([], rest)) o) ≡ o
fronts_map None = refl
fronts_map (Some rest) = refl

fronts_earliest : (b : ℕ) (o : Option (List ℕ)) (later : Option (List ℕ × List ℕ)) → fronts (earliest b o later) ≡ o
fronts_earliest b (Some rest) later = refl
fronts_earliest b None None = refl
fronts_earliest b None (Some c) = refl

fronts_cut : (t s : List ℕ) → fronts (cut t s) ≡ behind s t
fronts_cut [] s = fronts_map (behind s [])
fronts_cut (b ∷ t) s = fronts_earliest b (behind s (b ∷ t)) (cut t s)

no_zero : (n : ℕ) → (suc n == 0) ≡ true → ⊥
no_zero n h = grind (arith, nat_tests)

zero_is : (0 == 0) ≡ false → ⊥
zero_is h = cc

pub none_front : (t s : List ℕ) → None ≡ cut t s → None ≡ behind s t
none_front t s e = ap fronts e ∙ fronts_cut t s

pub some_front : (t s before rest : List ℕ) → Some (before, rest) ≡ cut t s → (length before == 0) ≡ true → Some rest ≡ behind s t
some_front t s [] rest e h = ap fronts e ∙ fronts_cut t s
some_front t s (b ∷ before) rest e h = absurd (no_zero (length before) h)

pub no_front : (t s before rest : List ℕ) → Some (before, rest) ≡ cut t s → (length before == 0) ≡ false → None ≡ behind s t
no_front t s [] rest e h = absurd (zero_is h)
no_front t s (b ∷ before) rest e h = ap fronts e ∙ fronts_cut t s

-- what stands before a last byte, as an option
pub last_of : (c : ℕ) (text : List ℕ) (r : Option (Bor (List ℕ))) → MatchOption r (before_last c text ≡ None) (λ x. before_last c text ≡ Some x.now) → option_map (λ t. t.now) r ≡ before_last c text
last_of c text None e = sym e
last_of c text (Some x) e = sym e
