-- Paths that clash.
use Rattle.std.proofs.Common.{◌≡◌, ◌≢◌, ℕ, Bool, true, false, not, ◌&&◌, ◌||◌, List, [], ◌∷◌, ◌++◌, refl, ap, sym, ◌∙◌, subst}
use Rattle.std.proofs.lemmas.Slice.Eq.{bytes_eq-Decides}
use Rattle.std.specs.Str.{bytes_eq}
use Rattle.resource_tree.specs.declared.part.Part.{Part}
use Rattle.resource_tree.specs.declared.part.Part.TheVariants.{Literal, Parameter, Greedy}
use Rattle.resource_tree.specs.Sharing.{same_part, renames, clashes, AreClashing, same, names, greedy_names}
use Rattle.resource_tree.proofs.Unique.{both_true}
use Rattle.resource_tree.proofs.Fronts.{same_part_is}

-- behind a part that both share
behind : {first second : List Part} (p : Part) → AreClashing first second → AreClashing (p ∷ first) (p ∷ second)
behind p (same parts) = same (p ∷ parts)
behind p (names shared rest others a b apart) = names (p ∷ shared) rest others a b apart
behind p (greedy_names shared rest others a b apart) = greedy_names (p ∷ shared) rest others a b apart

not_same : (a b : List ℕ) → not (bytes_eq a b) ≡ true → a ≢ b
not_same a b e f = let t : bytes_eq a b ≡ true = (bytes_eq-Decides a b).1 f in let no : false ≡ true = sym (ap not t) ∙ e in absurd (cc)

renamed : (p q : Part) (first second : List Part) → renames p q ≡ true → AreClashing (p ∷ first) (q ∷ second)
unfolding renames
renamed (Parameter a) (Parameter b) first second e = names [] first second a b (not_same a b e)
renamed (Greedy a) (Greedy b) first second e = greedy_names [] first second a b (not_same a b e)
renamed (Literal a) q first second e = absurd (cc)
renamed (Parameter a) (Literal b) first second e = absurd (cc)
renamed (Parameter a) (Greedy b) first second e = absurd (cc)
renamed (Greedy a) (Literal b) first second e = absurd (cc)
renamed (Greedy a) (Parameter b) first second e = absurd (cc)

pub clashing : (first second : List Part) → clashes first second ≡ true → AreClashing first second
clashing [] [] e = same []
clashing [] (q ∷ second) e = absurd (cc)
clashing (p ∷ first) [] e = absurd (cc)
clashing (p ∷ first) (q ∷ second) e = by_test (renames p q) refl e (clashing first second)
  where
    by_test : (t : Bool) → renames p q ≡ t → t || (same_part p q && clashes first second) ≡ true → (clashes first second ≡ true → AreClashing first second) → AreClashing (p ∷ first) (q ∷ second)
    by_test true r e ih = renamed p q first second r
    by_test false r e ih =
        let both = both_true (same_part p q) (clashes first second) e in
        subst (λ x. AreClashing (p ∷ first) (x ∷ second)) (same_part_is p q both.0) (behind p (ih both.1))

bytes_same : (a : List ℕ) → bytes_eq a a ≡ true
bytes_same a = (bytes_eq-Decides a a).1 refl

bytes_apart : (a b : List ℕ) → a ≢ b → bytes_eq a b ≡ false
bytes_apart a b apart = by_test (bytes_eq a b) refl
  where
    by_test : (t : Bool) → bytes_eq a b ≡ t → t ≡ false
    by_test false e = refl
    by_test true e = absurd (apart ((bytes_eq-Decides a b).0 e))

-- a part is the same as itself, and not renamed
itself : (p : Part) → (same_part p p ≡ true) × (renames p p ≡ false)
unfolding same_part renames
itself (Literal a) = (bytes_same a, refl)
itself (Parameter a) = (bytes_same a, ap not (bytes_same a))
itself (Greedy a) = (bytes_same a, ap not (bytes_same a))

more : (p : Part) (first second : List Part) → clashes first second ≡ true → clashes (p ∷ first) (p ∷ second) ≡ true
more p first second e =
    let is = itself p in
    ap (λ r. r || (same_part p p && clashes first second)) is.1 ∙ ap (λ s. s && clashes first second) is.0 ∙ e

front : (shared first second : List Part) → clashes first second ≡ true → clashes (shared ++ first) (shared ++ second) ≡ true
front [] first second e = e
front (p ∷ shared) first second e = more p (shared ++ first) (shared ++ second) (front shared first second e)

all_same : (parts : List Part) → clashes parts parts ≡ true
all_same [] = refl
all_same (p ∷ parts) = more p parts parts (all_same parts)

names_apart : (a b : List ℕ) (rest others : List Part) → a ≢ b → clashes (Parameter a ∷ rest) (Parameter b ∷ others) ≡ true
unfolding renames
names_apart a b rest others apart = ap (λ t. not t || (same_part (Parameter a) (Parameter b) && clashes rest others)) (bytes_apart a b apart)

greedy_apart : (a b : List ℕ) (rest others : List Part) → a ≢ b → clashes (Greedy a ∷ rest) (Greedy b ∷ others) ≡ true
unfolding renames
greedy_apart a b rest others apart = ap (λ t. not t || (same_part (Greedy a) (Greedy b) && clashes rest others)) (bytes_apart a b apart)

pub clash_found : {first second : List Part} → AreClashing first second → clashes first second ≡ true
clash_found (same parts) = all_same parts
clash_found (names shared rest others a b apart) = front shared (Parameter a ∷ rest) (Parameter b ∷ others) (names_apart a b rest others apart)
clash_found (greedy_names shared rest others a b apart) = front shared (Greedy a ∷ rest) (Greedy b ∷ others) (greedy_apart a b rest others apart)
