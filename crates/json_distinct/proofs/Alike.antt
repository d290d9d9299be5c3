-- Values that are the same have one code, where the first repeats no name.
use Rattle.std.proofs.Common.{◌≡◌, ℕ, ℤ, suc, ◌+◌, ◌%◌, ◌^◌, Bool, true, false, ◌&&◌, List, [], Option, Some, None, refl, sym, ap, ◌∙◌, arith}
use Rattle.std.specs.Prelude.{◌==◌, if◌then◌else◌}
use Rattle.std.specs.Ordering.{int_cmp, is_eq}
use Rattle.std.specs.Str.{bytes_eq}
use Rattle.std.proofs.lemmas.Bool.Decides.{Decides-int_eq, Decides-eqb}
use Rattle.std.proofs.lemmas.Slice.Eq.{bytes_eq-Decides}
use Rattle.json_subset.specs.Tree.{Tree, node, Form, null, bool, number, text, list, object, Trees, no_trees, tree, Members, no_members, member, Number, whole, decimal, wide}
use Rattle.json_subset.specs.Documents.{first_named, count_members}
use Rattle.json_values.specs.Same.{same, same_form, same_items, all_in, if_found, same_number, same_bool}
use Rattle.json_distinct.specs.Codes.{hashed, code, code_of_form, code_behind, code_of_number, code_of_bool, sum}
use Rattle.json_distinct.specs.Distinct.{IsOnceNamed, IsOnceNamedForm, AreOnceNamed, HasNamesOnce}

-- both of two that are true
first_of : (a b : Bool) → (a && b) ≡ true → a ≡ true
first_of true b e = refl
first_of false b e = e

second_of : (a b : Bool) → (a && b) ≡ true → b ≡ true
second_of true b e = e
second_of false b e = absurd cc

-- the members without the first of this name
without : Members → List ℕ → Members
without no_members x = no_members
without (member y t ms) x = if bytes_eq y x then ms else member y t (without ms x)

same_text : (s t : List ℕ) → bytes_eq s t ≡ true → s ≡ t
same_text s t e = (bytes_eq-Decides s t).0 e

-- the one that was taken out, and the others
sum_without : (kind : ℕ) (ms : Members) (x : List ℕ) (u : Tree) → first_named ms x ≡ Some u → sum kind ms ≡ hashed kind x (code u) 0 + sum kind (without ms x)
unfolding without
sum_without kind no_members x u e = absurd cc
sum_without kind (member y t ms) x u e = go (bytes_eq y x) refl e (sum_without kind ms x u)
  where
    go : (b : Bool) → bytes_eq y x ≡ b → (if b then Some t else first_named ms x) ≡ Some u → (first_named ms x ≡ Some u → sum kind ms ≡ hashed kind x (code u) 0 + sum kind (without ms x))
        → hashed kind y (code t) 0 + sum kind ms ≡ hashed kind x (code u) 0 + sum kind (if b then ms else member y t (without ms x))
    go true q is rest = let name : y ≡ x = same_text y x q in let value : t ≡ u = cc in ap (λ z. hashed kind z (code t) 0 + sum kind ms) name ∙ ap (λ z. hashed kind x (code z) 0 + sum kind ms) value
    go false q is rest = let r : sum kind ms ≡ hashed kind x (code u) 0 + sum kind (without ms x) = rest is in omega (arith, r)

count_without : (ms : Members) (x : List ℕ) (u : Tree) → first_named ms x ≡ Some u → count_members ms ≡ suc (count_members (without ms x))
unfolding without
count_without no_members x u e = absurd cc
count_without (member y t ms) x u e = go (bytes_eq y x) e (count_without ms x u)
  where
    go : (b : Bool) → (if b then Some t else first_named ms x) ≡ Some u → (first_named ms x ≡ Some u → count_members ms ≡ suc (count_members (without ms x)))
        → suc (count_members ms) ≡ suc (count_members (if b then ms else member y t (without ms x)))
    go true is rest = refl
    go false is rest = ap suc (rest is)

-- another name is found as before
found_without : (ms : Members) (x q : List ℕ) → bytes_eq x q ≡ false → first_named (without ms x) q ≡ first_named ms q
unfolding without
found_without no_members x q other = refl
found_without (member y t ms) x q other = go (bytes_eq y x) refl (found_without ms x q other)
  where
    go : (b : Bool) → bytes_eq y x ≡ b → first_named (without ms x) q ≡ first_named ms q → first_named (if b then ms else member y t (without ms x)) q ≡ (if bytes_eq y q then Some t else first_named ms q)
    go true e rest = let name : y ≡ x = same_text y x e in let not_it : bytes_eq y q ≡ false = ap (λ z. bytes_eq z q) name ∙ other in sym (ap (λ b. if b then Some t else first_named ms q) not_it)
    go false e rest = ap (λ o. if bytes_eq y q then Some t else o) rest

differ : (x y : List ℕ) → bytes_eq y x ≡ false → bytes_eq x y ≡ false
differ x y f = go (bytes_eq x y) refl
  where
    go : (b : Bool) → bytes_eq x y ≡ b → bytes_eq x y ≡ false
    go false h = h
    go true h = let name : x ≡ y = same_text x y h in let back : bytes_eq y x ≡ true = (bytes_eq-Decides y x).1 (sym name) in absurd cc

-- members without this name are in the others without it
in_without : (ms ns : Members) (x : List ℕ) → first_named ms x ≡ None → all_in ms ns ≡ true → all_in ms (without ns x) ≡ true
in_without no_members ns x none inside = refl
in_without (member y t ms) ns x none inside = go (bytes_eq y x) refl none (λ is. in_without ms ns x is (second_of (if_found (same t) (first_named ns y)) (all_in ms ns) inside))
  where
    go : (b : Bool) → bytes_eq y x ≡ b → (if b then Some t else first_named ms x) ≡ None → (first_named ms x ≡ None → all_in ms (without ns x) ≡ true)
        → (if_found (same t) (first_named (without ns x) y) && all_in ms (without ns x)) ≡ true
    go true e is rest = absurd cc
    go false e is rest =
        ap (λ o. if_found (same t) o && all_in ms (without ns x)) (found_without ns x y (differ x y e))
        ∙ ap (λ b. b && all_in ms (without ns x)) (first_of (if_found (same t) (first_named ns y)) (all_in ms ns) inside)
        ∙ rest is

same_whole : (y z : ℤ) → is_eq (int_cmp y z) ≡ true → y ≡ z
same_whole y z e = (Decides-int_eq y z).0 e

number_alike : (x y : Number) (s t : List ℕ) → same_number x s y t ≡ true → code_of_number x s ≡ code_of_number y t
number_alike (whole y) (whole z) s t e = ap (λ w. code_of_number (whole w) s) (same_whole y z e)
number_alike decimal decimal s t e = ap (λ w. hashed 2 w 0 0) (same_text s t e)
number_alike wide wide s t e = ap (λ w. hashed 2 w 0 0) (same_text s t e)
number_alike (whole y) decimal s t e = absurd cc
number_alike (whole y) wide s t e = absurd cc
number_alike decimal (whole z) s t e = absurd cc
number_alike decimal wide s t e = absurd cc
number_alike wide (whole z) s t e = absurd cc
number_alike wide decimal s t e = absurd cc

bool_alike : (a b : Bool) → same_bool a b ≡ true → code_of_bool a ≡ code_of_bool b
bool_alike true true e = refl
bool_alike true false e = absurd cc
bool_alike false true e = absurd cc
bool_alike false false e = refl

suc_same : {m n : ℕ} → suc m ≡ suc n → m ≡ n
suc_same e = omega (arith, e)

-- what is found of a member's name has its code, and the others have theirs
taken_out : (kind : ℕ) (ms ns : Members) (x : List ℕ) (t : Tree) (o : Option Tree) → first_named ns x ≡ o → if_found (same t) o ≡ true
    → ((u : Tree) → same t u ≡ true → code t ≡ code u) → ((u : Tree) → first_named ns x ≡ Some u → sum kind ms ≡ sum kind (without ns x))
    → hashed kind x (code t) 0 + sum kind ms ≡ sum kind ns
taken_out kind ms ns x t None is e one others = absurd cc
taken_out kind ms ns x t (Some u) is e one others = ap (λ z. hashed kind x z 0 + sum kind ms) (one u e) ∙ ap (λ z. hashed kind x (code u) 0 + z) (others u is) ∙ sym (sum_without kind ns x u is)

mutual
  pub alike : (t u : Tree) → IsOnceNamed t → same t u ≡ true → code t ≡ code u
  alike (node a b f) (node c d g) once e = alike_form f g once e

  alike_form : (f g : Form) → IsOnceNamedForm f → same_form f g ≡ true → code_of_form f ≡ code_of_form g
  alike_form null null once e = refl
  alike_form (bool a) (bool b) once e = bool_alike a b e
  alike_form (number x s) (number y t) once e = number_alike x y s t e
  alike_form (text s) (text t) once e = ap (λ w. hashed 6 w 0 0) (same_text s t e)
  alike_form (list ts) (list us) once e = alike_items (hashed 7 [] 0 0) ts us once e
  alike_form (object ms) (object ns) once e =
      let counts : count_members ms ≡ count_members ns = (Decides-eqb _ _).0 (first_of (count_members ms == count_members ns) (all_in ms ns) e) in
      let inside : all_in ms ns ≡ true = second_of (count_members ms == count_members ns) (all_in ms ns) e in
      ap (λ z. hashed 8 [] (z % 2 ^ 64) (sum 11 ms % 2 ^ 64)) (alike_members 10 ms ns once counts inside)
      ∙ ap (λ z. hashed 8 [] (sum 10 ns % 2 ^ 64) (z % 2 ^ 64)) (alike_members 11 ms ns once counts inside)
  alike_form null (bool b) once e = absurd cc
  alike_form null (number y t) once e = absurd cc
  alike_form null (text t) once e = absurd cc
  alike_form null (list us) once e = absurd cc
  alike_form null (object ns) once e = absurd cc
  alike_form (bool a) null once e = absurd cc
  alike_form (bool a) (number y t) once e = absurd cc
  alike_form (bool a) (text t) once e = absurd cc
  alike_form (bool a) (list us) once e = absurd cc
  alike_form (bool a) (object ns) once e = absurd cc
  alike_form (number x s) null once e = absurd cc
  alike_form (number x s) (bool b) once e = absurd cc
  alike_form (number x s) (text t) once e = absurd cc
  alike_form (number x s) (list us) once e = absurd cc
  alike_form (number x s) (object ns) once e = absurd cc
  alike_form (text s) null once e = absurd cc
  alike_form (text s) (bool b) once e = absurd cc
  alike_form (text s) (number y t) once e = absurd cc
  alike_form (text s) (list us) once e = absurd cc
  alike_form (text s) (object ns) once e = absurd cc
  alike_form (list ts) null once e = absurd cc
  alike_form (list ts) (bool b) once e = absurd cc
  alike_form (list ts) (number y t) once e = absurd cc
  alike_form (list ts) (text t) once e = absurd cc
  alike_form (list ts) (object ns) once e = absurd cc
  alike_form (object ms) null once e = absurd cc
  alike_form (object ms) (bool b) once e = absurd cc
  alike_form (object ms) (number y t) once e = absurd cc
  alike_form (object ms) (text t) once e = absurd cc
  alike_form (object ms) (list us) once e = absurd cc

  alike_items : (before : ℕ) (ts us : Trees) → AreOnceNamed ts → same_items ts us ≡ true → code_behind before ts ≡ code_behind before us
  alike_items before no_trees no_trees once e = refl
  alike_items before no_trees (tree u us) once e = absurd cc
  alike_items before (tree t ts) no_trees once e = absurd cc
  alike_items before (tree t ts) (tree u us) once e =
      alike_items (hashed 9 [] before (code t)) ts us once.1 (second_of (same t u) (same_items ts us) e)
      ∙ ap (λ z. code_behind (hashed 9 [] before z) us) (alike t u once.0 (first_of (same t u) (same_items ts us) e))

  alike_members : (kind : ℕ) (ms ns : Members) → HasNamesOnce ms → count_members ms ≡ count_members ns → all_in ms ns ≡ true → sum kind ms ≡ sum kind ns
  alike_members kind no_members no_members once counts inside = refl
  alike_members kind no_members (member y u ns) once counts inside = absurd (omega (arith, counts))
  alike_members kind (member x t ms) ns once counts inside =
      taken_out kind ms ns x t (first_named ns x) refl (first_of (if_found (same t) (first_named ns x)) (all_in ms ns) inside) (λ u e. alike t u once.1 e)
      (λ u is. alike_members kind ms (without ns x) once.2 (suc_same (counts ∙ count_without ns x u is)) (in_without ms ns x once.0 (second_of (if_found (same t) (first_named ns x)) (all_in ms ns) inside)))
