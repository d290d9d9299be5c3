-- What the parts of a path take.
use Rattle.std.proofs.Common.{◌≡◌, ◌≢◌, ℕ, suc, true, false, not, eqb, ◌&&◌, List, [], ◌∷◌, length, refl, ap, sym, ◌∙◌, subst, arith}
use Rattle.std.proofs.lemmas.Bool.Decides.{nat_tests}
use Rattle.std.proofs.lemmas.List.Elements.{All-nil, All-cons, All-head, All-tail}
use Rattle.std.proofs.lemmas.Slice.Eq.{bytes_eq-Decides}
use Rattle.std.specs.List.{All, list_all}
use Rattle.std.specs.Str.{bytes_eq}
use Rattle.resource_tree.specs.declared.part.Part.{Part}
use Rattle.resource_tree.specs.declared.part.Part.TheVariants.{Literal, Parameter, Greedy}
use Rattle.resource_tree.specs.Matching.{matches, params, Takes, none, literal, parameter, greedy}
use Rattle.resource_tree.specs.Sharing.{greedy_last}
use Rattle.resource_tree.specs.Spelling.{has_bytes}
use Rattle.resource_tree.proofs.Unique.{both_true, rest_last, greedy_alone}

some_bytes : (n : ℕ) → not (eqb (suc n) 0) ≡ true
some_bytes n = grind (arith, nat_tests)

has_some : (text : List ℕ) → text ≢ [] → has_bytes text ≡ true
has_some [] some = absurd (some refl)
has_some (b ∷ text) some = some_bytes (length text)

some_has : (text : List ℕ) → has_bytes text ≡ true → text ≢ []
some_has text h e = let no : true ≡ false = sym h ∙ ap has_bytes e in absurd (cc)

all_have : (texts : List (List ℕ)) → All (λ text. text ≢ []) texts → list_all has_bytes texts ≡ true
all_have [] all = refl
all_have (text ∷ texts) all =
    ap (λ b. b && list_all has_bytes texts) (has_some text (All-head (λ t. t ≢ []) text texts all)) ∙ all_have texts (All-tail (λ t. t ≢ []) text texts all)

have_all : (texts : List (List ℕ)) → list_all has_bytes texts ≡ true → All (λ text. text ≢ []) texts
have_all [] h = All-nil (λ t. t ≢ [])
have_all (text ∷ texts) h =
    let both = both_true (has_bytes text) (list_all has_bytes texts) h in
    All-cons (λ t. t ≢ []) text texts (some_has text both.0) (have_all texts both.1)

pub taken_matches : {parts : List Part} {segments : List (List ℕ)} {found : List (List ℕ × List ℕ)} → Takes parts segments found → (matches parts segments ≡ true) × (params parts segments ≡ found)
taken_matches none = (refl, refl)
taken_matches (literal {parts = parts} {segments = segments} text some rest) =
    let ih = taken_matches rest in
    (ap (λ b. b && (bytes_eq text text && matches parts segments)) (has_some text some) ∙ ap (λ b. b && matches parts segments) ((bytes_eq-Decides text text).1 refl) ∙ ih.0, ih.1)
taken_matches (parameter {parts = parts} {segments = segments} name text some rest) =
    let ih = taken_matches rest in
    (ap (λ b. b && matches parts segments) (has_some text some) ∙ ih.0, ap (λ found. (name, text) ∷ found) ih.1)
taken_matches (greedy name first others all) = (all_have (first ∷ others) all, refl)

pub matched_takes : (parts : List Part) (segments : List (List ℕ)) → greedy_last parts ≡ true → matches parts segments ≡ true → Takes parts segments (params parts segments)
matched_takes [] [] last m = none
matched_takes [] (s ∷ segments) last m = absurd (cc)
matched_takes (p ∷ parts) [] last m = absurd (cc)
matched_takes (Literal text ∷ parts) (s ∷ segments) last m =
    let outer = both_true (has_bytes s) (bytes_eq text s && matches parts segments) m in
    let inner = both_true (bytes_eq text s) (matches parts segments) outer.1 in
    let same : s ≡ text = sym ((bytes_eq-Decides text s).0 inner.0) in
    subst (λ t. Takes (Literal t ∷ parts) (s ∷ segments) (params parts segments)) same
    (literal s (some_has s outer.0) (matched_takes parts segments (rest_last _ _ last) inner.1))
matched_takes (Parameter name ∷ parts) (s ∷ segments) last m =
    let both = both_true (has_bytes s) (matches parts segments) m in
    parameter name s (some_has s both.0) (matched_takes parts segments (rest_last _ _ last) both.1)
matched_takes (Greedy name ∷ parts) (s ∷ segments) last m =
    subst (λ ps. Takes (Greedy name ∷ ps) (s ∷ segments) (params (Greedy name ∷ parts) (s ∷ segments))) (sym (greedy_alone name parts last))
    (greedy name s segments (have_all (s ∷ segments) m))
