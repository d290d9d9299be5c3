-- What stands at the ends of a text, and what texts are read as.
use Rattle.std.proofs.Common.{◌≡◌, ◌≢◌, ℕ, ◌<◌, Bool, true, false, eqb, if◌then◌else◌, List, [], ◌∷◌, ◌++◌, length, get_or, Option, Some, None, MatchOption, refl, ap, ◌∙◌, sym, arith, zero, suc}
use Rattle.std.specs.Option.{option_map}
use Rattle.std.proofs.lemmas.Bool.Decides.{nat_tests}
use borrow.Author.Tests.{eqb-true}
use denote.Ref.{Bor}
use Rattle.resource_tree.specs.declared.part.Part.{Part}
use Rattle.resource_tree.specs.Reading.{behind_first, before_last, part_of, onto_parts, each_part}

same_byte : (c : ℕ) → eqb c c ≡ true
same_byte c = grind (arith, nat_tests)

pub behind_there : (c : ℕ) (rest : List ℕ) → behind_first c (c ∷ rest) ≡ Some rest
behind_there c rest = rw (same_byte c) refl

pub behind_none : (c : ℕ) (text : List ℕ) → ((rest : List ℕ) → text ≢ c ∷ rest) → behind_first c text ≡ None
behind_none c [] other = refl
behind_none c (b ∷ text) other = by_test (eqb b c) refl
  where
    by_test : (t : Bool) → eqb b c ≡ t → (if t then Some text else None) ≡ None
    by_test false e = refl
    by_test true e = absurd (other text (ap (λ x. x ∷ text) (eqb-true b c e)))

pub before_there : (c : ℕ) (front : List ℕ) → before_last c (front ++ c ∷ []) ≡ Some front
before_there c [] = rw (same_byte c) refl
before_there c (b ∷ []) = ap (option_map (λ front. b ∷ front)) (before_there c [])
before_there c (b ∷ x ∷ front) = ap (option_map (λ front. b ∷ front)) (before_there c (x ∷ front))

abbrev empty : Option (List ℕ)
empty = Some []

pub before_none : (c : ℕ) (text : List ℕ) → ((front : List ℕ) → text ≢ front ++ c ∷ []) → before_last c text ≡ None
before_none c [] other = refl
before_none c (b ∷ []) other = by_test (eqb b c) refl
  where
    by_test : (t : Bool) → eqb b c ≡ t → (if t then empty else None) ≡ None
    by_test false e = refl
    by_test true e = absurd (other [] (ap (λ x. x ∷ []) (eqb-true b c e)))
before_none c (b ∷ x ∷ text) other =
    ap (option_map (λ front. b ∷ front)) (before_none c (x ∷ text) (λ front e. other (b ∷ front) (ap (λ t. b ∷ t) e)))

-- what `strip_prefix` and `strip_suffix` answer of a character
pub prefix_cases : (c : ℕ) (text : List ℕ) (r : Option (Bor (List ℕ))) → MatchOption r ((rest : List ℕ) → text ≢ c ∷ rest) (λ x. text ≡ c ∷ x.now) → MatchOption r (behind_first c text ≡ None) (λ x. behind_first c text ≡ Some x.now)
prefix_cases c text None other = behind_none c text other
prefix_cases c text (Some x) is = ap (behind_first c) is ∙ behind_there c x.now

pub suffix_cases : (c : ℕ) (text : List ℕ) (r : Option (Bor (List ℕ))) → MatchOption r ((front : List ℕ) → text ≢ front ++ c ∷ []) (λ x. text ≡ x.now ++ c ∷ []) → MatchOption r (before_last c text ≡ None) (λ x. before_last c text ≡ Some x.now)
suffix_cases c text None other = before_none c text other
suffix_cases c text (Some x) is = ap (before_last c) is ∙ before_there c x.now

-- texts and one more, where it is a part
each_more : (texts : List (List ℕ)) (text : List ℕ) (part : Part) → part_of text ≡ Some part → each_part (texts ++ text ∷ []) ≡ option_map (λ ps. ps ++ part ∷ []) (each_part texts)
each_more [] text part e = ap (λ p. onto_parts p (Some [])) e
each_more (t ∷ texts) text part e = ap (onto_parts (part_of t)) (each_more texts text part e) ∙ by_parts (part_of t) (each_part texts)
  where
    by_parts : (p : Option Part) (ps : Option (List Part)) → onto_parts p (option_map (λ ps. ps ++ part ∷ []) ps) ≡ option_map (λ ps. ps ++ part ∷ []) (onto_parts p ps)
    by_parts None ps = refl
    by_parts (Some p) None = refl
    by_parts (Some p) (Some ps) = refl

pub each_part_push : (texts : List (List ℕ)) (text : List ℕ) (parts : List Part) (part : Part) → each_part texts ≡ Some parts → Some part ≡ part_of text → each_part (texts ++ text ∷ []) ≡ Some (parts ++ part ∷ [])
each_part_push texts text parts part so_far is = each_more texts text part (sym is) ∙ ap (option_map (λ ps. ps ++ part ∷ [])) so_far

onto_none : (part : Option Part) → onto_parts part None ≡ None
onto_none None = refl
onto_none (Some part) = refl

-- texts of which one is no part
pub each_part_none : (texts : List (List ℕ)) (at : ℕ) (d : List ℕ) → at < length texts → part_of (get_or texts at d) ≡ None → each_part texts ≡ None
each_part_none [] at d less e = absurd (omega arith)
each_part_none (text ∷ texts) zero d less e = ap (λ p. onto_parts p (each_part texts)) e
each_part_none (text ∷ texts) (suc at) d less e = ap (onto_parts (part_of text)) (each_part_none texts at d (omega arith) e) ∙ onto_none (part_of text)
