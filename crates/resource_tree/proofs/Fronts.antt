-- What the first parts of a path take.
use Rattle.std.proofs.Common.{◌≡◌, ◌≢◌, ℕ, zero, suc, ◌+◌, ◌-◌, ◌<◌, ◌≤◌, Bool, true, false, ◌&&◌, ◌||◌, eqb, List, [], ◌∷◌, length, take, get_or, refl, ap, sym, ◌∙◌, subst, arith}
use Rattle.std.proofs.lemmas.Bool.Decides.{nat_tests}
use Rattle.std.proofs.lemmas.Slice.Eq.{bytes_eq-Decides}
use Rattle.std.proofs.lemmas.List.{take_more_same}
use Rattle.std.specs.List.{list_all}
use Rattle.std.specs.Str.{bytes_eq}
use Rattle.resource_tree.specs.declared.part.Part.{Part}
use Rattle.resource_tree.specs.declared.part.Part.TheVariants.{Literal, Parameter, Greedy}
use Rattle.resource_tree.specs.Matching.{matches}
use Rattle.resource_tree.specs.Nodes.{takes, takes_front, takes_all, ends_greedy}
use Rattle.resource_tree.specs.Sharing.{same_part, is_greedy, greedy_last}
use Rattle.resource_tree.specs.Spelling.{has_bytes}
use Rattle.resource_tree.proofs.Unique.{both_true, rest_last, greedy_alone}

and_true : (x : Bool) → x && true ≡ x
and_true true = refl
and_true false = refl

and_false : (x : Bool) → x && false ≡ false
and_false true = refl
and_false false = refl

or_true : (x : Bool) → x || true ≡ true
or_true true = refl
or_true false = refl

or_false : (x : Bool) → x || false ≡ x
or_false true = refl
or_false false = refl

-- one part more, which stands at this place
front_at : (n : ℕ) (parts : List Part) (segments : List (List ℕ)) (p : Part) (s : List ℕ) → n < length parts → n < length segments → takes_front n parts segments ≡ true → p ≡ get_or parts n p → s ≡ get_or segments n s → takes p s ≡ takes_front (suc n) parts segments
front_at n [] segments p s l m h e f = absurd (omega arith)
front_at n (q ∷ parts) [] p s l m h e f = absurd (omega arith)
front_at zero (q ∷ parts) (t ∷ segments) p s l m h e f = ap (λ x. takes x s) e ∙ ap (takes q) f ∙ sym (and_true (takes q t))
front_at (suc n) (q ∷ parts) (t ∷ segments) p s l m h e f =
    let both = both_true (takes q t) (takes_front n parts segments) h in
    front_at n parts segments p s (omega arith) (omega arith) both.1 e f ∙ ap (λ b. b && takes_front (suc n) parts segments) (sym both.0)

pub front_step : (count : ℕ) (parts : List Part) (segments : List (List ℕ)) (p : Part) (s : List ℕ) → count ≢ 0 → count ≤ length parts → count ≤ length segments → takes_front (count - 1) parts segments ≡ true → p ≡ get_or parts (count - 1) p → s ≡ get_or segments (count - 1) s → takes p s ≡ takes_front count parts segments
front_step zero parts segments p s some l m h e f = absurd (some refl)
front_step (suc n) parts segments p s some l m h e f =
    let less : suc n - 1 ≡ n = omega arith in
    front_at n parts segments p s l m (subst (λ k. takes_front k parts segments ≡ true) less h) (subst (λ k. p ≡ get_or parts k p) less e) (subst (λ k. s ≡ get_or segments k s) less f)

-- more parts than segments
pub front_short : (count : ℕ) (parts : List Part) (segments : List (List ℕ)) → length segments < count → takes_front count parts segments ≡ false
front_short zero parts segments l = absurd (omega arith)
front_short (suc n) [] segments l = refl
front_short (suc n) (p ∷ parts) [] l = refl
front_short (suc n) (p ∷ parts) (s ∷ segments) l = ap (λ b. takes p s && b) (front_short n parts segments (omega arith)) ∙ and_false (takes p s)

-- fewer parts
pub front_fewer : (fewer count : ℕ) (parts : List Part) (segments : List (List ℕ)) → fewer ≤ count → takes_front count parts segments ≡ true → takes_front fewer parts segments ≡ true
front_fewer zero count parts segments l h = refl
front_fewer (suc e) zero parts segments l h = absurd (omega arith)
front_fewer (suc e) (suc d) [] segments l h = absurd (cc)
front_fewer (suc e) (suc d) (p ∷ parts) [] l h = absurd (cc)
front_fewer (suc e) (suc d) (p ∷ parts) (s ∷ segments) l h =
    let both = both_true (takes p s) (takes_front d parts segments) h in
    ap (λ b. b && takes_front e parts segments) both.0 ∙ front_fewer e d parts segments (omega arith) both.1

heads : {X : Type 0} {x y : X} {xs ys : List X} → x ∷ xs ≡ y ∷ ys → x ≡ y
heads e = cc

tails : {X : Type 0} {x y : X} {xs ys : List X} → x ∷ xs ≡ y ∷ ys → xs ≡ ys
tails e = cc

-- paths that share as many parts
pub front_shared : (count : ℕ) (first second : List Part) (segments : List (List ℕ)) → take count first ≡ take count second → count ≤ length first → count ≤ length second → takes_front count first segments ≡ takes_front count second segments
front_shared zero first second segments e l m = refl
front_shared (suc n) [] second segments e l m = absurd (omega arith)
front_shared (suc n) (p ∷ first) [] segments e l m = absurd (omega arith)
front_shared (suc n) (p ∷ first) (q ∷ second) [] e l m = refl
front_shared (suc n) (p ∷ first) (q ∷ second) (s ∷ segments) e l m =
    ap (λ x. takes x s && takes_front n first segments) (heads e) ∙ ap (λ b. takes q s && b) (front_shared n first second segments (tails e) (omega arith) (omega arith))

-- a path that matches
pub matches_front : (count : ℕ) (parts : List Part) (segments : List (List ℕ)) → greedy_last parts ≡ true → count ≤ length parts → matches parts segments ≡ true → takes_front count parts segments ≡ true
matches_front zero parts segments last l m = refl
matches_front (suc n) [] segments last l m = absurd (omega arith)
matches_front (suc n) (p ∷ parts) [] last l m = absurd (cc)
matches_front (suc n) (Literal t ∷ parts) (s ∷ segments) last l m =
    let both = both_true (bytes_eq t s) (matches parts segments) (both_true (has_bytes s) (bytes_eq t s && matches parts segments) m).1 in
    ap (λ b. b && takes_front n parts segments) both.0 ∙ matches_front n parts segments (rest_last _ _ last) (omega arith) both.1
matches_front (suc n) (Parameter t ∷ parts) (s ∷ segments) last l m =
    matches_front n parts segments (rest_last _ _ last) (omega arith) (both_true (has_bytes s) (matches parts segments) m).1
matches_front (suc zero) (Greedy t ∷ parts) (s ∷ segments) last l m = refl
matches_front (suc (suc n)) (Greedy t ∷ parts) (s ∷ segments) last l m =
    let none : length parts ≡ 0 = ap length (greedy_alone t parts last) in
    absurd (omega arith)

eqb_suc : (a b : ℕ) → eqb (suc a) (suc b) ≡ eqb a b
eqb_suc a b = grind (arith, nat_tests)

eqb_none : (n : ℕ) → eqb 0 (suc n) ≡ false
eqb_none n = grind (arith, nat_tests)

-- a part that is not greedy does not end a path so
ends_behind : (p : Part) (parts : List Part) → is_greedy p ≡ false → ends_greedy (p ∷ parts) ≡ ends_greedy parts
ends_behind p [] e = e
ends_behind p (q ∷ parts) e = refl

takes_all_behind : (p : Part) (parts : List Part) (s : List ℕ) (segments : List (List ℕ)) → is_greedy p ≡ false → takes_all (p ∷ parts) (s ∷ segments) ≡ takes_all parts segments
takes_all_behind p parts s segments e =
    ap (λ b. b || ends_greedy (p ∷ parts)) (eqb_suc (length parts) (length segments)) ∙ ap (λ b. eqb (length parts) (length segments) || b) (ends_behind p parts e)

-- a path whose parts all take a segment matches where no segments are left
pub whole_match : (parts : List Part) (segments : List (List ℕ)) → greedy_last parts ≡ true → list_all has_bytes segments ≡ true → takes_front (length parts) parts segments ≡ true → matches parts segments ≡ takes_all parts segments
whole_match [] [] last some h = refl
whole_match [] (s ∷ segments) last some h = sym (or_false (eqb 0 (suc (length segments))) ∙ eqb_none (length segments))
whole_match (p ∷ parts) [] last some h = absurd (cc)
whole_match (Literal t ∷ parts) (s ∷ segments) last some h =
    let both = both_true (bytes_eq t s) (takes_front (length parts) parts segments) h in
    let full = both_true (has_bytes s) (list_all has_bytes segments) some in
    ap (λ b. b && (bytes_eq t s && matches parts segments)) full.0
    ∙ ap (λ b. b && matches parts segments) both.0
    ∙ whole_match parts segments (rest_last _ _ last) full.1 both.1
    ∙ sym (takes_all_behind (Literal t) parts s segments refl)
whole_match (Parameter t ∷ parts) (s ∷ segments) last some h =
    let both = both_true (has_bytes s) (list_all has_bytes segments) some in
    ap (λ b. b && matches parts segments) both.0
    ∙ whole_match parts segments (rest_last _ _ last) both.1 h
    ∙ sym (takes_all_behind (Parameter t) parts s segments refl)
whole_match (Greedy t ∷ parts) (s ∷ segments) last some h =
    let none = greedy_alone t parts last in
    some ∙ sym (ap (λ ps. takes_all (Greedy t ∷ ps) (s ∷ segments)) none ∙ or_true (eqb 1 (suc (length segments))))

-- no path takes an empty segment
pub none_empty : (parts : List Part) (segments : List (List ℕ)) → greedy_last parts ≡ true → list_all has_bytes segments ≡ false → matches parts segments ≡ false
none_empty [] [] last e = absurd (cc)
none_empty [] (s ∷ segments) last e = refl
none_empty (p ∷ parts) [] last e = refl
none_empty (Literal t ∷ parts) (s ∷ segments) last e = by_test (has_bytes s) (list_all has_bytes segments) e (none_empty parts segments (rest_last _ _ last))
  where
    by_test : (x y : Bool) → x && y ≡ false → (y ≡ false → matches parts segments ≡ false) → x && (bytes_eq t s && matches parts segments) ≡ false
    by_test false y e ih = refl
    by_test true false e ih = ap (λ b. bytes_eq t s && b) (ih refl) ∙ and_false (bytes_eq t s)
    by_test true true e ih = absurd (cc)
none_empty (Parameter t ∷ parts) (s ∷ segments) last e = by_test (has_bytes s) (list_all has_bytes segments) e (none_empty parts segments (rest_last _ _ last))
  where
    by_test : (x y : Bool) → x && y ≡ false → (y ≡ false → matches parts segments ≡ false) → x && matches parts segments ≡ false
    by_test false y e ih = refl
    by_test true false e ih = ih refl
    by_test true true e ih = absurd (cc)
none_empty (Greedy t ∷ parts) (s ∷ segments) last e = e

-- the last part
pub ends_last : (parts : List Part) (p : Part) → length parts ≢ 0 → p ≡ get_or parts (length parts - 1) p → is_greedy p ≡ ends_greedy parts
ends_last [] p some e = absurd (some refl)
ends_last (q ∷ []) p some e = ap is_greedy e
ends_last (q ∷ r ∷ parts) p some e =
    let less : suc (suc (length parts)) - 1 ≡ suc (suc (length parts) - 1) = omega arith in
    ends_last (r ∷ parts) p (λ n. absurd (omega arith)) (subst (λ k. p ≡ get_or (q ∷ r ∷ parts) k p) less e)

-- parts that are the same
pub same_part_is : (first second : Part) → same_part first second ≡ true → first ≡ second
unfolding same_part
same_part_is (Literal a) (Literal b) e = ap (λ t. Literal t) ((bytes_eq-Decides a b).0 e)
same_part_is (Parameter a) (Parameter b) e = ap (λ t. Parameter t) ((bytes_eq-Decides a b).0 e)
same_part_is (Greedy a) (Greedy b) e = ap (λ t. Greedy t) ((bytes_eq-Decides a b).0 e)
same_part_is (Literal a) (Parameter b) e = absurd (cc)
same_part_is (Literal a) (Greedy b) e = absurd (cc)
same_part_is (Parameter a) (Literal b) e = absurd (cc)
same_part_is (Parameter a) (Greedy b) e = absurd (cc)
same_part_is (Greedy a) (Literal b) e = absurd (cc)
same_part_is (Greedy a) (Parameter b) e = absurd (cc)

-- one more part that is shared
pub share_more : (first second : List Part) (n shared : ℕ) (p q : Part) → shared ≡ n → n < length first → n < length second → take shared first ≡ take shared second → ((d : Part) → p ≡ get_or first n d) → ((d : Part) → q ≡ get_or second n d) → same_part p q ≡ true → take (shared + 1) first ≡ take (shared + 1) second
share_more first second n shared p q e l m so_far is is' same =
    let both : get_or first n p ≡ get_or second n p = sym (is p) ∙ same_part_is p q same ∙ is' p in
    subst (λ k. take (k + 1) first ≡ take (k + 1) second) (sym e)
    (take_more_same first second n p l m (subst (λ k. take k first ≡ take k second) e so_far) both)
