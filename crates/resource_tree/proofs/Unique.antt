-- Two paths that match the same segments with the same ranks clash.
use Rattle.std.proofs.Common.{◌≡◌, ℕ, suc, ◌-◌, ◌<◌, Bool, true, false, not, ◌&&◌, ◌||◌, List, [], ◌∷◌, length, take, refl, ap, sym, ◌∙◌, subst, arith, ◌⊎◌, inl, inr}
use Rattle.std.proofs.lemmas.Slice.Eq.{bytes_eq-Decides}
use Rattle.std.proofs.lemmas.Map.Text.{is_eq-slice_cmp}
use Rattle.std.proofs.lemmas.Cmp.{nat_list_cmp_total}
use Rattle.std.specs.Cmp.Lexicographic.{slice_cmp}
use Rattle.std.specs.List.{list_any}
use Rattle.std.specs.Ordering.{nat_cmp, is_gt, is_eq, ordering_reverse}
use Rattle.std.specs.Str.{bytes_eq}
use Rattle.std.specs.declared.cmp.Ordering.{Ordering}
use Rattle.std.specs.declared.cmp.Ordering.TheVariants.{Less, Equal, Greater}
use Rattle.resource_tree.specs.declared.part.Part.{Part}
use Rattle.resource_tree.specs.declared.part.Part.TheVariants.{Literal, Parameter, Greedy}
use Rattle.resource_tree.specs.Matching.{matches, ranks, path_at, IsUpTo, IsBest, IsTable}
use Rattle.resource_tree.specs.Spelling.{has_bytes}
use Rattle.resource_tree.specs.Sharing.{same_part, renames, clashes, is_greedy, greedy_last}

pub both_true : (x y : Bool) → x && y ≡ true → (x ≡ true) × (y ≡ true)
both_true true y e = (refl, e)
both_true false y e = absurd (cc)

not_either : (x y : Bool) → not (x || y) ≡ true → (x ≡ false) × (not y ≡ true)
not_either true y e = absurd (cc)
not_either false y e = (refl, e)

-- of two or more parts the first is not greedy, and behind it the same holds
first_of : (p q : Part) (parts : List Part) → greedy_last (p ∷ q ∷ parts) ≡ true → (is_greedy p ≡ false) × (greedy_last (q ∷ parts) ≡ true)
unfolding greedy_last
first_of p q parts h =
    let more : suc (suc (length parts)) - 1 ≡ suc (length parts) = omega arith in
    let fewer : length parts ≡ suc (length parts) - 1 = omega arith in
    let both = not_either (is_greedy p) (list_any is_greedy (take (length parts) (q ∷ parts))) (subst (λ n. not (list_any is_greedy (take n (p ∷ q ∷ parts))) ≡ true) more h) in
    (both.0, subst (λ n. not (list_any is_greedy (take n (q ∷ parts))) ≡ true) fewer both.1)

pub rest_last : (p : Part) (parts : List Part) → greedy_last (p ∷ parts) ≡ true → greedy_last parts ≡ true
unfolding greedy_last
rest_last p [] h = refl
rest_last p (q ∷ parts) h = (first_of p q parts h).1

pub greedy_alone : (name : List ℕ) (parts : List Part) → greedy_last (Greedy name ∷ parts) ≡ true → parts ≡ []
greedy_alone name [] h = refl
greedy_alone name (q ∷ parts) h = let not_greedy : true ≡ false = (first_of (Greedy name) q parts h).0 in absurd (cc)

alike : (first second segment : List ℕ) → bytes_eq first segment ≡ true → bytes_eq second segment ≡ true → bytes_eq first second ≡ true
alike first second segment e f =
    let same : first ≡ second = (bytes_eq-Decides first segment).0 e ∙ sym ((bytes_eq-Decides second segment).0 f) in
    (bytes_eq-Decides first second).1 same

tails : {x y : ℕ} {xs ys : List ℕ} → x ∷ xs ≡ y ∷ ys → xs ≡ ys
tails e = cc

heads : {x y : ℕ} {xs ys : List ℕ} → x ∷ xs ≡ y ∷ ys → x ≡ y
heads e = cc

pub same_ranks_clash : (first second : List Part) (segments : List (List ℕ)) → greedy_last first ≡ true → greedy_last second ≡ true → matches first segments ≡ true → matches second segments ≡ true → ranks first ≡ ranks second → clashes first second ≡ true
unfolding same_part renames
same_ranks_clash [] [] segments l r m n e = refl
same_ranks_clash [] (q ∷ second) segments l r m n e = absurd (cc)
same_ranks_clash (p ∷ first) [] segments l r m n e = absurd (cc)
same_ranks_clash (p ∷ first) (q ∷ second) [] l r m n e = absurd (cc)
same_ranks_clash (Literal a ∷ first) (Literal b ∷ second) (s ∷ segments) l r m n e =
    let m' = both_true (bytes_eq a s) (matches first segments) (both_true (has_bytes s) (bytes_eq a s && matches first segments) m).1 in
    let n' = both_true (bytes_eq b s) (matches second segments) (both_true (has_bytes s) (bytes_eq b s && matches second segments) n).1 in
    rw (alike a b s m'.0 n'.0) (same_ranks_clash first second segments (rest_last _ _ l) (rest_last _ _ r) m'.1 n'.1 (tails e))
same_ranks_clash (Literal a ∷ first) (Parameter b ∷ second) (s ∷ segments) l r m n e = absurd (omega (arith, heads e))
same_ranks_clash (Literal a ∷ first) (Greedy b ∷ second) (s ∷ segments) l r m n e = absurd (omega (arith, heads e))
same_ranks_clash (Parameter a ∷ first) (Literal b ∷ second) (s ∷ segments) l r m n e = absurd (omega (arith, heads e))
same_ranks_clash (Parameter a ∷ first) (Parameter b ∷ second) (s ∷ segments) l r m n e =
    by_names (bytes_eq a b) (same_ranks_clash first second segments (rest_last _ _ l) (rest_last _ _ r) (both_true _ _ m).1 (both_true _ _ n).1 (tails e))
  where
    by_names : (same : Bool) → clashes first second ≡ true → not same || (same && clashes first second) ≡ true
    by_names true h = h
    by_names false h = refl
same_ranks_clash (Parameter a ∷ first) (Greedy b ∷ second) (s ∷ segments) l r m n e = absurd (omega (arith, heads e))
same_ranks_clash (Greedy a ∷ first) (Literal b ∷ second) (s ∷ segments) l r m n e = absurd (omega (arith, heads e))
same_ranks_clash (Greedy a ∷ first) (Parameter b ∷ second) (s ∷ segments) l r m n e = absurd (omega (arith, heads e))
same_ranks_clash (Greedy a ∷ first) (Greedy b ∷ second) (s ∷ segments) l r m n e =
    let none = greedy_alone a first l in
    let none' = greedy_alone b second r in
    rw (none, none') (by_names (bytes_eq a b))
  where
    by_names : (same : Bool) → not same || (same && true) ≡ true
    by_names true = refl
    by_names false = refl

tied : (o r : Ordering) → o ≡ ordering_reverse r → is_gt o ≡ false → is_gt r ≡ false → is_eq o ≡ true
tied o Less e l r = absurd (cc)
tied o Equal e l r = ap is_eq e
tied o Greater e l r = absurd (cc)

pub equal_lists : (first second : List ℕ) → IsUpTo first second → IsUpTo second first → first ≡ second
equal_lists first second l r =
    let eq : is_eq (slice_cmp nat_cmp first second) ≡ true = tied (slice_cmp nat_cmp first second) (slice_cmp nat_cmp second first) (nat_list_cmp_total.antisymm first second) l r in
    (bytes_eq-Decides first second).0 (sym (is_eq-slice_cmp first second) ∙ eq)

pub three_ways : (a b : ℕ) → (a < b) ⊎ ((a ≡ b) ⊎ (b < a))
three_ways a b = grind arith

-- the best path of a list that is built is one
pub one_best : (paths : List (List Part)) (segments : List (List ℕ)) (first second : ℕ) → IsTable paths → IsBest paths segments first → IsBest paths segments second → first ≡ second
one_best paths segments first second table a b = by_order (three_ways first second)
  where
    same : ranks (path_at paths first) ≡ ranks (path_at paths second)
    same = equal_lists (ranks (path_at paths first)) (ranks (path_at paths second)) (a.least second b.within b.matched) (b.least first a.within a.matched)

    clash : clashes (path_at paths first) (path_at paths second) ≡ true
    clash = same_ranks_clash (path_at paths first) (path_at paths second) segments (table.last first [] a.within) (table.last second [] b.within) a.matched b.matched same

    clash' : clashes (path_at paths second) (path_at paths first) ≡ true
    clash' = same_ranks_clash (path_at paths second) (path_at paths first) segments (table.last second [] b.within) (table.last first [] a.within) b.matched a.matched (sym same)

    by_order : (first < second) ⊎ ((first ≡ second) ⊎ (second < first)) → first ≡ second
    by_order (inl less) = let no : true ≡ false = sym clash ∙ table.apart first second [] less b.within in absurd (cc)
    by_order (inr (inl is)) = is
    by_order (inr (inr more)) = let no : true ≡ false = sym clash' ∙ table.apart second first [] more a.within in absurd (cc)
