-- The best path by its test is the best by the paths' own relation.
use Rattle.std.proofs.Common.{◌≡◌, ℕ, ◌<◌, Bool, true, false, true≢false, not, ◌&&◌, ◌||◌, List, [], length, arith, refl, sym, ◌∙◌, subst, Option, Some, None}
use Rattle.std.specs.Prelude.{◌↔◌}
use Rattle.std.specs.List.{position, position_or_len}
use Rattle.std.specs.Option.{option_map, IfSome, IsNone, IsSomeAnd}
use Rattle.std.proofs.Math.Dec.{ltb}
use Rattle.std.proofs.lemmas.Bool.{lt-ltb, le-ltb, cond-true, cond-false, false_from_ne_true}
use Rattle.std.proofs.lemmas.List.{get_or_default}
use Rattle.std.proofs.lemmas.List.Sums.{AllPass-from_list_all, list_all-from_AllPass, position_or_len_is}
use Rattle.resource_tree.specs.declared.part.Part.{Part}
use Rattle.resource_tree.specs.declared.tree.Hit.{Hit}
use Rattle.resource_tree.specs.Matching.{matches, path_at, IsBest, MatchesNone}
use Rattle.method_checks.specs.Best.{is_up_to, is_best, best}

both : (x y : Bool) → x && y ≡ true → (x ≡ true) × (y ≡ true)
both true y e = (refl, e)
both false y e = absurd (true≢false (sym e))

and_true : (x y : Bool) → x ≡ true → y ≡ true → x && y ≡ true
and_true true y e f = f
and_true false y e f = e

implied : (x y : Bool) → not x || not y ≡ true → x ≡ true → y ≡ false
implied true true e f = absurd (true≢false (sym e))
implied true false e f = refl
implied false y e f = absurd (true≢false (sym f))

implies : (x y : Bool) → (x ≡ true → y ≡ false) → not x || not y ≡ true
implies true true f = sym (f refl)
implies true false f = refl
implies false y f = refl

-- a path that is best passes the test
pub passes : (paths : List (List Part)) (segments : List (List ℕ)) (at : ℕ) → IsBest paths segments at → is_best paths segments (path_at paths at) ≡ true
passes paths segments at h =
    and_true (matches (path_at paths at) segments) _ h.matched
    (list_all-from_AllPass (λ other. not (matches other segments) || is_up_to (path_at paths at) other) paths
    (λ k d within. subst (λ other. not (matches other segments) || is_up_to (path_at paths at) other ≡ true) (get_or_default paths k [] d within) (implies (matches (path_at paths k) segments) _ (h.least k within))))

-- what passes the test is best
pub is_passed : (paths : List (List Part)) (segments : List (List ℕ)) (at : ℕ) → at < length paths → is_best paths segments (path_at paths at) ≡ true → IsBest paths segments at
is_passed paths segments at within h =
    let parts = both (matches (path_at paths at) segments) _ h in
    record {
      within = within;
      matched = parts.0;
      least = λ k below matched. implied (matches (path_at paths k) segments) _ (AllPass-from_list_all (λ other. not (matches other segments) || is_up_to (path_at paths at) other) paths parts.1 k [] below) matched;
    }

-- the first place that passes
found_at_place : (paths : List (List Part)) (segments : List (List ℕ)) (at : ℕ) → at < length paths → position_or_len (is_best paths segments) paths ≡ at → position (is_best paths segments) paths ≡ Some at
found_at_place paths segments at within is = rw is (cond-true (ltb at (length paths)) (Some at) None (lt-ltb at (length paths) within))

-- where one is best, and no other, its number is found
pub one_is_found : (paths : List (List Part)) (segments : List (List ℕ)) (at : ℕ) → IsBest paths segments at → ((k : ℕ) → IsBest paths segments k → k ≡ at) → best paths segments ≡ Some at
unfolding best
one_is_found paths segments at h only =
    found_at_place paths segments at h.within
    (position_or_len_is (is_best paths segments) paths at [] (omega (arith, h.within))
    (λ k before. false_from_ne_true _ (λ passed. let same : k ≡ at = only k (is_passed paths segments k (omega (arith, h.within)) passed) in absurd (omega arith)))
    (λ within. passes paths segments at h))

-- where none matches, none is found
pub none_is_found : (paths : List (List Part)) (segments : List (List ℕ)) → MatchesNone paths segments → best paths segments ≡ None
unfolding best
none_is_found paths segments none =
    let end : position_or_len (is_best paths segments) paths ≡ length paths = position_or_len_is (is_best paths segments) paths (length paths) [] (omega arith)
    (λ k before. false_from_ne_true _ (λ passed. true≢false (sym (both (matches (path_at paths k) segments) _ passed).0 ∙ none k before)))
    (λ within. absurd (omega arith)) in
    rw end (cond-false (ltb (length paths) (length paths)) _ None (le-ltb (length paths) (length paths) (omega arith)))

-- so what a search tells is the number of the best path
pub number_is : (paths : List (List Part)) (segments : List (List ℕ)) (found : Option Hit) → IfSome found (λ hit. IsBest paths segments hit.resource)
    → ((at : ℕ) → IsBest paths segments at → IsSomeAnd found (λ hit. hit.resource ≡ at)) → (IsNone found ↔ MatchesNone paths segments) → option_map (λ (hit : Hit). hit.resource) found ≡ best paths segments
number_is paths segments None h only none = sym (none_is_found paths segments (none.0 refl))
number_is paths segments (Some hit) h only none = sym (one_is_found paths segments hit.resource h (λ k is. sym (only k is)))
