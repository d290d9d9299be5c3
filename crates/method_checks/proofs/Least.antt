-- Of the paths that match, one is best.
use Rattle.std.proofs.Common.{◌≡◌, ℕ, zero, suc, ◌<◌, ◌≤◌, Bool, true, false, true≢false, List, [], ◌∷◌, length, refl, ap, sym, ◌∙◌, arith, Some, None, ◌⊎◌, inl, inr}
use Rattle.std.specs.List.{position_or_len}
use Rattle.std.specs.Cmp.Lexicographic.{slice_cmp}
use Rattle.std.specs.Ordering.{nat_cmp, is_gt, ordering_reverse}
use Rattle.std.specs.declared.cmp.Ordering.{Ordering}
use Rattle.std.specs.declared.cmp.Ordering.TheVariants.{Less, Equal, Greater}
use Rattle.std.proofs.Math.Dec.{ltb}
use Rattle.std.proofs.Math.Bool.{cond}
use Rattle.std.proofs.lemmas.Bool.{cases_Bool, ltb-false}
use Rattle.std.proofs.lemmas.Cmp.{nat_list_cmp_total, tied_itself, upto}
use Rattle.std.proofs.lemmas.List.Quantifiers.{position-Some}
use Rattle.std.proofs.lemmas.List.Sums.{fails_before_first}
use Rattle.resource_tree.specs.declared.part.Part.{Part}
use Rattle.resource_tree.specs.Matching.{matches, ranks, path_at, IsBest, IsUpTo, MatchesNone}
use Rattle.method_checks.specs.Best.{is_best, best}
use Rattle.method_checks.specs.Laws.{TellsBest, AlwaysTellsBest}
use Rattle.method_checks.proofs.Best.{is_passed, passes, none_is_found}

same : (x : List ℕ) → IsUpTo x x
same x = ap is_gt (tied_itself nat_list_cmp_total x)

before : (x y z : List ℕ) → IsUpTo x y → IsUpTo y z → IsUpTo x z
before x y z h k = upto nat_list_cmp_total x y z h k

-- of two lists that are compared both ways, one is not behind the other
turned_by : (o r : Ordering) → o ≡ ordering_reverse r → is_gt o ≡ true → is_gt r ≡ false
turned_by o Less is h = refl
turned_by o Equal is h = refl
turned_by o Greater is h = absurd (true≢false (sym h ∙ ap is_gt is))

turned : (x y : List ℕ) → is_gt (slice_cmp nat_cmp x y) ≡ true → IsUpTo y x
turned x y h = turned_by (slice_cmp nat_cmp x y) (slice_cmp nat_cmp y x) (nat_list_cmp_total.antisymm x y) h

-- one path more, which doesn't match
none_more : (path : List Part) (paths : List (List Part)) (segments : List (List ℕ)) → MatchesNone paths segments → matches path segments ≡ false → MatchesNone (path ∷ paths) segments
none_more path paths segments none refuses zero below = refuses
none_more path paths segments none refuses (suc k) below = none k (omega arith)

-- or which alone matches
alone : (path : List Part) (paths : List (List Part)) (segments : List (List ℕ)) → MatchesNone paths segments → matches path segments ≡ true → IsBest (path ∷ paths) segments 0
alone path paths segments none takes = record { within = omega arith; matched = takes; least = least }
  where
    least : (k : ℕ) → k < length (path ∷ paths) → matches (path_at (path ∷ paths) k) segments ≡ true → IsUpTo (ranks path) (ranks (path_at (path ∷ paths) k))
    least zero below matched = same (ranks path)
    least (suc k) below matched = absurd (true≢false (sym matched ∙ none k (omega arith)))

-- or which is no worse than the best
better : (path : List Part) (paths : List (List Part)) (segments : List (List ℕ)) (at : ℕ) → IsBest paths segments at → matches path segments ≡ true → IsUpTo (ranks path) (ranks (path_at paths at)) → IsBest (path ∷ paths) segments 0
better path paths segments at h takes up = record { within = omega arith; matched = takes; least = least }
  where
    least : (k : ℕ) → k < length (path ∷ paths) → matches (path_at (path ∷ paths) k) segments ≡ true → IsUpTo (ranks path) (ranks (path_at (path ∷ paths) k))
    least zero below matched = same (ranks path)
    least (suc k) below matched = before (ranks path) (ranks (path_at paths at)) (ranks (path_at paths k)) up (h.least k (omega arith) matched)

-- or which is worse
worse : (path : List Part) (paths : List (List Part)) (segments : List (List ℕ)) (at : ℕ) → IsBest paths segments at → (matches path segments ≡ true → IsUpTo (ranks (path_at paths at)) (ranks path)) → IsBest (path ∷ paths) segments (suc at)
worse path paths segments at h up = record { within = omega (arith, h.within); matched = h.matched; least = least }
  where
    least : (k : ℕ) → k < length (path ∷ paths) → matches (path_at (path ∷ paths) k) segments ≡ true → IsUpTo (ranks (path_at paths at)) (ranks (path_at (path ∷ paths) k))
    least zero below matched = up matched
    least (suc k) below matched = h.least k (omega arith) matched

-- where a path matches, one is best
one_is_best : (paths : List (List Part)) (segments : List (List ℕ)) → MatchesNone paths segments ⊎ ((at : ℕ) × IsBest paths segments at)
one_is_best [] segments = inl (λ k below. absurd (omega arith))
one_is_best (path ∷ paths) segments = by_rest (one_is_best paths segments) (cases_Bool (matches path segments))
  where
    by_ranks : (at : ℕ) → IsBest paths segments at → matches path segments ≡ true → (is_gt (slice_cmp nat_cmp (ranks path) (ranks (path_at paths at))) ≡ true) ⊎ (is_gt (slice_cmp nat_cmp (ranks path) (ranks (path_at paths at))) ≡ false)
        → MatchesNone (path ∷ paths) segments ⊎ ((at : ℕ) × IsBest (path ∷ paths) segments at)
    by_ranks at h takes (inl gt) = inr (suc at, worse path paths segments at h (λ _. turned (ranks path) (ranks (path_at paths at)) gt))
    by_ranks at h takes (inr up) = inr (0, better path paths segments at h takes up)

    by_rest : MatchesNone paths segments ⊎ ((at : ℕ) × IsBest paths segments at) → (matches path segments ≡ true) ⊎ (matches path segments ≡ false) → MatchesNone (path ∷ paths) segments ⊎ ((at : ℕ) × IsBest (path ∷ paths) segments at)
    by_rest (inl none) (inl takes) = inr (0, alone path paths segments none takes)
    by_rest (inl none) (inr refuses) = inl (none_more path paths segments none refuses)
    by_rest (inr found) (inl takes) = by_ranks found.0 found.1 takes (cases_Bool (is_gt (slice_cmp nat_cmp (ranks path) (ranks (path_at paths found.0)))))
    by_rest (inr found) (inr refuses) = inr (suc found.0, worse path paths segments found.0 found.1 (λ takes. absurd (true≢false (sym takes ∙ refuses))))

none_by : {A : Type 0} (b : Bool) (x : A) → cond b (Some x) None ≡ None → b ≡ false
none_by true x e = absurd (cc)
none_by false x e = refl

-- where none is found, none is best
never_best : (paths : List (List Part)) (segments : List (List ℕ)) (at : ℕ) → best paths segments ≡ None → IsBest paths segments at → ⊥
unfolding best
never_best paths segments at none h =
    let end : length paths ≤ position_or_len (is_best paths segments) paths = ltb-false _ _ (none_by (ltb (position_or_len (is_best paths segments) paths) (length paths)) _ none) in
    true≢false (sym (passes paths segments at h) ∙ fails_before_first (is_best paths segments) paths at [] (omega (arith, h.within)))

none_matches : (paths : List (List Part)) (segments : List (List ℕ)) → best paths segments ≡ None → MatchesNone paths segments ⊎ ((at : ℕ) × IsBest paths segments at) → MatchesNone paths segments
none_matches paths segments none (inl h) = h
none_matches paths segments none (inr found) = absurd (never_best paths segments found.0 none found.1)

found_is_best : (paths : List (List Part)) (segments : List (List ℕ)) (at : ℕ) → best paths segments ≡ Some at → IsBest paths segments at
unfolding best
found_is_best paths segments at is = let h = position-Some (is_best paths segments) paths at [] is in is_passed paths segments at h.0 h.1

pub tells_best : (paths : List (List Part)) (segments : List (List ℕ)) → TellsBest paths segments
tells_best paths segments = record {
  found = found_is_best paths segments;
  none = (λ none. none_matches paths segments none (one_is_best paths segments), none_is_found paths segments);
}

pub always_tells : AlwaysTellsBest
always_tells = tells_best
