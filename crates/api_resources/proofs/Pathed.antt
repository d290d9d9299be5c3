-- The first fault of the resources' paths, told at its own place.
use Rattle.std.proofs.Common.{◌≡◌, ◌≢◌, ℕ, zero, suc, ◌+◌, ◌<◌, ◌≤◌, Bool, true, false, List, [], ◌∷◌, ◌++◌, length, map, take, Option, Some, None, Ok, Err, refl, sym, ap, ◌∙◌, subst, arith, eqb, ltb, ◌⊎◌, inl, inr}
use Rattle.std.specs.Prelude.{◌==◌, not, if◌then◌else◌, Result, OnOk, slice_index_or}
use Rattle.api_parts.specs.declared.fault.ApiFault.{ApiFault}
use Rattle.std.specs.List.{list_any}
use Rattle.std.proofs.lemmas.Bool.Decides.{nat_tests}
use borrow.Author.Tests.{eqb-true, eqb-false, ltb-true, ltb-false}
use Rattle.json_subset.specs.Tree.{Tree}
use Rattle.resource_tree.specs.Faults.{fault_at, fault_behind, fault_of_parts, parts_of_each, HasNoFault, IsFirstFault}
use Rattle.resource_tree.specs.Reading.{parts_of}
use Rattle.resource_tree.specs.Sharing.{clashes, greedy_last}
use Rattle.resource_tree.specs.declared.part.Part.{Part}
use Rattle.resource_tree.specs.declared.fault.TreeFault.{TreeFault}
use Rattle.resource_tree.specs.declared.fault.TreeFault.TheVariants.{BadPart, Clash, GreedyNotLast, Memory}
use Rattle.api_parts.specs.Reading.{Text, Waiting, Read, ReadsAs, ◌>>=◌, first_of, waiting_below}
use Rattle.api_resources.specs.Paths.{at_place, own_fault, HasTree, IsTold, IsTreeFor}
use Rattle.api_resources.specs.Resources.{path_of, path_waiting, resource_added, resources_member, verbs_in, with_resource}
use Rattle.api_resources.specs.declared.resources.ResourcesRead.{ResourcesRead}
use Rattle.api_resources.specs.declared.resources.VerbsRead.{VerbsRead}

-- a fault has this number
IsAt : ℕ → TreeFault → Type 0
IsAt at (BadPart n) = n ≡ at
IsAt at (Clash n) = n ≡ at
IsAt at (GreedyNotLast n) = n ≡ at
IsAt at Memory = ⊥

some_same : (f g : TreeFault) → Some f ≡ Some g → f ≡ g
some_same f g e = cc

clash_at : (at : ℕ) (b : Bool) (f : TreeFault) → (if b then Some (Clash at) else None) ≡ Some f → IsAt at f
unfolding IsAt
clash_at at true f e = subst (IsAt at) (some_same (Clash at) f e) refl
clash_at at false f e = cc

parts_at : (earlier : List (List Part)) (at : ℕ) (parts : List Part) (f : TreeFault) → fault_of_parts earlier at parts ≡ Some f → IsAt at f
unfolding fault_of_parts IsAt
parts_at earlier at parts f e = by_test (not (greedy_last parts)) e
  where
    by_test : (t : Bool) → (if t then Some (GreedyNotLast at) else if list_any (λ other. clashes other parts) earlier then Some (Clash at) else None) ≡ Some f → IsAt at f
    by_test true e = subst (IsAt at) (some_same (GreedyNotLast at) f e) refl
    by_test false e = clash_at at (list_any (λ other. clashes other parts) earlier) f e

behind_at : (earlier : List (List Part)) (at : ℕ) (o : Option (List Part)) (f : TreeFault) → fault_behind earlier at o ≡ Some f → IsAt at f
unfolding IsAt
behind_at earlier at None f e = subst (IsAt at) (some_same (BadPart at) f e) refl
behind_at earlier at (Some parts) f e = parts_at earlier at parts f e

there_at : (paths : List Text) (at : ℕ) (f : TreeFault) → fault_at paths at ≡ Some f → IsAt at f
there_at paths at f e = behind_at (parts_of_each (take at paths)) at (parts_of (slice_index_or paths at [])) f e

same_number : (a : ℕ) → eqb a a ≡ true
same_number a = grind (arith, nat_tests)

other_number : (a b : ℕ) → b < a → eqb a b ≡ false
other_number a b h = grind (arith, nat_tests)

-- a fault of this number is told at this place
at_own : (at : ℕ) (f : TreeFault) → IsAt at f → own_fault (Some f) at ≡ Some f
unfolding IsAt
at_own at (BadPart n) h = subst (λ k. at_place n k (BadPart n) ≡ Some (BadPart n)) h (rw (same_number n) refl)
at_own at (Clash n) h = subst (λ k. at_place n k (Clash n) ≡ Some (Clash n)) h (rw (same_number n) refl)
at_own at (GreedyNotLast n) h = subst (λ k. at_place n k (GreedyNotLast n) ≡ Some (GreedyNotLast n)) h (rw (same_number n) refl)
at_own at Memory h = absurd h

-- and not before it
before_own : (at i : ℕ) (f : TreeFault) → IsAt at f → i < at → own_fault (Some f) i ≡ None
unfolding IsAt
before_own at i (BadPart n) h less = rw (other_number n i (omega (arith, h, less))) refl
before_own at i (Clash n) h less = rw (other_number n i (omega (arith, h, less))) refl
before_own at i (GreedyNotLast n) h less = rw (other_number n i (omega (arith, h, less))) refl
before_own at i Memory h less = absurd h

three : (i at : ℕ) → (i < at) ⊎ ((i ≡ at) ⊎ (at < i))
three i at = by_test (ltb i at) refl (eqb i at) refl
  where
    by_test : (t : Bool) → ltb i at ≡ t → (u : Bool) → eqb i at ≡ u → (i < at) ⊎ ((i ≡ at) ⊎ (at < i))
    by_test true e u f = inl (ltb-true i at e)
    by_test false e true f = inr (inl (eqb-true i at f))
    by_test false e false f = inr (inr (past (ltb-false i at e) (eqb-false i at f)))
      where
        past : at ≤ i → (i ≡ at → ⊥) → at < i
        past less other = omega (arith, less, other)

-- where no fault waits, the fault of the next path is told
pub own_is : (paths : List Text) (first : Option TreeFault) (i : ℕ) → IsTold paths first i None → i < length paths → own_fault first i ≡ fault_at paths i
own_is paths None i told within = sym (told i within)
own_is paths (Some f) i told within = by_case (three i told.0.at)
  where
    by_case : (i < told.0.at) ⊎ ((i ≡ told.0.at) ⊎ (told.0.at < i)) → own_fault (Some f) i ≡ fault_at paths i
    by_case (inl less) = before_own told.0.at i f (there_at paths told.0.at f told.0.is) less ∙ sym (told.0.before i less)
    by_case (inr (inl same)) = subst (λ k. own_fault (Some f) k ≡ fault_at paths k) (sym same) (at_own told.0.at f (there_at paths told.0.at f told.0.is) ∙ sym told.0.is)
    by_case (inr (inr past)) = absurd (told.1 past refl)

-- what waits is the same
pub same_added : (paths : List Text) (first : Option TreeFault) (i : ℕ) (all : ResourcesRead) (x : Text) (r : VerbsRead) → IsTold paths first i all.waiting → i < length paths
    → with_resource all x (own_fault first i) r ≡ with_resource all x (fault_at paths i) r
same_added paths first i all x r told within = ap (λ w. record { list = (with_resource all x None r).list; methods = r.methods; waiting = w }) (by_waiting all.waiting told)
  where
    by_waiting : (w : Waiting) → IsTold paths first i w → first_of w (waiting_below x (first_of (path_waiting (own_fault first i)) r.waiting)) ≡ first_of w (waiting_below x (first_of (path_waiting (fault_at paths i)) r.waiting))
    by_waiting None told = ap (λ o. waiting_below x (first_of (path_waiting o) r.waiting)) (own_is paths first i told within)
    by_waiting (Some e) told = refl

some_none : {A : Type 0} (x : A) → Some x ≡ None → ⊥
some_none x e = cc

-- and is told behind it
pub told_next : (paths : List Text) (first : Option TreeFault) (i : ℕ) (waiting later : Waiting) (x : Text) → IsTold paths first i waiting
    → IsTold paths first (i + 1) (first_of waiting (waiting_below x (first_of (path_waiting (own_fault first i)) later)))
told_next paths None i waiting later x told = told
told_next paths (Some f) i waiting later x told = (told.0, λ past. by_case (three i told.0.at) past waiting told.1)
  where
    by_case : (i < told.0.at) ⊎ ((i ≡ told.0.at) ⊎ (told.0.at < i)) → told.0.at < i + 1 → (w : Waiting) → (told.0.at < i → w ≢ None) → first_of w (waiting_below x (first_of (path_waiting (own_fault (Some f) i)) later)) ≢ None
    by_case (inl less) past w h = absurd (omega (arith, less, past))
    by_case (inr (inl same)) past (Some e) h = some_none e
    by_case (inr (inl same)) past None h =
        let own : own_fault (Some f) i ≡ Some f = subst (λ k. own_fault (Some f) k ≡ Some f) (sym same) (at_own told.0.at f (there_at paths told.0.at f told.0.is)) in
        subst (λ o. waiting_below x (first_of (path_waiting o) later) ≢ None) (sym own) (some_none _)
    by_case (inr (inr before)) past (Some e) h = some_none e
    by_case (inr (inr before)) past None h = absurd (h before refl)

ok_same : (x y : ResourcesRead) → ◌≡◌ {A = Read ResourcesRead} (Ok x) (Ok y) → y ≡ x
ok_same x y e = cc

-- a resource more
module _ (document : Tree) (fault : Option TreeFault) (all : ResourcesRead) (x : Text) (t : Tree) where
  pub added : (r : ResourcesRead) → resource_added document fault all x t ≡ Ok r → (v : VerbsRead) × (r ≡ with_resource all x fault v)
  added r = by_result (verbs_in document all.methods x t)
    where
      by_result : (q : Read VerbsRead) → (q >>= λ v. Ok (with_resource all x fault v)) ≡ Ok r → (v : VerbsRead) × (r ≡ with_resource all x fault v)
      by_result (Ok v) e = (v, ok_same _ _ e)
      by_result (Err f) e = cc

pub added_same : (document : Tree) (paths : List Text) (first : Option TreeFault) (i : ℕ) (all : ResourcesRead) (x : Text) (t : Tree) → IsTold paths first i all.waiting → i ≡ length all.list → i < length paths
    → resource_added document (own_fault first i) all x t ≡ resources_member document paths all x t
added_same document paths first i all x t told place within = by_result (verbs_in document all.methods x t) ∙ ap (λ n. resource_added document (fault_at paths n) all x t) place
  where
    by_result : (q : Read VerbsRead) → (q >>= λ v. Ok (with_resource all x (own_fault first i) v)) ≡ (q >>= λ v. Ok (with_resource all x (fault_at paths i) v))
    by_result (Ok v) = ap Ok (same_added paths first i all x v told within)
    by_result (Err f) = refl

pub added_told : (document : Tree) (paths : List Text) (first : Option TreeFault) (i : ℕ) (all : ResourcesRead) (x : Text) (t : Tree) (r : ResourcesRead) → IsTold paths first i all.waiting
    → resource_added document (own_fault first i) all x t ≡ Ok r → IsTold paths first (i + 1) r.waiting
added_told document paths first i all x t r told e =
    let v = added document (own_fault first i) all x t r e in
    subst (λ (q : ResourcesRead). IsTold paths first (i + 1) q.waiting) (sym v.1) (told_next paths first i all.waiting v.0.waiting x told)

pub told_of : (document : Tree) (paths : List Text) (first : Option TreeFault) (i : ℕ) (all : ResourcesRead) (x : Text) (t : Tree) (new : ResourcesRead) (result : Result (Unit {0}) ApiFault) → IsTold paths first i all.waiting
    → ReadsAs (λ (_ : Unit {0}). new) (resource_added document (own_fault first i) all x t) result → OnOk result (IsTold paths first (i + 1) new.waiting)
told_of document paths first i all x t new (Ok u) told e = added_told document paths first i all x t new told e
told_of document paths first i all x t new (Err f) told e = tt

-- before the first
pub told_first : (paths : List Text) (tree : Option (List (List Part))) (first : Option TreeFault) → IsTreeFor paths tree first → IsTold paths first 0 None
told_first paths (Some tree) None h = h.1
told_first paths None (Some f) h = (h, λ less. absurd (omega (arith, less)))
told_first paths (Some tree) (Some f) h = absurd h
told_first paths None None h = absurd h

-- and behind the last
pub has_tree : (paths : List Text) (tree : Option (List (List Part))) (first : Option TreeFault) (count : ℕ) (waiting : Waiting) → IsTreeFor paths tree first → IsTold paths first count waiting → count ≡ length paths → HasTree paths waiting tree
has_tree paths (Some tree) None count waiting h told e = h.0
has_tree paths None (Some f) count waiting h told e = told.1 (omega (arith, e, told.0.within))
has_tree paths (Some tree) (Some f) count waiting h told e = absurd h
has_tree paths None None count waiting h told e = absurd h
