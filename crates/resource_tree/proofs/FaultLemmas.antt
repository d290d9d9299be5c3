-- What the faults of paths come to.
use Rattle.std.proofs.Common.{◌≡◌, ◌≢◌, ℕ, zero, suc, ◌^◌, ◌||◌, Result, Ok, Err, IfErr, ◌+◌, ◌<◌, Bool, true, false, not, if◌then◌else◌, List, [], ◌∷◌, ◌++◌, map, take, get_or, length, Some, None, length-take, refl, ap, sym, ◌∙◌, subst, arith}
use Rattle.std.proofs.lemmas.List.{length_push, length-map, take_more, map-append}
use Rattle.std.proofs.lemmas.List.Elements.{All-push}
use Rattle.std.proofs.lemmas.List.Quantifiers.{all_pairs_push}
use Rattle.std.specs.List.{list_any, cons_option}
use Rattle.std.specs.Result.{IsErrAnd}
use Rattle.resource_tree.specs.declared.part.Part.{Part}
use Rattle.resource_tree.specs.declared.fault.TreeFault.{TreeFault}
use Rattle.resource_tree.specs.declared.fault.TreeFault.TheVariants.{Clash, GreedyNotLast, Memory}
use Rattle.resource_tree.specs.Faults.{fault_of_parts, fault_behind, fault_at, parts_of_each, IsFirstFault}
use Rattle.resource_tree.specs.Matching.{IsTable}
use Rattle.resource_tree.specs.Reading.{parts_of}
use Rattle.resource_tree.specs.Sharing.{clashes, greedy_last}

pub no_fault : (earlier : List (List Part)) (at : ℕ) (parts : List Part) → greedy_last parts ≡ true → list_any (λ other. clashes other parts) earlier ≡ false → fault_of_parts earlier at parts ≡ None
unfolding fault_of_parts
no_fault earlier at parts last apart = rw (last, apart) refl

pub clash_fault : (earlier : List (List Part)) (at : ℕ) (parts : List Part) → greedy_last parts ≡ true → list_any (λ other. clashes other parts) earlier ≡ true → fault_of_parts earlier at parts ≡ Some (Clash at)
unfolding fault_of_parts
clash_fault earlier at parts last clash = rw (last, clash) refl

-- and back
pub fault_none : (earlier : List (List Part)) (at : ℕ) (parts : List Part) → fault_of_parts earlier at parts ≡ None → (greedy_last parts ≡ true) × (list_any (λ other. clashes other parts) earlier ≡ false)
unfolding fault_of_parts
fault_none earlier at parts e = by_tests (greedy_last parts) (list_any (λ other. clashes other parts) earlier) e
  where
    by_tests : (l c : Bool) → (if not l then Some (GreedyNotLast at) else if c then Some (Clash at) else None) ≡ None → (l ≡ true) × (c ≡ false)
    by_tests true true e = absurd (cc)
    by_tests true false e = (refl, refl)
    by_tests false c e = absurd (cc)

heads : {X : Type 0} {x y : X} {xs ys : List X} → x ∷ xs ≡ y ∷ ys → x ≡ y
heads e = cc

tails : {X : Type 0} {x y : X} {xs ys : List X} → x ∷ xs ≡ y ∷ ys → xs ≡ ys
tails e = cc

-- what is read of each is what is read of those that are paths
pub parts_of_read : (tree : List (List Part)) (paths : List (List ℕ)) → map (λ parts. Some parts) tree ≡ map parts_of paths → parts_of_each paths ≡ tree
parts_of_read [] [] e = refl
parts_of_read [] (path ∷ paths) e = absurd (cc)
parts_of_read (parts ∷ tree) [] e = absurd (cc)
parts_of_read (parts ∷ tree) (path ∷ paths) e =
    let first : Some parts ≡ parts_of path = heads e in
    ap (λ o. cons_option o (parts_of_each paths)) (sym first) ∙ ap (λ ps. parts ∷ ps) (parts_of_read tree paths (tails e))

neither : (x y : Bool) → x || y ≡ false → (x ≡ false) × (y ≡ false)
neither true y e = absurd (cc)
neither false y e = (refl, e)

pub none_of : (parts : List Part) (tree : List (List Part)) → list_any (λ other. clashes other parts) tree ≡ false → (k : ℕ) (d : List Part) → k < length tree → clashes (get_or tree k d) parts ≡ false
none_of parts [] e k d less = absurd (omega arith)
none_of parts (other ∷ tree) e zero d less = (neither (clashes other parts) (list_any (λ other. clashes other parts) tree) e).0
none_of parts (other ∷ tree) e (suc k) d less = none_of parts tree (neither (clashes other parts) (list_any (λ other. clashes other parts) tree) e).1 k d (omega arith)

-- one more path, which has no fault
pub table_push : (tree : List (List Part)) (parts : List Part) (at : ℕ) → IsTable tree → length tree ≡ at → at < 2 ^ 32 → fault_of_parts tree at parts ≡ None → IsTable (tree ++ parts ∷ [])
table_push tree parts at table count small e =
    let is = fault_none tree at parts e in
    record {
      small = rw (length_push tree parts) (omega arith);
      last = All-push (λ p. greedy_last p ≡ true) tree parts table.last is.0;
      apart = all_pairs_push (λ earlier later. clashes earlier later ≡ false) tree parts table.apart (none_of parts tree is.1);
    }

-- The path at a place, behind those that were read:
-- its fault is that of the list there,
pub fault_there : (paths : List (List ℕ)) (tree : List (List Part)) (i at : ℕ) (path : List ℕ) → map (λ parts. Some parts) tree ≡ map parts_of (take i paths) → at ≡ i → path ≡ get_or paths i [] → fault_behind tree at (parts_of path) ≡ fault_at paths i
fault_there paths tree i at path read same is =
    ap (λ t. fault_behind t at (parts_of path)) (sym (parts_of_read tree (take i paths) read))
    ∙ ap (λ n. fault_behind (parts_of_each (take i paths)) n (parts_of path)) same
    ∙ ap (λ p. fault_behind (parts_of_each (take i paths)) i (parts_of p)) is

-- it is the first that has one, if none before it does,
pub first_fault : {T : Type 0} (paths : List (List ℕ)) (i : ℕ) (r : Result T TreeFault) (fault : TreeFault) → IsErrAnd r (λ e. e ≡ fault) → i < length paths → ((k : ℕ) → k < i → fault_at paths k ≡ None) → (fault ≢ Memory → fault_at paths i ≡ Some fault) → IfErr r (λ e. e ≢ Memory → IsFirstFault paths e)
first_fault paths i (Ok x) fault is within before here = tt
first_fault paths i (Err e) fault is within before here = λ other.
    subst (IsFirstFault paths) (sym is) (record { at = i; within = within; is = here (λ m. other (is ∙ m)); before = before })

-- and it is read with them.
pub read_more : (paths : List (List ℕ)) (tree : List (List Part)) (i : ℕ) (path : List ℕ) (parts : List Part) → map (λ parts. Some parts) tree ≡ map parts_of (take i paths) → i < length paths → path ≡ get_or paths i [] → parts_of path ≡ Some parts → map (λ parts. Some parts) (tree ++ parts ∷ []) ≡ map parts_of (take (i + 1) paths)
read_more paths tree i path parts read within is e =
    map-append (λ parts. Some parts) tree (parts ∷ [])
    ∙ ap (λ rs. rs ++ Some parts ∷ []) read
    ∙ ap (λ o. map parts_of (take i paths) ++ o ∷ []) (sym e ∙ ap parts_of is)
    ∙ sym (map-append parts_of (take i paths) (get_or paths i [] ∷ []))
    ∙ ap (map parts_of) (sym (take_more paths i [] within))

-- as many were read as stand before it
pub count_read : (paths : List (List ℕ)) (tree : List (List Part)) (i : ℕ) → map (λ parts. Some parts) tree ≡ map parts_of (take i paths) → i < length paths → length tree ≡ i
count_read paths tree i read within =
    sym (length-map tree (λ parts. Some parts)) ∙ ap length read ∙ length-map (take i paths) parts_of ∙ length-take i paths ∙ omega arith
