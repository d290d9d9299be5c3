-- The macros that are listed.
use Rattle.std.proofs.Common.{◌≡◌, ℕ, zero, suc, ◌+◌, ◌<◌, List, [], ◌∷◌, ◌++◌, length, drop, get_or, Bool, true, false, Option, Some, None, refl, sym, ap, ◌∙◌, arith}
use Rattle.std.specs.Prelude.{slice_get, option_and_then, option_map, bytes_eq, IfSome, is_some, if◌then◌else◌}
use Rattle.std.specs.List.{AllByRecursion}
use Rattle.vtl_grammar.specs.Tree as tree
use Rattle.vtl_grammar.specs.Tree.{Expr, Item, Items}
use Rattle.vtl_grammar.specs.Calls.{Macro, Macros, first_of, defined_as, macros_in, count, wrong_calls, wrong_branches}
use Rattle.vtl_grammar.specs.Templates.{tested, unless_wrong}
use Rattle.vtl_words.specs.Names.{place_of}
use Rattle.vtl_words.proofs.Named.{place_push}
use Rattle.vtl_reader.proofs.Trees.{all_push, length_push}
use Rattle.vtl_reader.specs.declared.nodes.Branch.{Branch}
use Rattle.vtl_reader.specs.Nodes.{Nodes, item_of, items_made, branches_made, exprs_made, AllBelow}
use Rattle.vtl_reader.specs.Macros.{Listed, defines, found_in, macros_by, wrong_heads, AreListed}

pub first_assoc : {A : Type 0} (a b c : Option A) → first_of (first_of a b) c ≡ first_of a (first_of b c)
first_assoc None b c = refl
first_assoc (Some x) b c = refl

pub counted : (f : ℕ → Expr) (ids : List ℕ) → count (exprs_made f ids) ≡ length ids
counted f [] = refl
counted f (k ∷ ids) = ap suc (counted f ids)

pub heads_wrong : (ms : Macros) (e : ℕ → Expr) (f : ℕ → Item) (bs : List Branch) (is : Items) → wrong_branches ms (branches_made e f bs is) ≡ first_of (wrong_heads ms f bs) (wrong_calls ms is)
heads_wrong ms e f [] is = refl
heads_wrong ms e f (b ∷ bs) is =
    ap (first_of (wrong_calls ms (items_made f b.items.items))) (heads_wrong ms e f bs is)
    ∙ sym (first_assoc (wrong_calls ms (items_made f b.items.items)) (wrong_heads ms f bs) (wrong_calls ms is))

-- a number that is found stands
got_below : (n : ℕ) (ids : List ℕ) (j : ℕ) → AllBelow n ids → IfSome (slice_get ids j) (λ k. k < n)
got_below n [] j h = tt
got_below n (k ∷ ids) zero h = h.0
got_below n (k ∷ ids) (suc j) h = got_below n ids j h.1

pub found_below : (n : ℕ) (l : Listed) (x : List ℕ) → AllBelow n l.ids → IfSome (found_in l x) (λ k. k < n)
found_below n l x h = go (place_of l.names x)
  where
    go : (o : Option ℕ) → IfSome (option_and_then (slice_get l.ids) o) (λ k. k < n)
    go None = tt
    go (Some j) = got_below n l.ids j h

-- one more macro

below_next : (b : Bool) (o : Option ℕ) (n : ℕ) → IfSome o (λ j. j < n) → IfSome (elim b as (λ _. Option ℕ) [ true ↦ Some 0 | false ↦ option_map suc o ]) (λ j. j < suc n)
below_next true o n h = omega arith
below_next false None n h = tt
below_next false (Some j) n h = omega (arith, h)

place_below : (names : List (List ℕ)) (x : List ℕ) → IfSome (place_of names x) (λ j. j < length names)
place_below [] x = tt
place_below (w ∷ ws) x = below_next (bytes_eq w x) (place_of ws x) (length ws) (place_below ws x)

got_front : (ids : List ℕ) (k j : ℕ) → j < length ids → slice_get (ids ++ k ∷ []) j ≡ slice_get ids j
got_front [] k j h = absurd (omega (arith, h))
got_front (i ∷ ids) k zero h = refl
got_front (i ∷ ids) k (suc j) h = got_front ids k j (omega (arith, h))

got_last : (ids : List ℕ) (k : ℕ) → slice_get (ids ++ k ∷ []) (length ids) ≡ Some k
got_last [] k = refl
got_last (i ∷ ids) k = got_last ids k

abbrev AllDefine : Nodes → List ℕ → Type 0
AllDefine ns ids = AllByRecursion (λ k. is_some (defines (item_of ns k)) ≡ true) ids

some_stays : (o m : Option Macro) → is_some o ≡ true → o ≡ first_of o m
some_stays None m e = absurd cc
some_stays (Some x) m e = refl

module _ (ns : Nodes) where
  by : List ℕ → Option ℕ → Option Macro
  by ids o = option_and_then (λ j. defines (item_of ns j)) (option_and_then (slice_get ids) o)

  stays : (ids : List ℕ) (j : ℕ) (m : Option Macro) → AllDefine ns ids → j < length ids → option_and_then (λ k. defines (item_of ns k)) (slice_get ids j) ≡ first_of (option_and_then (λ k. defines (item_of ns k)) (slice_get ids j)) m
  stays [] j m all h = absurd (omega (arith, h))
  stays (i ∷ ids) zero m all h = some_stays (defines (item_of ns i)) m all.0
  stays (i ∷ ids) (suc j) m all h = stays ids j m all.1 (omega (arith, h))

  module _ (names : List (List ℕ)) (ids : List ℕ) (same : length names ≡ length ids) (all : AllDefine ns ids) (k : ℕ) (y : List ℕ) (ps : List (List ℕ)) (body : Items) (made : item_of ns k ≡ tree.define y ps body) where
    fresh : (b : Bool) → by (ids ++ k ∷ []) (if b then Some (length names) else None) ≡ (if b then Some (record { params = ps; body = body }) else None)
    unfolding by
    fresh true = ap (λ n. option_and_then (λ j. defines (item_of ns j)) (slice_get (ids ++ k ∷ []) n)) same ∙ ap (λ z. option_and_then (λ j. defines (item_of ns j)) z) (got_last ids k) ∙ ap defines made
    fresh false = refl

    joined : (o p : Option ℕ) (m : Option Macro) → IfSome o (λ j. j < length names) → by (ids ++ k ∷ []) p ≡ m → by (ids ++ k ∷ []) (first_of o p) ≡ first_of (by ids o) m
    unfolding by
    joined None p m h e = e
    joined (Some j) p m h e = ap (λ z. option_and_then (λ j. defines (item_of ns j)) z) (got_front ids k j (omega (arith, h, same))) ∙ stays ids j m all (omega (arith, h, same))

    -- the macros with one more
    pub one_more : (x : List ℕ) → macros_by ns (record { names = names ++ y ∷ []; ids = ids ++ k ∷ [] }) x ≡ first_of (macros_by ns (record { names = names; ids = ids }) x) (defined_as x (item_of ns k))
    unfolding by
    one_more x =
        ap (by (ids ++ k ∷ [])) (place_push names y x)
        ∙ joined (place_of names x) (if bytes_eq y x then Some (length names) else None) (if bytes_eq y x then Some (record { params = ps; body = body }) else None) (place_below names x) (fresh (bytes_eq y x))
        ∙ ap (λ z. first_of (macros_by ns (record { names = names; ids = ids }) x) (defined_as x z)) (sym made)

    pub listed_more : AllBelow (length ns.items) ids → k < length ns.items → AreListed ns (names ++ y ∷ []) (ids ++ k ∷ [])
    listed_more below stands = record {
      same = let a = length_push names y in let b = length_push ids k in omega (arith, same, a, b);
      all = all_push (λ j. is_some (defines (item_of ns j)) ≡ true) ids k all (ap (λ z. is_some (defines z)) made);
      defined = all_push (λ j. j < length ns.items) ids k below stands;
    }

-- an item that defines nothing
pub none_more : (o : Option Macro) → first_of o None ≡ o
none_more None = refl
none_more (Some x) = refl

macros_next : (ns : Nodes) (x : List ℕ) (ids : List ℕ) (n d : ℕ) → n < length ids → macros_in (items_made (item_of ns) (drop n ids)) x ≡ first_of (defined_as x (item_of ns (get_or ids n d))) (macros_in (items_made (item_of ns) (drop (suc n) ids)) x)
macros_next ns x [] n d h = absurd (omega (arith, h))
macros_next ns x (k ∷ ids) zero d h = refl
macros_next ns x (k ∷ ids) (suc n) d h = macros_next ns x ids n d (omega (arith, h))

-- the macros so far and those of the items that are left, behind one more item
pub listed_next : (ns : Nodes) (old new : Listed) (x : List ℕ) (ids : List ℕ) (n d : ℕ) (target : Option Macro) → n < length ids → macros_by ns new x ≡ first_of (macros_by ns old x) (defined_as x (item_of ns (get_or ids n d))) → first_of (macros_by ns old x) (macros_in (items_made (item_of ns) (drop n ids)) x) ≡ target → first_of (macros_by ns new x) (macros_in (items_made (item_of ns) (drop (n + 1) ids)) x) ≡ target
listed_next ns old new x ids n d target h e so_far =
    let one : n + 1 ≡ suc n = omega arith in
    let left : ℕ → Option Macro = λ m. macros_in (items_made (item_of ns) (drop m ids)) x in
    ap (λ m. first_of (macros_by ns new x) (left m)) one
    ∙ ap (λ z. first_of z (left (suc n))) e
    ∙ first_assoc (macros_by ns old x) (defined_as x (item_of ns (get_or ids n d))) (left (suc n))
    ∙ ap (first_of (macros_by ns old x)) (sym (macros_next ns x ids n d h))
    ∙ so_far

-- the calls are tested by the macros that are listed
pub tested_calls : (ms : Macros) (is : Items) → ((x : List ℕ) → ms x ≡ macros_in is x) → tested is ≡ unless_wrong is (wrong_calls ms is)
tested_calls ms is same = let path : ms ≡ macros_in is = λ i x. same x i in ap (λ m. unless_wrong is (wrong_calls m is)) (sym path)
