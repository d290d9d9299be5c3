-- Names that stand once.
use Rattle.std.proofs.Common.{◌≡◌, ℕ, ◌+◌, ◌<◌, ◌≤◌, Bool, true, false, List, [], ◌∷◌, map, Some, None, option_map, refl, sym, ap, ◌∙◌, arith}
use Rattle.std.specs.Prelude.{String, if◌then◌else◌}
use Rattle.std.specs.Str.{bytes_eq}
use Rattle.std.specs.String.{string_bytes}
use Rattle.std.specs.declared.alloc.Global.{Global}
use Rattle.std.proofs.lemmas.Slice.Eq.{bytes_eq-Decides}
use Rattle.json_subset.specs.Tree.{Tree, members_of}
use Rattle.json_subset.specs.Nodes.{member_at}
use Rattle.json_subset.specs.Numbered.{number_named}
use Rattle.json_values.proofs.Lookups.{found_member}
use Rattle.json_distinct.specs.Distinct.{IsOnceNamed, HasNamesOnce}

-- these members of all are each the first of its name, their numbers rise from this one on, and their values repeat no name
abbrev pub AreFirst : (ℕ → Tree) → List (String Global × ℕ) → ℕ → List (String Global × ℕ) → Type 0
AreFirst f all least [] = Unit {0}
AreFirst f all least (m ∷ ms) = (number_named all (string_bytes m.0) ≡ Some m.1) × (least ≤ m.1) × IsOnceNamed (f m.1) × AreFirst f all (m.1 + 1) ms

some_same : {m n : ℕ} → Some m ≡ Some n → m ≡ n
some_same e = cc

-- where a first member has a lesser number, no later one has its name
later : (m : String Global × ℕ) (rest : List (String Global × ℕ)) (x : String Global × ℕ) → number_named (m ∷ rest) (string_bytes x.0) ≡ Some x.1 → m.1 < x.1 → (bytes_eq (string_bytes m.0) (string_bytes x.0) ≡ false) × (number_named rest (string_bytes x.0) ≡ Some x.1)
later m rest x first less = go (bytes_eq (string_bytes m.0) (string_bytes x.0)) refl first
  where
    go : (b : Bool) → bytes_eq (string_bytes m.0) (string_bytes x.0) ≡ b → (if b then Some m.1 else number_named rest (string_bytes x.0)) ≡ Some x.1 → (bytes_eq (string_bytes m.0) (string_bytes x.0) ≡ false) × (number_named rest (string_bytes x.0) ≡ Some x.1)
    go true e is = let same : m.1 ≡ x.1 = some_same is in absurd (omega (arith, same, less))
    go false e is = (e, is)

-- the others stand first among the others
fewer : (f : ℕ → Tree) (m : String Global × ℕ) (rest : List (String Global × ℕ)) (least : ℕ) (ms : List (String Global × ℕ)) → m.1 < least → AreFirst f (m ∷ rest) least ms → AreFirst f rest least ms
fewer f m rest least [] less first = tt
fewer f m rest least (x ∷ ms) less first =
    let l : m.1 < x.1 = (let bound = first.1 in omega (arith, less, bound)) in
    ((later m rest x first.0 l).1, first.1, first.2, fewer f m rest (x.1 + 1) ms (omega (arith, l)) first.3)

differ : (x y : List ℕ) → bytes_eq y x ≡ false → bytes_eq x y ≡ false
differ x y f = go (bytes_eq x y) refl
  where
    go : (b : Bool) → bytes_eq x y ≡ b → bytes_eq x y ≡ false
    go false h = h
    go true h = let name : x ≡ y = (bytes_eq-Decides x y).0 h in let back : bytes_eq y x ≡ true = (bytes_eq-Decides y x).1 (sym name) in absurd cc

-- none of these has the name of the first
unnamed : (f : ℕ → Tree) (m : String Global × ℕ) (rest : List (String Global × ℕ)) (least : ℕ) (ms : List (String Global × ℕ)) → m.1 < least → AreFirst f (m ∷ rest) least ms → number_named ms (string_bytes m.0) ≡ None
unnamed f m rest least [] less first = refl
unnamed f m rest least (x ∷ ms) less first =
    let l : m.1 < x.1 = (let bound = first.1 in omega (arith, less, bound)) in
    ap (λ b. if b then Some x.1 else number_named ms (string_bytes m.0)) (differ (string_bytes x.0) (string_bytes m.0) (later m rest x first.0 l).0)
    ∙ unnamed f m rest (x.1 + 1) ms (omega (arith, l)) first.3

names_once : (f : ℕ → Tree) (least : ℕ) (ms : List (String Global × ℕ)) → AreFirst f ms least ms → HasNamesOnce (members_of (map (member_at f) ms))
names_once f least [] first = tt
names_once f least (m ∷ ms) first = (
  found_member f ms (string_bytes m.0) ∙ ap (option_map f) (unnamed f m ms (m.1 + 1) ms (omega arith) first.3),
  first.2,
  names_once f (m.1 + 1) ms (fewer f m ms (m.1 + 1) ms (omega arith) first.3),
)

pub all_once : (f : ℕ → Tree) (ms : List (String Global × ℕ)) → AreFirst f ms 0 ms → HasNamesOnce (members_of (map (member_at f) ms))
all_once f ms first = names_once f 0 ms first
