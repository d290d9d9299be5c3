-- Members by name, in the program and in its tree.
use Rattle.std.proofs.Common.{◌≡◌, ℕ, suc, ◌<◌, List, [], ◌∷◌, ◌++◌, length, map, Bool, true, false, Option, Some, None, option_map, refl, sym, ap, ◌∙◌}
use Rattle.std.specs.BTreeMap.{BTreeMap, get_by_text}
use Rattle.std.specs.Map.{update}
use Rattle.std.proofs.lemmas.Slice.Eq.{bytes_eq-Decides}
use Rattle.json_values.specs.Values.{first_of, IsIndexed}
use Rattle.std.specs.Prelude.{IfSome, is_some, cond, String, if◌then◌else◌}
use Rattle.std.specs.Str.{bytes_eq}
use Rattle.std.specs.String.{string_bytes}
use Rattle.std.specs.declared.alloc.Global.{Global}
use Rattle.json_subset.specs.Tree.{Tree, members_of, trees_of}
use Rattle.json_subset.specs.Nodes.{member_at, AllValuesBelow}
use Rattle.json_subset.specs.Documents.{first_named, count, count_members}
use Rattle.json_subset.specs.Numbered.{number_named}

pub named_below : (n : ℕ) (ms : List (String Global × ℕ)) (q : List ℕ) → AllValuesBelow n ms → IfSome (number_named ms q) (λ i. i < n)
named_below n [] q h = tt
named_below n (m ∷ ms) q h = go (bytes_eq (string_bytes m.0) q) (number_named ms q) (named_below n ms q h.1)
  where
    go : (b : Bool) (o : Option ℕ) → IfSome o (λ i. i < n) → IfSome (if b then Some m.1 else o) (λ i. i < n)
    go true o r = h.0
    go false o r = r

pub found_member : (f : ℕ → Tree) (ms : List (String Global × ℕ)) (q : List ℕ) → first_named (members_of (map (member_at f) ms)) q ≡ option_map f (number_named ms q)
found_member f [] q = refl
found_member f (m ∷ ms) q = go (bytes_eq (string_bytes m.0) q) _ _ (found_member f ms q)
  where
    go : (b : Bool) (o : Option Tree) (p : Option ℕ) → o ≡ option_map f p → (if b then Some (f m.1) else o) ≡ option_map f (if b then Some m.1 else p)
    go true o p e = refl
    go false o p e = e

pub counted : (f : ℕ → Tree) (ms : List (String Global × ℕ)) → count_members (members_of (map (member_at f) ms)) ≡ length ms
counted f [] = refl
counted f (m ∷ ms) = ap suc (counted f ms)

-- what was looked up by these bytes
pub member_found : (f : ℕ → Tree) (ms : List (String Global × ℕ)) (q r : List ℕ) (o : Option ℕ) → o ≡ number_named ms r → r ≡ q → first_named (members_of (map (member_at f) ms)) q ≡ option_map f o
member_found f ms q r o e same = found_member f ms q ∙ ap (λ z. option_map f (number_named ms z)) (sym same) ∙ ap (option_map f) (sym e)

-- the numbers of the members before, and of one more
named_push : (ms : List (String Global × ℕ)) (m : String Global × ℕ) (q : List ℕ) → number_named (ms ++ m ∷ []) q ≡ first_of (number_named ms q) (if bytes_eq (string_bytes m.0) q then Some m.1 else None)
named_push [] m q = refl
named_push (x ∷ ms) m q = go (bytes_eq (string_bytes x.0) q) _ _ _ (named_push ms m q)
  where
    go : (b : Bool) (r o p : Option ℕ) → r ≡ first_of o p → (if b then Some x.1 else r) ≡ first_of (if b then Some x.1 else o) p
    go true r o p e = refl
    go false r o p e = e

-- an index with one more name
pub indexed_push : (ms : List (String Global × ℕ)) (m : String Global × ℕ) (old new : BTreeMap (String Global) ℕ) → IsIndexed ms old → ((q : List ℕ) → get_by_text new q ≡ first_of (get_by_text old q) (if bytes_eq (string_bytes m.0) q then Some m.1 else None)) → IsIndexed (ms ++ m ∷ []) new
indexed_push ms m old new before entered q = entered q ∙ ap (λ z. first_of z (if bytes_eq (string_bytes m.0) q then Some m.1 else None)) (before q) ∙ sym (named_push ms m q)

first_none : (o : Option ℕ) → first_of o None ≡ o
first_none None = refl
first_none (Some k) = refl

-- a name that has a number keeps it
pub entered_before : (get : List ℕ → Option ℕ) (name : List ℕ) (k : ℕ) → is_some (get name) ≡ true → (q : List ℕ) → get q ≡ first_of (get q) (if bytes_eq name q then Some k else None)
entered_before get name k h q = go (bytes_eq name q) refl
  where
    keeps : (o : Option ℕ) → is_some o ≡ true → o ≡ first_of o (Some k)
    keeps None e = absurd cc
    keeps (Some j) e = refl

    go : (b : Bool) → bytes_eq name q ≡ b → get q ≡ first_of (get q) (if b then Some k else None)
    go true e = let same : name ≡ q = (bytes_eq-Decides name q).0 e in keeps (get q) (ap (λ z. is_some (get z)) (sym same) ∙ h)
    go false e = sym (first_none (get q))

-- a new name takes its number
pub entered_new : (old new : List ℕ → Option ℕ) (name : List ℕ) (k : ℕ) → is_some (old name) ≡ false → ((q : List ℕ) → new q ≡ update bytes_eq old name (Some k) q) → (q : List ℕ) → new q ≡ first_of (old q) (if bytes_eq name q then Some k else None)
entered_new old new name k h updates q = updates q ∙ go (bytes_eq name q) refl
  where
    takes : (o : Option ℕ) → is_some o ≡ false → Some k ≡ first_of o (Some k)
    takes None e = refl
    takes (Some j) e = absurd cc

    go : (b : Bool) → bytes_eq name q ≡ b → cond b (Some k) (old q) ≡ first_of (old q) (if b then Some k else None)
    go true e = let same : name ≡ q = (bytes_eq-Decides name q).0 e in takes (old q) (ap (λ z. is_some (old z)) (sym same) ∙ h)
    go false e = sym (first_none (old q))

pub counted_items : (f : ℕ → Tree) (ids : List ℕ) → count (trees_of (map f ids)) ≡ length ids
counted_items f [] = refl
counted_items f (k ∷ ids) = ap suc (counted_items f ids)
