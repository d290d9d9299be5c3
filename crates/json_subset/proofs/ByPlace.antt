-- The parts of a list or an object, by place and by name.
use Rattle.std.proofs.Common.{◌≡◌, ℕ, zero, suc, ◌<◌, ◌≤◌, List, [], ◌∷◌, length, map, get_or, Option, Some, None, refl, ◌∙◌, ap, arith, Bool, true, false}
use Rattle.std.specs.Prelude.{slice_range, String, if◌then◌else◌, MatchOption}
use Rattle.std.specs.Str.{bytes_eq}
use Rattle.std.specs.String.{string_bytes}
use Rattle.std.specs.declared.alloc.Global.{Global}
use Rattle.json_subset.specs.Tree.{Tree, Form, object, trees_of, members_of}
use Rattle.json_subset.specs.Nodes.{made, form_of, member_at, AllBelow, AllValuesBelow, tree_of}
use Rattle.json_subset.specs.Numbered.{number_named}
use Rattle.json_subset.specs.Documents.{form, count, count_members, tree_at, pair_at, first_named, member_named}
use Rattle.json_subset.specs.declared.node.Node.{Node}
use Rattle.json_subset.specs.declared.node.Form.{Form as CodeForm}

pub form_is : (s : List ℕ) (ns : List Node) (k : ℕ) (x : Node) (f : CodeForm) → tree_of s ns k ≡ made s (tree_of s ns) x → x.form ≡ f → form (tree_of s ns k) ≡ form_of (slice_range s x.first x.past) (tree_of s ns) f
form_is s ns k x f e h = ap form e ∙ ap (form_of (slice_range s x.first x.past) (tree_of s ns)) h

pub count_map : (g : ℕ → Tree) (ids : List ℕ) → count (trees_of (map g ids)) ≡ length ids
count_map g [] = refl
count_map g (k ∷ ids) = ap suc (count_map g ids)

pub count_pairs : (g : ℕ → Tree) (ms : List (String Global × ℕ)) → count_members (members_of (map (member_at g) ms)) ≡ length ms
count_pairs g [] = refl
count_pairs g (m ∷ ms) = ap suc (count_pairs g ms)

pub item_there : (g : ℕ → Tree) (ids : List ℕ) (i d : ℕ) → i < length ids → tree_at (trees_of (map g ids)) i ≡ Some (g (get_or ids i d))
item_there g [] i d h = absurd (omega (arith, h))
item_there g (k ∷ ids) zero d h = refl
item_there g (k ∷ ids) (suc i) d h = item_there g ids i d (omega (arith, h))

pub item_missing : (g : ℕ → Tree) (ids : List ℕ) (i : ℕ) → length ids ≤ i → tree_at (trees_of (map g ids)) i ≡ None
item_missing g [] i h = refl
item_missing g (k ∷ ids) zero h = absurd (omega (arith, h))
item_missing g (k ∷ ids) (suc i) h = item_missing g ids i (omega (arith, h))

pub pair_there : (g : ℕ → Tree) (ms : List (String Global × ℕ)) (i : ℕ) (d : String Global × ℕ) → i < length ms → pair_at (members_of (map (member_at g) ms)) i ≡ Some (member_at g (get_or ms i d))
pair_there g [] i d h = absurd (omega (arith, h))
pair_there g (m ∷ ms) zero d h = refl
pair_there g (m ∷ ms) (suc i) d h = pair_there g ms i d (omega (arith, h))

pub pair_missing : (g : ℕ → Tree) (ms : List (String Global × ℕ)) (i : ℕ) → length ms ≤ i → pair_at (members_of (map (member_at g) ms)) i ≡ None
pair_missing g [] i h = refl
pair_missing g (m ∷ ms) zero h = absurd (omega (arith, h))
pair_missing g (m ∷ ms) (suc i) h = pair_missing g ms i (omega (arith, h))

pub id_below : (n : ℕ) (ids : List ℕ) (i d : ℕ) → i < length ids → AllBelow n ids → get_or ids i d < n
id_below n [] i d h q = absurd (omega (arith, h))
id_below n (k ∷ ids) zero d h q = q.0
id_below n (k ∷ ids) (suc i) d h q = id_below n ids i d (omega (arith, h)) q.1

pub value_below : (n : ℕ) (ms : List (String Global × ℕ)) (i : ℕ) (d : String Global × ℕ) → i < length ms → AllValuesBelow n ms → (get_or ms i d).1 < n
value_below n [] i d h q = absurd (omega (arith, h))
value_below n (m ∷ ms) zero d h q = q.0
value_below n (m ∷ ms) (suc i) d h q = value_below n ms i d (omega (arith, h)) q.1

abbrev pub Named : ℕ → (ℕ → Tree) → List (String Global × ℕ) → List ℕ → Option ℕ → Type 0
Named n g ms q (Some j) = (j < n) × (first_named (members_of (map (member_at g) ms)) q ≡ Some (g j))
Named n g ms q None = first_named (members_of (map (member_at g) ms)) q ≡ None

pub named_there : (n : ℕ) (g : ℕ → Tree) (ms : List (String Global × ℕ)) (q : List ℕ) → AllValuesBelow n ms → Named n g ms q (number_named ms q)
named_there n g [] q h = refl
named_there n g (m ∷ ms) q h = go (bytes_eq (string_bytes m.0) q) refl (number_named ms q) (named_there n g ms q h.1)
  where
    go : (b : Bool) → bytes_eq (string_bytes m.0) q ≡ b → (o : Option ℕ) → Named n g ms q o → Named n g (m ∷ ms) q (if b then Some m.1 else o)
    go true e o k = (h.0, ap (λ z. if z then Some (g m.1) else first_named (members_of (map (member_at g) ms)) q) e)
    go false e (Some j) k = (k.0, ap (λ z. if z then Some (g m.1) else first_named (members_of (map (member_at g) ms)) q) e ∙ k.1)
    go false e None k = ap (λ z. if z then Some (g m.1) else first_named (members_of (map (member_at g) ms)) q) e ∙ k

pub named_found : (n : ℕ) (g : ℕ → Tree) (ms : List (String Global × ℕ)) (q : List ℕ) (t : Form) (o : Option ℕ) → t ≡ object (members_of (map (member_at g) ms)) → Named n g ms q o → MatchOption o (member_named t q ≡ None) (λ j. (j < n) × (member_named t q ≡ Some (g j)))
named_found n g ms q t None e h = ap (λ z. member_named z q) e ∙ h
named_found n g ms q t (Some j) e h = (h.0, ap (λ z. member_named z q) e ∙ h.1)
