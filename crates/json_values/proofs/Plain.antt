-- Trees without their places.
use Rattle.std.proofs.Common.{◌≡◌, ℕ, zero, suc, ◌<◌, Bool, true, false, ◌&&◌, List, [], ◌∷◌, map, Option, Some, None, option_map, refl, ◌∙◌, ap, arith}
use Rattle.std.specs.Prelude.{slice_get, String, ◌==◌, if◌then◌else◌}
use Rattle.std.specs.Str.{bytes_eq}
use Rattle.std.specs.String.{string_bytes}
use Rattle.std.specs.declared.alloc.Global.{Global}
use Rattle.json_subset.specs.Tree.{Tree, node, Form, null, bool, number, text, list, object, Trees, no_trees, tree, Members, no_members, member, trees_of, members_of}
use Rattle.json_subset.specs.Documents.{Document, part, form, first_named, count_members}
use Rattle.json_subset.specs.Nodes.{member_at}
use Rattle.json_values.specs.Same.{same, same_form, same_items, all_in, if_found}
use Rattle.json_subset.specs.Bare.{bare, bare_form, bare_trees, bare_members}
use Rattle.json_values.specs.Values.{plain_of, plain_within, there, form_of, source_of, read_from, AreSound, Mirror}
use Rattle.json_values.specs.declared.value.Value.{Value}
use Rattle.json_values.specs.declared.value.Form.{Form as CodeForm}
use Rattle.json_values.specs.declared.value.Form.TheVariants as code
use Rattle.json_values.proofs.Opened.{form_alike}

pub plain_count : (ms : Members) → count_members (bare_members ms) ≡ count_members ms
plain_count no_members = refl
plain_count (member x t ms) = ap suc (plain_count ms)

pub plain_named : (ms : Members) (q : List ℕ) → first_named (bare_members ms) q ≡ option_map bare (first_named ms q)
plain_named no_members q = refl
plain_named (member x t ms) q = go (bytes_eq x q) _ _ (plain_named ms q)
  where
    go : (b : Bool) (o p : Option Tree) → o ≡ option_map bare p → (if b then Some (bare t) else o) ≡ option_map bare (if b then Some t else p)
    go true o p e = refl
    go false o p e = e

found_plain : (f g : Tree → Bool) (o : Option Tree) → ((u : Tree) → f (bare u) ≡ g u) → if_found f (option_map bare o) ≡ if_found g o
found_plain f g None e = refl
found_plain f g (Some u) e = e u

-- places make no two values different
mutual
  pub same_plain : (t u : Tree) → same (bare t) (bare u) ≡ same t u
  same_plain (node a b f) (node c d g) = same_plain_form f g

  same_plain_form : (f g : Form) → same_form (bare_form f) (bare_form g) ≡ same_form f g
  same_plain_form null null = refl
  same_plain_form null (bool b) = refl
  same_plain_form null (number x s) = refl
  same_plain_form null (text t) = refl
  same_plain_form null (list ts) = refl
  same_plain_form null (object ms) = refl
  same_plain_form (bool a) null = refl
  same_plain_form (bool a) (bool b) = refl
  same_plain_form (bool a) (number x s) = refl
  same_plain_form (bool a) (text t) = refl
  same_plain_form (bool a) (list ts) = refl
  same_plain_form (bool a) (object ms) = refl
  same_plain_form (number x s) null = refl
  same_plain_form (number x s) (bool b) = refl
  same_plain_form (number x s) (number y t) = refl
  same_plain_form (number x s) (text t) = refl
  same_plain_form (number x s) (list ts) = refl
  same_plain_form (number x s) (object ms) = refl
  same_plain_form (text s) null = refl
  same_plain_form (text s) (bool b) = refl
  same_plain_form (text s) (number x t) = refl
  same_plain_form (text s) (text t) = refl
  same_plain_form (text s) (list ts) = refl
  same_plain_form (text s) (object ms) = refl
  same_plain_form (list ts) null = refl
  same_plain_form (list ts) (bool b) = refl
  same_plain_form (list ts) (number x s) = refl
  same_plain_form (list ts) (text t) = refl
  same_plain_form (list ts) (list us) = same_plain_items ts us
  same_plain_form (list ts) (object ms) = refl
  same_plain_form (object ms) null = refl
  same_plain_form (object ms) (bool b) = refl
  same_plain_form (object ms) (number x s) = refl
  same_plain_form (object ms) (text t) = refl
  same_plain_form (object ms) (list ts) = refl
  same_plain_form (object ms) (object ns) =
      ap (λ n. (n == count_members (bare_members ns)) && all_in (bare_members ms) (bare_members ns)) (plain_count ms)
      ∙ ap (λ n. (count_members ms == n) && all_in (bare_members ms) (bare_members ns)) (plain_count ns)
      ∙ ap (λ b. (count_members ms == count_members ns) && b) (same_plain_members ms ns)

  same_plain_items : (ts us : Trees) → same_items (bare_trees ts) (bare_trees us) ≡ same_items ts us
  same_plain_items no_trees no_trees = refl
  same_plain_items no_trees (tree u us) = refl
  same_plain_items (tree t ts) no_trees = refl
  same_plain_items (tree t ts) (tree u us) = ap (λ b. b && same_items (bare_trees ts) (bare_trees us)) (same_plain t u) ∙ ap (λ b. same t u && b) (same_plain_items ts us)

  same_plain_members : (ms ns : Members) → all_in (bare_members ms) (bare_members ns) ≡ all_in ms ns
  same_plain_members no_members ns = refl
  same_plain_members (member x t ms) ns =
      ap (λ o. if_found (same (bare t)) o && all_in (bare_members ms) (bare_members ns)) (plain_named ns x)
      ∙ ap (λ b. b && all_in (bare_members ms) (bare_members ns)) (found_plain (same (bare t)) (same t) (first_named ns x) (λ u. same_plain t u))
      ∙ ap (λ b. if_found (same t) (first_named ns x) && b) (same_plain_members ms ns)

found_alike : (f g : Tree → Bool) (o : Option Tree) → ((u : Tree) → f u ≡ g u) → if_found f o ≡ if_found g o
found_alike f g None e = refl
found_alike f g (Some u) e = e u

-- nor do those of one of the two
mutual
  pub same_plain_left : (t u : Tree) → same (bare t) u ≡ same t u
  same_plain_left (node a b f) (node c d g) = same_plain_left_form f g

  pub same_plain_left_form : (f g : Form) → same_form (bare_form f) g ≡ same_form f g
  same_plain_left_form null null = refl
  same_plain_left_form null (bool b) = refl
  same_plain_left_form null (number y u) = refl
  same_plain_left_form null (text u) = refl
  same_plain_left_form null (list us) = refl
  same_plain_left_form null (object ns) = refl
  same_plain_left_form (bool a) null = refl
  same_plain_left_form (bool a) (bool b) = refl
  same_plain_left_form (bool a) (number y u) = refl
  same_plain_left_form (bool a) (text u) = refl
  same_plain_left_form (bool a) (list us) = refl
  same_plain_left_form (bool a) (object ns) = refl
  same_plain_left_form (number x s) null = refl
  same_plain_left_form (number x s) (bool b) = refl
  same_plain_left_form (number x s) (number y u) = refl
  same_plain_left_form (number x s) (text u) = refl
  same_plain_left_form (number x s) (list us) = refl
  same_plain_left_form (number x s) (object ns) = refl
  same_plain_left_form (text s) null = refl
  same_plain_left_form (text s) (bool b) = refl
  same_plain_left_form (text s) (number y u) = refl
  same_plain_left_form (text s) (text u) = refl
  same_plain_left_form (text s) (list us) = refl
  same_plain_left_form (text s) (object ns) = refl
  same_plain_left_form (list ts) null = refl
  same_plain_left_form (list ts) (bool b) = refl
  same_plain_left_form (list ts) (number y u) = refl
  same_plain_left_form (list ts) (text u) = refl
  same_plain_left_form (list ts) (list us) = same_plain_left_items ts us
  same_plain_left_form (list ts) (object ns) = refl
  same_plain_left_form (object ms) null = refl
  same_plain_left_form (object ms) (bool b) = refl
  same_plain_left_form (object ms) (number y u) = refl
  same_plain_left_form (object ms) (text u) = refl
  same_plain_left_form (object ms) (list us) = refl
  same_plain_left_form (object ms) (object ns) = ap (λ n. (n == count_members ns) && all_in (bare_members ms) ns) (plain_count ms) ∙ ap (λ b. (count_members ms == count_members ns) && b) (same_plain_left_members ms ns)

  same_plain_left_items : (ts us : Trees) → same_items (bare_trees ts) us ≡ same_items ts us
  same_plain_left_items no_trees no_trees = refl
  same_plain_left_items no_trees (tree u us) = refl
  same_plain_left_items (tree t ts) no_trees = refl
  same_plain_left_items (tree t ts) (tree u us) = ap (λ b. b && same_items (bare_trees ts) us) (same_plain_left t u) ∙ ap (λ b. same t u && b) (same_plain_left_items ts us)

  same_plain_left_members : (ms ns : Members) → all_in (bare_members ms) ns ≡ all_in ms ns
  same_plain_left_members no_members ns = refl
  same_plain_left_members (member x t ms) ns =
      ap (λ b. b && all_in (bare_members ms) ns) (found_alike (same (bare t)) (same t) (first_named ns x) (λ u. same_plain_left t u))
      ∙ ap (λ b. if_found (same t) (first_named ns x) && b) (same_plain_left_members ms ns)

-- the values' trees are those that they were read from
plain_list : (ts : List Tree) → bare_trees (trees_of ts) ≡ trees_of (map bare ts)
plain_list [] = refl
plain_list (t ∷ ts) = ap (tree (bare t)) (plain_list ts)

map_map : (f : ℕ → Tree) (ids : List ℕ) → map bare (map f ids) ≡ map (λ k. bare (f k)) ids
map_map f [] = refl
map_map f (k ∷ ids) = ap (λ z. bare (f k) ∷ z) (map_map f ids)

plain_entries : (f : ℕ → Tree) (ms : List (String Global × ℕ)) → bare_members (members_of (map (member_at f) ms)) ≡ members_of (map (member_at (λ k. bare (f k))) ms)
plain_entries f [] = refl
plain_entries f (m ∷ ms) = ap (member (string_bytes m.0) (bare (f m.1))) (plain_entries f ms)

plain_made : (f : ℕ → Tree) (x : CodeForm) → bare_form (form_of f x) ≡ form_of (λ k. bare (f k)) x
plain_made f code.Null = refl
plain_made f (code.Bool b) = refl
plain_made f (code.Number x s) = refl
plain_made f (code.Text t) = refl
plain_made f (code.List ids) = ap list (plain_list (map f ids.items) ∙ ap trees_of (map_map f ids.items))
plain_made f (code.Object ms) = ap object (plain_entries f ms.list.items)

plain_opened : (t : Tree) → bare t ≡ node 0 0 (bare_form (form t))
plain_opened (node a b f) = refl

source_within : (d : Document) (vs : List Value) (n k : ℕ) → AreSound vs → Mirror d vs → k < n → bare (source_of d vs k) ≡ plain_within n vs k
unfolding plain_within
source_within d vs zero k sound mirror h = absurd (omega (arith, h))
source_within d vs (suc n) k sound mirror h = go (λ j below. source_within d vs n j sound mirror (omega (arith, h, below))) (slice_get vs k) refl
  where
    go : ((j : ℕ) → j < k → bare (source_of d vs j) ≡ plain_within n vs j) → (o : Option Value) → slice_get vs k ≡ o → bare (read_from d o) ≡ there (plain_within n vs) o
    go before None at = refl
    go before (Some x) at =
        plain_opened (part d x.id)
        ∙ ap (λ f. node 0 0 (bare_form f)) (mirror k x at).alike
        ∙ ap (node 0 0) (plain_made (source_of d vs) x.form ∙ form_alike (λ j. bare (source_of d vs j)) (plain_within n vs) k x.form before (sound k x at).below)

pub source_plain : (d : Document) (vs : List Value) (k : ℕ) → AreSound vs → Mirror d vs → bare (source_of d vs k) ≡ plain_of vs k
source_plain d vs k sound mirror = source_within d vs (suc k) k sound mirror (omega arith)
