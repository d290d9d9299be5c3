-- A value's parts, and what holds of it without its places.
use Rattle.std.proofs.Common.{◌≡◌, ◌<◌, ◌+◌, ℕ, length, drop, drop-cons, get_or, arith, List, [], ◌∷◌, map, option_map, Bool, true, false, Option, Some, None, refl, sym, ap, ◌∙◌}
use Rattle.std.specs.Prelude.{String, MatchOption, if◌then◌else◌}
use Rattle.std.specs.Str.{bytes_eq}
use Rattle.json_subset.specs.Numbered.{number_named}
use Rattle.std.specs.String.{string_bytes}
use Rattle.std.specs.declared.alloc.Global.{Global}
use Rattle.json_subset.specs.Tree.{Tree, node, trees_of, members_of}
use Rattle.json_subset.specs.Nodes.{member_at}
use Rattle.json_subset.specs.Documents.{form}
use Rattle.json_subset.specs.Bare.{bare, bare_form}
use Rattle.json_values.specs.Values.{plain_of}
use Rattle.json_values.proofs.Plain.{source_plain}
use Rattle.schema_keywords.specs.Keywords.{Test, meets}
use Rattle.schema_keywords.proofs.Plain.{meets_plain}
use Rattle.json_subset.specs.Reading.{named}
use Rattle.schema_keywords.specs.declared.keyword.Keyword.TheVariants.{AdditionalProperties}
use Rattle.schema_rules.specs.Rules.{Others, Schemas}
use Rattle.schema_rules.specs.Verdict.{Part, additional, each_unnamed, find, first_of_two, valid, verdict, place_of, tree_parts, named_parts}
use Rattle.schema_rules.specs.Cases.{IsSoundCase, tree_in, value_in, part_in, member_in}
use Rattle.schema_rules.specs.declared.case.Case.{Case}

form_plain : (t : Tree) → form (bare t) ≡ bare_form (form t)
form_plain (node a b f) = refl

-- a keyword that looks at the value alone is met with or without places
pub met_alike : (c : Case) (i : ℕ) (t : Test) → IsSoundCase c → meets (form (plain_of c.values.now i)) t ≡ meets (form (tree_in c i)) t
met_alike c i t sound =
    ap (λ z. meets (form z) t) (sym (source_plain c.doc.now c.values.now i sound.values sound.mirror))
    ∙ ap (λ z. meets z t) (form_plain (tree_in c i))
    ∙ meets_plain (form (tree_in c i)) t

pub items_map : (ss : Schemas) (f : ℕ → Tree) (ids : List ℕ) → tree_parts ss (trees_of (map f ids)) ≡ map (λ i. record { at = place_of (f i); judge = verdict ss (f i) }) ids
items_map ss f [] = refl
items_map ss f (i ∷ ids) = ap (λ z. record { at = place_of (f i); judge = verdict ss (f i) } ∷ z) (items_map ss f ids)

pub members_map : (ss : Schemas) (f : ℕ → Tree) (ms : List (String Global × ℕ)) → named_parts ss (members_of (map (member_at f) ms)) ≡ map (λ m. (string_bytes m.0, record { at = place_of (f m.1); judge = verdict ss (f m.1) })) ms
members_map ss f [] = refl
members_map ss f (m ∷ ms) = ap (λ z. (string_bytes m.0, record { at = place_of (f m.1); judge = verdict ss (f m.1) }) ∷ z) (members_map ss f ms)

find_map : (c : Case) (ms : List (String Global × ℕ)) (q : List ℕ) → find q (map (member_in c) ms) ≡ option_map (part_in c) (number_named ms q)
find_map c [] q = refl
find_map c (m ∷ ms) q = go (bytes_eq (string_bytes m.0) q) _ _ (find_map c ms q)
  where
    go : (b : Bool) (o : Option Part) (p : Option ℕ) → o ≡ option_map (part_in c) p → (if b then Some (part_in c m.1) else o) ≡ option_map (part_in c) (if b then Some m.1 else p)
    go true o p e = refl
    go false o p e = e

matched : (c : Case) (o : Option ℕ) (z : Option Part) → z ≡ option_map (part_in c) o → MatchOption o (z ≡ None) (λ k. z ≡ Some (part_in c k))
matched c None z e = e
matched c (Some k) z e = e

-- the member that is found by name
pub member_found : (c : Case) (i : ℕ) (ms : List (String Global × ℕ)) (q : List ℕ) (o : Option ℕ) → (value_in c i).members ≡ map (member_in c) ms → o ≡ number_named ms q → MatchOption o (find q (value_in c i).members ≡ None) (λ k. find q (value_in c i).members ≡ Some (part_in c k))
member_found c i ms q o same is = matched c o _ (ap (find q) same ∙ find_map c ms q ∙ ap (option_map (part_in c)) (sym is))

pub next_member : (ms : List (String Global × ℕ)) (i : ℕ) (m : String Global × ℕ) → i < length ms → m ≡ get_or ms i m → drop i ms ≡ m ∷ drop (i + 1) ms
next_member ms i m h is = grind (arith, drop-cons ms i m h, is)

-- a member that the names have is passed over
pub passed_over : (c : Case) (xs : List (List ℕ)) (o : Others) (m : String Global × ℕ) (ms : List (String Global × ℕ)) → named xs (string_bytes m.0) ≡ true → each_unnamed xs o (map (member_in c) (m ∷ ms)) ≡ each_unnamed xs o (map (member_in c) ms)
passed_over c xs o m ms e = ap (λ b. if b then each_unnamed xs o (map (member_in c) ms) else first_of_two (additional o AdditionalProperties (part_in c m.1)) (each_unnamed xs o (map (member_in c) ms))) e

-- and so is another that is valid
pub valid_over : (c : Case) (xs : List (List ℕ)) (o : Others) (m : String Global × ℕ) (ms : List (String Global × ℕ)) → named xs (string_bytes m.0) ≡ false → additional o AdditionalProperties (part_in c m.1) ≡ valid → each_unnamed xs o (map (member_in c) (m ∷ ms)) ≡ each_unnamed xs o (map (member_in c) ms)
valid_over c xs o m ms e v =
    ap (λ b. if b then each_unnamed xs o (map (member_in c) ms) else first_of_two (additional o AdditionalProperties (part_in c m.1)) (each_unnamed xs o (map (member_in c) ms))) e
    ∙ ap (λ z. first_of_two z (each_unnamed xs o (map (member_in c) ms))) v
