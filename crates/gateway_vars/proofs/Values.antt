-- The value of a node, by its kind.
use Rattle.std.proofs.Common.{◌≡◌, ℕ, ◌+◌, List, [], ◌∷◌, ◌++◌, length, map, take, Some, None, refl, sym, ap, ◌∙◌}
use Rattle.std.proofs.lemmas.List.{map-append}
use Rattle.std.proofs.Math.Seq.{take-length}
use Rattle.json_subset.specs.Tree.{Tree, node, Form, trees_of, members_of}
use Rattle.json_subset.specs.Documents.{Document, part, form, kind, span, decoded, item_at, entry_at}
use Rattle.json_subset.specs.declared.doc.Kind.TheVariants as kinds
use Rattle.json_values.specs.Parts.{items_of, entries_of}
use Rattle.json_values.proofs.Seen.{list_form, object_form, text_form, text_decoded, decimal_part, wide_part, items_take, entries_take}
use Rattle.vtl_values.specs.Val.{Val, number, text}
use Rattle.vtl_values.specs.Making.{listed, mapped}
use Rattle.gateway_vars.specs.Documents.{value_of, form_value, item_values, member_values, member_row, all_values}

pub value_form : (t : Tree) → value_of t ≡ form_value (form t)
value_form (node first past f) = refl

pub decimal_value : (d : Document) (k : ℕ) → kind (form (part d k)) ≡ kinds.Decimal → value_of (part d k) ≡ number (span d.text (part d k))
decimal_value d k e = value_form (part d k) ∙ ap form_value (decimal_part d k e)

pub wide_value : (d : Document) (k : ℕ) → kind (form (part d k)) ≡ kinds.Wide → value_of (part d k) ≡ number (span d.text (part d k))
wide_value d k e = value_form (part d k) ∙ ap form_value (wide_part d k e)

pub string_value : (d : Document) (k : ℕ) (t : List ℕ) → decoded (form (part d k)) ≡ Some t → text t ≡ value_of (part d k)
string_value d k t e = sym (value_form (part d k) ∙ ap form_value (text_form (form (part d k)) t e))

pub some_string : (d : Document) (k : ℕ) → kind (form (part d k)) ≡ kinds.Text → decoded (form (part d k)) ≡ None → ⊥
some_string d k e none = text_decoded (form (part d k)) e none

items_back : (ts : List Tree) → item_values (trees_of ts) ≡ map value_of ts
items_back [] = refl
items_back (t ∷ ts) = ap (λ vs. value_of t ∷ vs) (items_back ts)

members_back : (ms : List (List ℕ × Tree)) → member_values (members_of ms) ≡ map member_row ms
members_back [] = refl
members_back (m ∷ ms) = ap (λ vs. member_row m ∷ vs) (members_back ms)

pub list_made : (t : Tree) (n : ℕ) (vs : List Val) → kind (form t) ≡ kinds.List n → vs ≡ map value_of (take n (items_of (form t))) → listed vs ≡ value_of t
list_made t n vs e so_far =
    let is = list_form (form t) n e in
    let all : vs ≡ map value_of (items_of (form t)) = so_far ∙ ap (λ k. map value_of (take k (items_of (form t)))) is.1 ∙ ap (map value_of) (take-length (items_of (form t))) in
    ap listed (all ∙ sym (items_back (items_of (form t)))) ∙ sym (ap form_value is.0) ∙ sym (value_form t)

pub object_made : (t : Tree) (n : ℕ) (ps : List (Val × Val)) → kind (form t) ≡ kinds.Object n → ps ≡ map member_row (take n (entries_of (form t))) → mapped ps ≡ value_of t
object_made t n ps e so_far =
    let is = object_form (form t) n e in
    let all : ps ≡ map member_row (entries_of (form t)) = so_far ∙ ap (λ k. map member_row (take k (entries_of (form t)))) is.1 ∙ ap (map member_row) (take-length (entries_of (form t))) in
    ap mapped (all ∙ sym (members_back (entries_of (form t)))) ∙ sym (ap form_value is.0) ∙ sym (value_form t)

pub more_items : (f : Form) (i : ℕ) (u : Tree) (vs : List Val) → item_at f i ≡ Some u → vs ≡ map value_of (take i (items_of f)) → vs ++ value_of u ∷ [] ≡ map value_of (take (i + 1) (items_of f))
more_items f i u vs e so_far =
    ap (λ z. z ++ value_of u ∷ []) so_far ∙ sym (map-append value_of (take i (items_of f)) (u ∷ [])) ∙ ap (map value_of) (sym (items_take f i u e))

pub more_members : (f : Form) (i : ℕ) (u : List ℕ × Tree) (ps : List (Val × Val)) → entry_at f i ≡ Some u → ps ≡ map member_row (take i (entries_of f)) → ps ++ member_row u ∷ [] ≡ map member_row (take (i + 1) (entries_of f))
more_members f i u ps e so_far =
    ap (λ z. z ++ member_row u ∷ []) so_far ∙ sym (map-append member_row (take i (entries_of f)) (u ∷ [])) ∙ ap (map member_row) (sym (entries_take f i u e))

pub map_of_map : {A B C : Type 0} (f : B → C) (g : A → B) (xs : List A) → map (λ x. f (g x)) xs ≡ map f (map g xs)
map_of_map f g [] = refl
map_of_map f g (x ∷ xs) = ap (λ ys. f (g x) ∷ ys) (map_of_map f g xs)

-- where some node is selected, its values are a list
pub some_values : {A : Type 0} (f : A → Val) (xs : List A) → (length xs ≡ 0 → ⊥) → listed (map f xs) ≡ all_values (map f xs)
some_values f [] some = absurd (some refl)
some_values f (x ∷ xs) some = refl
