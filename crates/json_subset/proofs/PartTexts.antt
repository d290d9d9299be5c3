-- The bytes of a part of a document spell that part but for places.
use Rattle.std.proofs.Common.{◌≡◌, ℕ, zero, suc, ◌-◌, ◌≤◌, List, [], ◌∷◌, ◌++◌, length, take, Some, true, refl, sym, ap, ◌∙◌, subst, arith, length-append, Bool, false}
use Rattle.std.specs.Prelude.{if◌then◌else◌}
use Rattle.std.specs.Str.{IsUtf8, bytes_eq}
use Rattle.std.proofs.Math.Seq.{take-append_seam}
use Rattle.json_subset.specs.Tree.{Tree, node, Form, null, bool, number, text, list, object, Trees, no_trees, tree, Members, no_members, member}
use Rattle.json_subset.specs.Bare.{IsSameBare}
use Rattle.json_subset.specs.Scan.{after_white}
use Rattle.json_subset.specs.Compact.{compacted}
use Rattle.json_subset.specs.Documents.{form, span, tree_at, pair_at, first_named, item_at, entry_at, member_named, IsWithin, itself, item_within, entry_within, member_within}
use Rattle.json_subset.specs.Grammar.{Value, a_value, Shape, the_null, the_true, the_false, some_number, some_text, empty_list, some_list, empty_object, some_object, Items, last_item, one_item, Pairs, last_pair, one_pair, depth, form_depth, trees_depth, members_depth, IsDistinct, IsDistinctForm, AreDistinct, AreDistinctMembers, Spells}
use Rattle.json_subset.specs.Places.{IsRest}
use Rattle.json_subset.proofs.Bares.{same_depth, same_distinct}
use Rattle.json_subset.proofs.Compacted.{alone, compact_spells}
use Rattle.json_subset.proofs.Leads.{none, one, ◌then◌}
use Rattle.json_subset.proofs.Moved.{white}
use Rattle.json_subset.proofs.MovedTrees.{value_moved}
use Rattle.json_subset.proofs.Places.{span_source}
use Rattle.json_subset.proofs.Ways.{Way, way_then, way_byte, way_white, byte_utf8, value_way, comma_way, quote_way, way_utf8}
use Rattle.json_subset.proofs.Rests.{ahead_utf8, white_ahead}

-- where a part of the text stands, and that it is spelled there
pub record Found (n : ℕ) (bs : List ℕ) (t : Tree) : Type 0 where
  pub from : List ℕ
  pub rest : List ℕ
  pub way : Way bs from
  pub value : Value n from t rest

further : {n : ℕ} {bs cs : List ℕ} {t : Tree} → Way bs cs → Found n cs t → Found n bs t
further p f = record { from = f.from; rest = f.rest; way = way_then p f.way; value = f.value }

colon_way : {bs cs : List ℕ} → after_white bs ≡ 58 ∷ cs → Way bs (after_white cs)
colon_way {bs = bs} {cs = cs} e = record {
  lead = (white true bs).lead then one 58 then (white true cs).lead;
  joined = (white true bs).cut ∙ ap (white true bs).lead.put (e ∙ ap (λ z. 58 ∷ z) (white true cs).cut);
  utf8 = λ u. ahead_utf8 (white_ahead cs) (byte_utf8 58 bs cs (omega arith) e u);
}

start_here : {n : ℕ} {bs rest : List ℕ} {t u : Tree} → Value n bs t rest → t ≡ u → Found n bs u
start_here {n = n} {bs = bs} {rest = rest} v e = record { from = bs; rest = rest; way = record { lead = none; joined = refl; utf8 = λ u. u }; value = subst (λ z. Value n bs z rest) e v }

item_found : {n : ℕ} (u : Tree) (i : ℕ) {bs : List ℕ} {ts : Trees} {rest : List ℕ} → Items n bs ts rest → tree_at ts i ≡ Some u → Found n bs u
item_found u zero (last_item bs later rest t v e) h = start_here v (let k : t ≡ u = cc in k)
item_found u (suc i) (last_item bs later rest t v e) h = cc
item_found u zero (one_item bs later cs rest t ts v e o) h = start_here v (let k : t ≡ u = cc in k)
item_found u (suc i) (one_item bs later cs rest t ts v e o) h = further (way_then (value_way v) (comma_way e refl)) (item_found u i o h)

second : (p q : List ℕ × Tree) → Some p ≡ Some q → p.1 ≡ q.1
second p q h = let k : p ≡ q = cc in ap (λ z. z.1) k

pair_found : {n : ℕ} (x : List ℕ) (u : Tree) (i : ℕ) {bs : List ℕ} {ms : Members} {rest : List ℕ} → Pairs n bs ms rest → pair_at ms i ≡ Some (x, u) → Found n bs u
pair_found x u zero (last_pair bs y mark start later rest t d e v j) h = further (way_then (quote_way d) (colon_way e)) (start_here v (second (y, t) (x, u) h))
pair_found x u (suc i) (last_pair bs y mark start later rest t d e v j) h = cc
pair_found x u zero (one_pair bs y mark start later cs rest t ms d e v j o) h = further (way_then (quote_way d) (colon_way e)) (start_here v (second (y, t) (x, u) h))
pair_found x u (suc i) (one_pair bs y mark start later cs rest t ms d e v j o) h = further (way_then (quote_way d) (way_then (colon_way e) (way_then (value_way v) (comma_way j refl)))) (pair_found x u i o h)

item_of : {n : ℕ} {bs : List ℕ} {f : Form} {rest : List ℕ} (u : Tree) (i : ℕ) → Shape n bs f rest → item_at f i ≡ Some u → Found n bs u
item_of u i (the_null rest) h = cc
item_of u i (the_true rest) h = cc
item_of u i (the_false rest) h = cc
item_of u i (some_number bs rest d) h = cc
item_of u i (some_text bs t rest d) h = cc
item_of u i (empty_list bs rest e) h = cc
item_of u i (some_list bs rest ts d) h = further (way_then (way_byte 91 bs (omega arith)) (way_white bs)) (item_found u i d h)
item_of u i (empty_object bs rest e) h = cc
item_of u i (some_object bs rest ms d) h = cc

member_of : {n : ℕ} {bs : List ℕ} {f : Form} {rest : List ℕ} (x : List ℕ) (u : Tree) (i : ℕ) → Shape n bs f rest → entry_at f i ≡ Some (x, u) → Found n bs u
member_of x u i (the_null rest) h = cc
member_of x u i (the_true rest) h = cc
member_of x u i (the_false rest) h = cc
member_of x u i (some_number bs rest d) h = cc
member_of x u i (some_text bs t rest d) h = cc
member_of x u i (empty_list bs rest e) h = cc
member_of x u i (some_list bs rest ts d) h = cc
member_of x u i (empty_object bs rest e) h = cc
member_of x u i (some_object bs rest ms d) h = further (way_then (way_byte 123 bs (omega arith)) (way_white bs)) (pair_found x u i d h)

item_in : {n : ℕ} {bs rest : List ℕ} {v : Tree} (t : Tree) (i : ℕ) → Value n bs v rest → item_at (form v) i ≡ Some t → Found n bs t
item_in t i (a_value bs rest f s) e = item_of t i s e

member_in : {n : ℕ} {bs rest : List ℕ} {v : Tree} (x : List ℕ) (t : Tree) (i : ℕ) → Value n bs v rest → entry_at (form v) i ≡ Some (x, t) → Found n bs t
member_in x t i (a_value bs rest f s) e = member_of x t i s e

-- the first member of a name is a member
named_at : (u : Tree) (ms : Members) (q : List ℕ) → first_named ms q ≡ Some u → (i : ℕ) × (x : List ℕ) × (pair_at ms i ≡ Some (x, u))
named_at u no_members q h = cc
named_at u (member x t ms) q h = go (bytes_eq x q) h (λ k. named_at u ms q k)
  where
    go : (v : Bool) → (if v then Some t else first_named ms q) ≡ Some u → (first_named ms q ≡ Some u → (i : ℕ) × (y : List ℕ) × (pair_at ms i ≡ Some (y, u))) → (i : ℕ) × (y : List ℕ) × (pair_at (member x t ms) i ≡ Some (y, u))
    go true k more = let e : t ≡ u = cc in (0, x, ap (λ z. Some (x, z)) e)
    go false k more = let p = more k in (suc p.0, p.1, p.2)

entry_of_name : (u : Tree) (f : Form) (q : List ℕ) → member_named f q ≡ Some u → (i : ℕ) × (x : List ℕ) × (entry_at f i ≡ Some (x, u))
entry_of_name u null q h = cc
entry_of_name u (bool b) q h = cc
entry_of_name u (number k s) q h = cc
entry_of_name u (text t) q h = cc
entry_of_name u (list ts) q h = cc
entry_of_name u (object ms) q h = named_at u ms q h

found : {n : ℕ} {bs rest : List ℕ} {t u : Tree} → Value n bs t rest → IsWithin u t → Found n bs u
found d (itself v) = start_here d refl
found d (item_within u t v i w e) = let p = found d w in further p.way (item_in u i p.value e)
found d (entry_within u t v i x w e) = let p = found d w in further p.way (member_in x u i p.value e)
found d (member_within u t v q w e) = let p = found d w in let k = entry_of_name u (form t) q e in further p.way (member_in k.1 u k.0 p.value k.2)

-- a part keeps within the limits
at_item : (u : Tree) (ts : Trees) (i : ℕ) → tree_at ts i ≡ Some u → (depth u ≤ trees_depth ts) × (AreDistinct ts → IsDistinct u)
at_item u no_trees i h = cc
at_item u (tree t ts) zero h = let e : t ≡ u = cc in subst (λ z. (depth z ≤ trees_depth (tree t ts)) × (AreDistinct (tree t ts) → IsDistinct z)) e (omega arith, λ d. d.0)
at_item u (tree t ts) (suc i) h = let k = at_item u ts i h in let a = k.0 in (omega (arith, a), λ d. k.1 d.1)

at_member : (x : List ℕ) (u : Tree) (ms : Members) (i : ℕ) → pair_at ms i ≡ Some (x, u) → (depth u ≤ members_depth ms) × (AreDistinctMembers ms → IsDistinct u)
at_member x u no_members i h = cc
at_member x u (member y t ms) zero h = let e : t ≡ u = second (y, t) (x, u) h in subst (λ z. (depth z ≤ members_depth (member y t ms)) × (AreDistinctMembers (member y t ms) → IsDistinct z)) e (omega arith, λ d. d.0)
at_member x u (member y t ms) (suc i) h = let k = at_member x u ms i h in let a = k.0 in (omega (arith, a), λ d. k.1 d.1)

form_item : (u : Tree) (f : Form) (i : ℕ) → item_at f i ≡ Some u → (depth u ≤ form_depth f) × (IsDistinctForm f → IsDistinct u)
form_item u null i h = cc
form_item u (bool b) i h = cc
form_item u (number k s) i h = cc
form_item u (text t) i h = cc
form_item u (list ts) i h = let k = at_item u ts i h in let a = k.0 in (omega (arith, a), k.1)
form_item u (object ms) i h = cc

form_member : (x : List ℕ) (u : Tree) (f : Form) (i : ℕ) → entry_at f i ≡ Some (x, u) → (depth u ≤ form_depth f) × (IsDistinctForm f → IsDistinct u)
form_member x u null i h = cc
form_member x u (bool b) i h = cc
form_member x u (number k s) i h = cc
form_member x u (text t) i h = cc
form_member x u (list ts) i h = cc
form_member x u (object ms) i h = let k = at_member x u ms i h in let a = k.0 in (omega (arith, a), λ d. k.1 d.1)

item_limits : (u t : Tree) (i : ℕ) → item_at (form t) i ≡ Some u → (depth u ≤ depth t) × (IsDistinct t → IsDistinct u)
item_limits u (node first past f) i e = form_item u f i e

member_limits : (x : List ℕ) (u t : Tree) (i : ℕ) → entry_at (form t) i ≡ Some (x, u) → (depth u ≤ depth t) × (IsDistinct t → IsDistinct u)
member_limits x u (node first past f) i e = form_member x u f i e

lower : (t u v : Tree) → (depth u ≤ depth t) × (IsDistinct t → IsDistinct u) → (depth t ≤ depth v) × (IsDistinct v → IsDistinct t) → (depth u ≤ depth v) × (IsDistinct v → IsDistinct u)
lower t u v h k = let a = h.0 in let b = k.0 in (omega (arith, a, b), λ d. h.1 (k.1 d))

within_limits : {u v : Tree} → IsWithin u v → (depth u ≤ depth v) × (IsDistinct v → IsDistinct u)
within_limits (itself v) = (omega arith, λ d. d)
within_limits (item_within u t v i w e) = lower t u v (item_limits u t i e) (within_limits w)
within_limits (entry_within u t v i x w e) = lower t u v (member_limits x u t i e) (within_limits w)
within_limits (member_within u t v q w e) = let k = entry_of_name u (form t) q e in lower t u v (member_limits k.1 u t k.0 k.2) (within_limits w)

-- the bytes of a value that stands in a text
way_rest : {a b : List ℕ} → IsUtf8 a → Way a b → IsRest a b
way_rest {b = b} u p = record { front = p.lead.put []; joined = p.joined ∙ p.lead.joins b; utf8 = p.utf8 u }

value_span : {bs from rest : List ℕ} {t : Tree} → IsUtf8 bs → Way bs from → (v : Value (length bs) from t rest) → span bs t ≡ (value_way v).lead.put []
value_span {bs = bs} u p (a_value from rest f s) =
    let q = value_way (a_value {n = length bs} from rest f s) in
    let front : List ℕ = q.lead.put [] in
    let joined : from ≡ front ++ rest = q.joined ∙ q.lead.joins rest in
    let l : length from - length rest ≡ length front = (let i = ap length joined in let j = length-append front rest in omega (arith, i, j)) in
    span_source bs from rest u (way_rest u p) (way_rest (p.utf8 u) q) ∙ ap (λ k. take k from) l ∙ ap (take (length front)) joined ∙ take-append_seam front rest

pub part_text : (bs : List ℕ) (t u : Tree) → Spells bs t → IsWithin u t → (w : Tree) × Spells (span bs u) w × IsSameBare u w
part_text bs t u s w =
    let f = further (way_white bs) (found s.text.value w) in
    let e = value_span s.utf8 f.way f.value in
    let q = alone u (span bs u) (value_moved true f.value) e in
    let h = within_limits w in
    let b = h.0 in
    let c = s.shallow in (
      q.0,
      record {
        utf8 = subst IsUtf8 (sym e) (way_utf8 (value_way f.value) (f.way.utf8 s.utf8));
        text = q.1;
        shallow = (let d = same_depth u q.0 (sym q.2) in omega (arith, b, c, d));
        distinct = same_distinct u q.0 (sym q.2) (h.1 s.distinct);
      },
      q.2,
    )

-- what the compact text of a part spells
pub part_compact : (bs cs : List ℕ) (t u : Tree) → Spells bs t → cs ≡ compacted (span bs u) → IsWithin u t → (w : Tree) × Spells cs w × IsSameBare u w
part_compact bs cs t u s e h =
    let p = part_text bs t u s h in
    let q = compact_spells (span bs u) p.0 p.1 in
    (q.0, subst (λ z. Spells z q.0) (sym e) q.1, p.2 ∙ q.2)
