-- The nodes that a path selects stand in the order of the document.
use Rattle.std.proofs.Common.{◌≡◌, ℕ, zero, suc, ◌-◌, ◌<◌, ◌≤◌, Bool, true, false, if◌then◌else◌, List, [], ◌∷◌, ◌++◌, length, Some, refl, ap, arith, option_to_list}
use Rattle.std.specs.Str.{bytes_eq}
use Rattle.json_subset.specs.Tree.{Tree, node, Form, null, bool, number, text, list, object, Trees, no_trees, tree, Members, no_members, member}
use Rattle.json_subset.specs.Documents.{tree_at, first_named}
use Rattle.json_subset.specs.Scan.{is_white, after_white}
use Rattle.json_subset.specs.Grammar as g
use Rattle.json_subset.specs.Grammar.{Digits, last_digit, one_digit, Whole, zero_alone, not_from_zero, Fraction, no_fraction, Exponent, no_exponent, signed_exponent, Numeral, positive, negative, Unit16, four_digits, Text, text_end, text_plain, text_short, text_unit, text_pair, Value, a_value, Shape, the_null, the_true, the_false, some_number, some_text, empty_list, some_list, empty_object, some_object, Items, last_item, one_item, Pairs, last_pair, one_pair, Spells}
use Rattle.jsonpath_core.specs.Order.{begins_at, ends_at, InOrder}
use Rattle.jsonpath_core.specs.Steps.{Step, name, index, star}
use Rattle.jsonpath_core.specs.Selecting.{items, values, selected, selected_of_each, select_from, select}

-- what is left behind a part of the grammar is shorter
white_le : (bs : List ℕ) → length (after_white bs) ≤ length bs
white_le [] = omega arith
white_le (b ∷ bs) = by_test (is_white b) (white_le bs)
  where
    by_test : (t : Bool) → length (after_white bs) ≤ length bs → length (if t then after_white bs else b ∷ bs) ≤ length (b ∷ bs)
    by_test true ih = omega (arith, ih)
    by_test false ih = omega arith

digits_less : (bs rest : List ℕ) → Digits bs rest → length rest < length bs
digits_less bs rest (last_digit b r h k) = omega arith
digits_less bs rest (one_digit b more r h d) = omega (arith, digits_less more rest d)

whole_less : (bs rest : List ℕ) → Whole bs rest → length rest < length bs
whole_less bs rest (zero_alone r) = omega arith
whole_less bs rest (not_from_zero b more r h d) = digits_less (b ∷ more) rest d

fraction_le : (bs rest : List ℕ) → Fraction bs rest → length rest ≤ length bs
fraction_le bs rest (no_fraction r h) = omega arith
fraction_le bs rest (g.fraction more r d) = omega (arith, digits_less more rest d)

exponent_le : (bs rest : List ℕ) → g.Exponent bs rest → length rest ≤ length bs
exponent_le bs rest (no_exponent r h) = omega arith
exponent_le bs rest (g.exponent e more r h d) = omega (arith, digits_less more rest d)
exponent_le bs rest (signed_exponent e s more r h k d) = omega (arith, digits_less more rest d)

number_less : (bs rest : List ℕ) → Numeral bs rest → length rest < length bs
number_less bs rest (positive b w p r a f e) = omega (arith, whole_less bs w a, fraction_le w p f, exponent_le p rest e)
number_less bs rest (negative b w p r a f e) = omega (arith, whole_less b w a, fraction_le w p f, exponent_le p rest e)

unit_less : (bs : List ℕ) (u : ℕ) (rest : List ℕ) → Unit16 bs u rest → length rest < length bs
unit_less bs u rest (four_digits a b c d w x y z r i j k l) = omega arith

text_less : (bs t rest : List ℕ) → Text bs t rest → length rest < length bs
text_less bs t rest (text_end r) = omega arith
text_less bs t rest (text_plain b more s r h x) = omega (arith, text_less more s rest x)
text_less bs t rest (text_short b c more s r h x) = omega (arith, text_less more s rest x)
text_less bs t rest (text_unit u more behind s r h n x) = omega (arith, unit_less more u behind h, text_less behind s rest x)
text_less bs t rest (text_pair u v more next behind s r h i k j x) = omega (arith, unit_less more u (92 ∷ 117 ∷ next) h, unit_less next v behind k, text_less behind s rest x)

-- Nodes between two places: each begins at or behind the end of the one before it, and its own parts lie in it so.
abbrev mutual
  IsOrdered : Tree → Type 0
  IsOrdered (node first past f) = (first < past) × IsOrderedForm first past f

  IsOrderedForm : ℕ → ℕ → Form → Type 0
  IsOrderedForm low high null = low ≤ high
  IsOrderedForm low high (bool b) = low ≤ high
  IsOrderedForm low high (number k s) = low ≤ high
  IsOrderedForm low high (text t) = low ≤ high
  IsOrderedForm low high (list ts) = AreOrdered low high ts
  IsOrderedForm low high (object ms) = AreOrderedMembers low high ms

  AreOrdered : ℕ → ℕ → Trees → Type 0
  AreOrdered low high no_trees = low ≤ high
  AreOrdered low high (tree t ts) = (low ≤ begins_at t) × IsOrdered t × AreOrdered (ends_at t) high ts

  AreOrderedMembers : ℕ → ℕ → Members → Type 0
  AreOrderedMembers low high no_members = low ≤ high
  AreOrderedMembers low high (member x t ms) = (low ≤ begins_at t) × IsOrdered t × AreOrderedMembers (ends_at t) high ms

lower_items : (low lower high : ℕ) (ts : Trees) → lower ≤ low → AreOrdered low high ts → AreOrdered lower high ts
lower_items low lower high no_trees le h = omega (arith, le, h)
lower_items low lower high (tree t ts) le h = (omega (arith, le, h.0), h.1, h.2)

lower_members : (low lower high : ℕ) (ms : Members) → lower ≤ low → AreOrderedMembers low high ms → AreOrderedMembers lower high ms
lower_members low lower high no_members le h = omega (arith, le, h)
lower_members low lower high (member x t ms) le h = (omega (arith, le, h.0), h.1, h.2)

record Placed (n : ℕ) (bs : List ℕ) (t : Tree) (rest : List ℕ) : Type 0 where
  less : length rest < length bs
  ordered : IsOrdered t
  first : begins_at t ≡ n - length bs
  past : ends_at t ≡ n - length rest

mutual
  value_placed : (n : ℕ) (bs : List ℕ) (t : Tree) (rest : List ℕ) → length bs ≤ n → Value n bs t rest → Placed n bs t rest
  value_placed n bs t rest le (a_value b r f h) =
      let s = shape_placed n b f r le h in
      record { less = s.0; ordered = (omega (arith, s.0, le), s.1); first = refl; past = refl }

  shape_placed : (n : ℕ) (bs : List ℕ) (f : Form) (rest : List ℕ) → length bs ≤ n → Shape n bs f rest → (length rest < length bs) × IsOrderedForm (n - length bs) (n - length rest) f
  shape_placed n bs f rest le (the_null r) = (omega arith, omega arith)
  shape_placed n bs f rest le (the_true r) = (omega arith, omega arith)
  shape_placed n bs f rest le (the_false r) = (omega arith, omega arith)
  shape_placed n bs f rest le (some_number b r h) = let less = number_less bs rest h in (less, omega (arith, less))
  shape_placed n bs f rest le (some_text b t r h) = let less = text_less b t rest h in (omega (arith, less), omega (arith, less))
  shape_placed n bs f rest le (empty_list b r e) = let less = white_le b in let long = ap length e in (omega (arith, less, long), omega (arith, less, long))
  shape_placed n bs f rest le (empty_object b r e) = let less = white_le b in let long = ap length e in (omega (arith, less, long), omega (arith, less, long))
  shape_placed n bs f rest le (some_list b r ts h) =
      let less = white_le b in
      let inner = items_placed n (after_white b) ts rest (omega (arith, le, less)) h in
      (omega (arith, less, inner.0), lower_items (n - length (after_white b)) (n - length bs) (n - length rest) ts (omega (arith, less)) inner.1)
  shape_placed n bs f rest le (some_object b r ms h) =
      let less = white_le b in
      let inner = pairs_placed n (after_white b) ms rest (omega (arith, le, less)) h in
      (omega (arith, less, inner.0), lower_members (n - length (after_white b)) (n - length bs) (n - length rest) ms (omega (arith, less)) inner.1)

  items_placed : (n : ℕ) (bs : List ℕ) (ts : Trees) (rest : List ℕ) → length bs ≤ n → Items n bs ts rest → (length rest < length bs) × AreOrdered (n - length bs) (n - length rest) ts
  items_placed n bs ts rest le (last_item b behind r t h e) =
      let v = value_placed n bs t behind le h in
      let less = white_le behind in
      let long = ap length e in
      (omega (arith, v.less, less, long), (omega (arith, v.first), v.ordered, omega (arith, v.past, less, long)))
  items_placed n bs ts rest le (one_item b behind more r t us h e k) =
      let v = value_placed n bs t behind le h in
      let less = white_le behind in
      let long = ap length e in
      let next = white_le more in
      let inner = items_placed n (after_white more) us rest (omega (arith, le, v.less, less, long, next)) k in
      (omega (arith, v.less, less, long, next, inner.0), (omega (arith, v.first), v.ordered, lower_items (n - length (after_white more)) (ends_at t) (n - length rest) us (omega (arith, v.past, less, long, next)) inner.1))

  pairs_placed : (n : ℕ) (bs : List ℕ) (ms : Members) (rest : List ℕ) → length bs ≤ n → Pairs n bs ms rest → (length rest < length bs) × AreOrderedMembers (n - length bs) (n - length rest) ms
  pairs_placed n bs ms rest le (last_pair b x colon start behind r t q c h e) =
      let quote = text_less b x colon q in
      let white = white_le colon in
      let colon_long = ap length c in
      let start_white = white_le start in
      let v = value_placed n (after_white start) t behind (omega (arith, le, quote, white, colon_long, start_white)) h in
      let less = white_le behind in
      let long = ap length e in
      (omega (arith, quote, white, colon_long, start_white, v.less, less, long), (omega (arith, quote, white, colon_long, start_white, v.first), v.ordered, omega (arith, v.past, less, long)))
  pairs_placed n bs ms rest le (one_pair b x colon start behind more r t us q c h e k) =
      let quote = text_less b x colon q in
      let white = white_le colon in
      let colon_long = ap length c in
      let start_white = white_le start in
      let v = value_placed n (after_white start) t behind (omega (arith, le, quote, white, colon_long, start_white)) h in
      let less = white_le behind in
      let long = ap length e in
      let next = white_le more in
      let inner = pairs_placed n (after_white more) us rest (omega (arith, le, quote, white, colon_long, start_white, v.less, less, long, next)) k in
      (omega (arith, quote, white, colon_long, start_white, v.less, less, long, next, inner.0), (omega (arith, quote, white, colon_long, start_white, v.first), v.ordered, lower_members (n - length (after_white more)) (ends_at t) (n - length rest) us (omega (arith, v.past, less, long, next)) inner.1))

-- the same of a list of nodes
abbrev Between : ℕ → ℕ → List Tree → Type 0
Between low high [] = low ≤ high
Between low high (t ∷ ts) = (low ≤ begins_at t) × IsOrdered t × Between (ends_at t) high ts

items_between : (low high : ℕ) (ts : Trees) → AreOrdered low high ts → Between low high (items ts)
items_between low high no_trees h = h
items_between low high (tree t ts) h = (h.0, h.1, items_between (ends_at t) high ts h.2)

values_between : (low high : ℕ) (ms : Members) → AreOrderedMembers low high ms → Between low high (values ms)
values_between low high no_members h = h
values_between low high (member x t ms) h = (h.0, h.1, values_between (ends_at t) high ms h.2)

grows : (t : Tree) → IsOrdered t → begins_at t < ends_at t
grows (node first past f) h = h.0

spans : (low high : ℕ) (ts : List Tree) → Between low high ts → low ≤ high
spans low high [] h = h
spans low high (t ∷ ts) h = omega (arith, h.0, grows t h.1, spans (ends_at t) high ts h.2)

wider : (low lower high higher : ℕ) (ts : List Tree) → lower ≤ low → high ≤ higher → Between low high ts → Between lower higher ts
wider low lower high higher [] le lf h = omega (arith, le, lf, h)
wider low lower high higher (t ∷ ts) le lf h = (omega (arith, le, h.0), h.1, wider (ends_at t) (ends_at t) high higher ts (omega arith) lf h.2)

one_behind : (low middle high : ℕ) (ts us : List Tree) → Between low middle ts → Between middle high us → Between low high (ts ++ us)
one_behind low middle high [] us h k = wider middle low high high us h (omega arith) k
one_behind low middle high (t ∷ ts) us h k = (h.0, h.1, one_behind (ends_at t) middle high ts us h.2 k)

-- one of some nodes
maybe_tree : (low high : ℕ) (ts : Trees) (i : ℕ) → AreOrdered low high ts → Between low high (option_to_list (tree_at ts i))
maybe_tree low high no_trees i h = h
maybe_tree low high (tree t ts) zero h = (h.0, h.1, spans (ends_at t) high (items ts) (items_between (ends_at t) high ts h.2))
maybe_tree low high (tree t ts) (suc i) h = wider (ends_at t) low high high (option_to_list (tree_at ts i)) (omega (arith, h.0, grows t h.1)) (omega arith) (maybe_tree (ends_at t) high ts i h.2)

maybe_member : (low high : ℕ) (ms : Members) (q : List ℕ) → AreOrderedMembers low high ms → Between low high (option_to_list (first_named ms q))
maybe_member low high no_members q h = h
maybe_member low high (member x t ms) q h = by_test (bytes_eq x q) (maybe_member (ends_at t) high ms q h.2)
  where
    by_test : (b : Bool) → Between (ends_at t) high (option_to_list (first_named ms q)) → Between low high (option_to_list (if b then Some t else first_named ms q))
    by_test true ih = (h.0, h.1, spans (ends_at t) high (values ms) (values_between (ends_at t) high ms h.2))
    by_test false ih = wider (ends_at t) low high high (option_to_list (first_named ms q)) (omega (arith, h.0, grows t h.1)) (omega arith) ih

-- what a step selects of a node lies in it
by_form : (s : Step) (low high : ℕ) (f : Form) → low ≤ high → IsOrderedForm low high f → Between low high (selected s (node low high f))
by_form (name q) low high null le h = le
by_form (name q) low high (bool b) le h = le
by_form (name q) low high (number k s) le h = le
by_form (name q) low high (text t) le h = le
by_form (name q) low high (list ts) le h = le
by_form (name q) low high (object ms) le h = maybe_member low high ms q h
by_form (index i) low high null le h = le
by_form (index i) low high (bool b) le h = le
by_form (index i) low high (number k s) le h = le
by_form (index i) low high (text t) le h = le
by_form (index i) low high (list ts) le h = maybe_tree low high ts i h
by_form (index i) low high (object ms) le h = le
by_form star low high null le h = le
by_form star low high (bool b) le h = le
by_form star low high (number k s) le h = le
by_form star low high (text t) le h = le
by_form star low high (list ts) le h = items_between low high ts h
by_form star low high (object ms) le h = values_between low high ms h

inside : (s : Step) (t : Tree) → IsOrdered t → Between (begins_at t) (ends_at t) (selected s t)
inside s (node first past f) h = by_form s first past f (omega (arith, h.0)) h.1

each_inside : (s : Step) (low high : ℕ) (ts : List Tree) → Between low high ts → Between low high (selected_of_each s ts)
each_inside s low high [] h = h
each_inside s low high (t ∷ ts) h = wider (begins_at t) low high high (selected s t ++ selected_of_each s ts) h.0 (omega arith) (one_behind (begins_at t) (ends_at t) high (selected s t) (selected_of_each s ts) (inside s t h.1) (each_inside s (ends_at t) high ts h.2))

all_inside : (steps : List Step) (low high : ℕ) (ts : List Tree) → Between low high ts → Between low high (select_from steps ts)
all_inside [] low high ts h = h
all_inside (s ∷ steps) low high ts h = all_inside steps low high (selected_of_each s ts) (each_inside s low high ts h)

in_order : (low high : ℕ) (ts : List Tree) → Between low high ts → InOrder low ts
in_order low high [] h = tt
in_order low high (t ∷ ts) h = (h.0, grows t h.1, in_order (ends_at t) high ts h.2)

-- the nodes that a path selects of a document come in its order
pub selected_in_order : (bs : List ℕ) (t : Tree) (steps : List Step) → Spells bs t → InOrder 0 (select steps t)
selected_in_order bs t steps h =
    let v = value_placed (length bs) (after_white bs) t h.text.behind (white_le bs) h.text.value in
    in_order 0 (ends_at t) (select steps t) (all_inside steps 0 (ends_at t) (t ∷ []) (omega arith, v.ordered, omega arith))
