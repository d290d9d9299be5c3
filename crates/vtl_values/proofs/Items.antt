-- Items of lists and entries of maps, in the program and in its trees.
use Rattle.std.proofs.Common.{◌≡◌, ℕ, zero, suc, ◌+◌, ◌<◌, ◌≤◌, min, ℤ, ◌+ℤ◌, List, [], ◌∷◌, length, map, take, get_or, Option, Some, None, option_map, refl, sym, ap, ◌∙◌, arith}
use Rattle.std.specs.Prelude.{slice_get}
use Rattle.std.specs.Rc.{rc_str_bytes}
use Rattle.std.specs.declared.rc.Rc.{Rc}
use Rattle.std.specs.declared.rc.RcStr.{RcStr}
use Rattle.std.specs.declared.alloc.Global.{Global}
use Rattle.std.proofs.lemmas.List.{length-take, length-map}
use Rattle.std.proofs.lemmas.Option.{slice_get-map, slice_get_past, slice_get_read}
use Rattle.vtl_values.specs.Val as tree
use Rattle.vtl_values.specs.Val.{Val, vals_of, vals_list, null, boolean, whole, number, text, list, range}
use Rattle.vtl_values.specs.Vals.{rows_of, val_of}
use Rattle.vtl_values.specs.declared.value.Items.{Items}
use Rattle.vtl_values.specs.declared.value.Entries.{Entries}
use Rattle.vtl_values.specs.declared.value.Shape.{Shape}
use Rattle.vtl_values.specs.declared.value.Shape.TheVariants as shape
use Rattle.vtl_values.specs.Ranges.{counted, toward, distance, numbered, span}
use Rattle.vtl_values.specs.Parts.{entry_keys, entry_values, all_items, most_turns, loop_items, or_null}
use Rattle.vtl_values.proofs.Numbers.{numbered_next, numbered_first}

pub listed_vals : (vs : List Val) → vals_list (vals_of vs) ≡ vs
listed_vals [] = refl
listed_vals (v ∷ vs) = ap (λ z. v ∷ z) (listed_vals vs)

pub list_count : (vs : List Val) → length (vals_list (vals_of vs)) ≡ length vs
list_count vs = ap length (listed_vals vs)

pub list_get : (vs : List Val) (n : ℕ) → slice_get (vals_list (vals_of vs)) n ≡ slice_get vs n
list_get vs n = ap (λ z. slice_get z n) (listed_vals vs)

pub row_keys : (es : List (RcStr Global × Val)) → entry_keys (rows_of es) ≡ map (λ e. rc_str_bytes e.0) es
row_keys [] = refl
row_keys (e ∷ es) = ap (λ z. rc_str_bytes e.0 ∷ z) (row_keys es)

pub row_values : (es : List (RcStr Global × Val)) → entry_values (rows_of es) ≡ map (λ e. e.1) es
row_values [] = refl
row_values (e ∷ es) = ap (λ z. e.1 ∷ z) (row_values es)

pub key_count : (es : List (RcStr Global × Val)) → length (entry_keys (rows_of es)) ≡ length es
key_count es = ap length (row_keys es) ∙ length-map es (λ e. rc_str_bytes e.0)

pub value_count : (es : List (RcStr Global × Val)) → length (entry_values (rows_of es)) ≡ length es
value_count es = ap length (row_values es) ∙ length-map es (λ e. e.1)

pub key_get : (es : List (RcStr Global × Val)) (n : ℕ) → slice_get (entry_keys (rows_of es)) n ≡ option_map (λ e. rc_str_bytes e.0) (slice_get es n)
key_get es n = ap (λ z. slice_get z n) (row_keys es) ∙ slice_get-map (λ e. rc_str_bytes e.0) es n

pub value_get : (es : List (RcStr Global × Val)) (n : ℕ) → slice_get (entry_values (rows_of es)) n ≡ option_map (λ e. e.1) (slice_get es n)
value_get es n = ap (λ z. slice_get z n) (row_values es) ∙ slice_get-map (λ e. e.1) es n

pub counted_length : (by a : ℤ) (n : ℕ) → length (counted by a n) ≡ n
counted_length by a zero = refl
counted_length by a (suc n) = ap suc (counted_length by (a +ℤ by) n)

pub counted_get : (g : ℕ → ℤ) (by : ℤ) (next : (k : ℕ) → g (k + 1) ≡ g k +ℤ by) (j n k : ℕ) → k < n → slice_get (counted by (g j) n) k ≡ Some (g (j + k))
counted_get g by next j zero k h = absurd (omega (arith, h))
counted_get g by next j (suc n) zero h = ap (λ z. Some (g z)) (let q : j ≡ j + 0 = omega arith in q)
counted_get g by next j (suc n) (suc k) h =
    ap (λ z. slice_get (counted by z n) k) (sym (next j))
    ∙ counted_get g by next (j + 1) n k (omega (arith, h))
    ∙ ap (λ z. Some (g z)) (let q : j + 1 + k ≡ j + suc k = omega arith in q)

pub span_length : (first last : ℤ) → length (map whole (span first last)) ≡ suc (distance first last)
unfolding span
span_length first last = length-map (span first last) whole ∙ counted_length (toward first last) first (suc (distance first last))

-- the number at a place of a range
pub span_get : (first last : ℤ) (n : ℕ) → n ≤ distance first last → slice_get (map whole (span first last)) n ≡ Some (whole (numbered first last n))
unfolding span
span_get first last n h =
    let at = counted_get (numbered first last) (toward first last) (numbered_next first last) 0 (suc (distance first last)) n (omega (arith, h)) in
    let start : slice_get (counted (toward first last) first (suc (distance first last))) n ≡ slice_get (counted (toward first last) (numbered first last 0) (suc (distance first last))) n
    = ap (λ z. slice_get (counted (toward first last) z (suc (distance first last))) n) (sym (numbered_first first last)) in
    let place : 0 + n ≡ n = omega arith in
    slice_get-map whole (span first last) n ∙ ap (option_map whole) (start ∙ at ∙ ap (λ z. Some (numbered first last z)) place)

pub span_past : (first last : ℤ) (n : ℕ) → distance first last < n → slice_get (map whole (span first last)) n ≡ None
span_past first last n h = slice_get_past (map whole (span first last)) n (omega (arith, h, span_length first last))

pub front_get : {X : Type 0} (m : ℕ) (xs : List X) (n : ℕ) → n < length (take m xs) → slice_get (take m xs) n ≡ slice_get xs n
front_get zero xs n h = absurd (omega (arith, h))
front_get (suc m) [] n h = absurd (omega (arith, h))
front_get (suc m) (x ∷ xs) zero h = refl
front_get (suc m) (x ∷ xs) (suc n) h = front_get m xs n (omega (arith, h))

-- how many turns a loop has
pub turns : (v : Val) (n : ℕ) → length (all_items v) ≡ n → length (loop_items v) ≡ min 1000 n
unfolding loop_items most_turns
turns v n e = length-take 1000 (all_items v) ∙ ap (min 1000) e

pub turn_within : (v : Val) (n : ℕ) → n < length (loop_items v) → n < length (all_items v)
unfolding loop_items
turn_within v n h = omega (arith, h, length-take most_turns (all_items v))

pub turn_get : (v : Val) (n : ℕ) (o : Option Val) → n < length (loop_items v) → slice_get (all_items v) n ≡ o → slice_get (loop_items v) n ≡ o
unfolding loop_items
turn_get v n o h e = front_get most_turns (all_items v) n h ∙ e

-- what is read from a slice
pub list_read : (vs : List Val) (n : ℕ) (v : Val) → n < length vs → v ≡ get_or vs n v → slice_get (vals_list (vals_of vs)) n ≡ Some v
list_read vs n v h e = list_get vs n ∙ slice_get_read vs (length vs) n v refl h e

pub key_read : (es : List (RcStr Global × Val)) (n : ℕ) (e : RcStr Global × Val) → n < length es → e ≡ get_or es n e → slice_get (entry_keys (rows_of es)) n ≡ Some (rc_str_bytes e.0)
key_read es n e h q = key_get es n ∙ ap (option_map (λ z. rc_str_bytes z.0)) (slice_get_read es (length es) n e refl h q)

pub key_past : (es : List (RcStr Global × Val)) (n : ℕ) → length es ≤ n → slice_get (entry_keys (rows_of es)) n ≡ None
key_past es n h = key_get es n ∙ ap (option_map (λ z. rc_str_bytes z.0)) (slice_get_past es n h)

pub value_read : (es : List (RcStr Global × Val)) (n : ℕ) (e : RcStr Global × Val) → n < length es → e ≡ get_or es n e → slice_get (entry_values (rows_of es)) n ≡ Some e.1
value_read es n e h q = value_get es n ∙ ap (option_map (λ z. z.1)) (slice_get_read es (length es) n e refl h q)

pub value_past : (es : List (RcStr Global × Val)) (n : ℕ) → length es ≤ n → slice_get (entry_values (rows_of es)) n ≡ None
value_past es n h = value_get es n ∙ ap (option_map (λ z. z.1)) (slice_get_past es n h)

pub list_turn_within : (vs : List Val) (n : ℕ) → n < length (loop_items (list (vals_of vs))) → n < length vs
list_turn_within vs n h = omega (arith, turn_within (list (vals_of vs)) n h, list_count vs)

pub list_turn_get : (vs : List Val) (n : ℕ) (v : Val) → n < length (loop_items (list (vals_of vs))) → slice_get vs n ≡ Some v → slice_get (loop_items (list (vals_of vs))) n ≡ Some v
list_turn_get vs n v h e = turn_get (list (vals_of vs)) n (Some v) h (list_get vs n ∙ e)

pub map_turn_within : (es : List (RcStr Global × Val)) (n : ℕ) → n < length (loop_items (tree.map (rows_of es))) → n < length es
map_turn_within es n h = omega (arith, turn_within (tree.map (rows_of es)) n h, value_count es)

pub map_turn_get : (es : List (RcStr Global × Val)) (n : ℕ) (v : Val) → n < length (loop_items (tree.map (rows_of es))) → slice_get (entry_values (rows_of es)) n ≡ Some v → slice_get (loop_items (tree.map (rows_of es))) n ≡ Some v
map_turn_get es n v h e = turn_get (tree.map (rows_of es)) n (Some v) h e

pub range_turn_within : (first last : ℤ) (n : ℕ) → n < length (loop_items (range first last)) → n ≤ distance first last
range_turn_within first last n h = omega (arith, turn_within (range first last) n h, span_length first last)

pub range_turn_get : (first last : ℤ) (n : ℕ) → n < length (loop_items (range first last)) → slice_get (loop_items (range first last)) n ≡ Some (whole (numbered first last n))
range_turn_get first last n h = turn_get (range first last) n (Some (whole (numbered first last n))) h (span_get first last n (range_turn_within first last n h))

pub span_item : (first last : ℤ) (n : ℕ) → n ≤ distance first last → or_null (slice_get (map whole (span first last)) n) ≡ whole (numbered first last n)
span_item first last n h = ap or_null (span_get first last n h)

-- a loop over anything but a list, a range or a map has no turn
pub no_turn : (s : Shape) (n : ℕ) → ((r : Rc Items Global) → s ≡ shape.List r → ⊥) → ((a b : ℤ) → s ≡ shape.Range a b → ⊥) → ((r : Rc Entries Global) → s ≡ shape.Map r → ⊥) → n < length (loop_items (val_of s)) → ⊥
no_turn shape.Null n not_list not_range not_map h = absurd (omega (arith, turn_within null n h))
no_turn (shape.Bool b) n not_list not_range not_map h = absurd (omega (arith, turn_within (boolean b) n h))
no_turn (shape.Whole a) n not_list not_range not_map h = absurd (omega (arith, turn_within (whole a) n h))
no_turn (shape.Number t) n not_list not_range not_map h = absurd (omega (arith, turn_within (number (rc_str_bytes t)) n h))
no_turn (shape.Str t) n not_list not_range not_map h = absurd (omega (arith, turn_within (text (rc_str_bytes t)) n h))
no_turn (shape.List r) n not_list not_range not_map h = not_list r refl
no_turn (shape.Range a b) n not_list not_range not_map h = not_range a b refl
no_turn (shape.Map r) n not_list not_range not_map h = not_map r refl
