-- A text is read, or meets a limit; it is never a syntax fault.
use Rattle.std.proofs.Common.{◌≡◌, ℕ, zero, suc, ◌+◌, ◌-◌, ◌<◌, ◌≤◌, List, [], ◌∷◌, ◌++◌, length, Bool, true, false, refl, sym, ap, ◌∙◌, subst, arith, append_assoc}
use Rattle.std.specs.Prelude.{Ok, Err, Result, if◌then◌else◌}
use Rattle.std.specs.Str.{is_utf8}
use Rattle.std.specs.Str.Lossy.{utf8_valid_len}
use Rattle.json_subset.specs.declared.fault.JsonFault.{JsonFault}
use Rattle.json_subset.specs.declared.fault.JsonFault.TheVariants.{Syntax, Depth, Repeated, NotUtf8, Memory}
use Rattle.json_subset.specs.Tree.{Tree, node, Form, list, object, Trees, Members, trees_of, members_of}
use Rattle.json_subset.specs.Scan.{◌>>=◌, Read, place, after_white, behind, Next, done, more, next_front, colon_front, colon}
use Rattle.json_subset.specs.Reading.{number_form, text_form, form_at, spanned, with_next, parts, item, list_form, list_from, named, label, pair, names_of, object_form, object_from, opened, value, end_at, document, json}
use Rattle.json_subset.specs.Grammar.{Text, Value, a_value, Shape, the_null, the_true, the_false, some_number, some_text, empty_list, some_list, empty_object, some_object, Items, last_item, one_item, Pairs, last_pair, one_pair, IsText}
use Rattle.json_subset.proofs.Complete.{numeral_front, number_complete, string_complete, items_not, pairs_not, list_of, list_same, pairs_of, pairs_same, parts_step, handed, taken_back, coloned, fresh_name, value_less, after_less}
use Rattle.json_subset.proofs.Rests.{ahead_le, white_ahead, text_less}

abbrev pub IsLimit : JsonFault → Type 0
IsLimit (Syntax n) = ⊥
IsLimit (Depth n) = Unit {0}
IsLimit (Repeated n) = Unit {0}
IsLimit (NotUtf8 n) = ⊥
IsLimit Memory = ⊥

-- this is read, or a limit is met
abbrev pub Reads : {A : Type 0} → A → Result A JsonFault → Type 0
Reads x (Ok y) = y ≡ x
Reads x (Err e) = IsLimit e

reads_along : {A : Type 0} (x : A) (r s : Result A JsonFault) → r ≡ s → Reads x s → Reads x r
reads_along {A = A} x r s e h = let P : Result A JsonFault → Type 0 = Reads x in subst P (sym e) h

reads_then : {A B : Type 0} (x : A) (y : B) (r : Result A JsonFault) (f : A → Result B JsonFault) → Reads x r → Reads y (f x) → Reads y (r >>= f)
reads_then {B = B} x y (Ok z) f h k = let P : Result B JsonFault → Type 0 = Reads y in subst P (ap f (sym h)) k
reads_then x y (Err e) f h k = h

spanned_reads : (n at : ℕ) (f : Form) (rest : List ℕ) (r : Read Form) → Reads (f, rest) r → Reads (node at (n - length rest) f, rest) (spanned n at r)
spanned_reads n at f rest (Ok p) h = ap (λ (z : Form × List ℕ). (node at (n - length z.1) z.0, z.1)) h
spanned_reads n at f rest (Err e) h = h

list_reads : (ts : List Tree) (rest : List ℕ) (r : Read (List Tree)) → Reads (ts, rest) r → Reads (list (trees_of ts), rest) (list_form r)
list_reads ts rest (Ok p) h = ap (λ (z : List Tree × List ℕ). (list (trees_of z.0), z.1)) h
list_reads ts rest (Err e) h = h

object_reads : (ms : List (List ℕ × Tree)) (rest : List ℕ) (r : Read (List (List ℕ × Tree))) → Reads (ms, rest) r → Reads (object (members_of ms), rest) (object_form r)
object_reads ms rest (Ok p) h = ap (λ (z : List (List ℕ × Tree) × List ℕ). (object (members_of z.0), z.1)) h
object_reads ms rest (Err e) h = h

label_reads : {bs x mark : List ℕ} (n : ℕ) (taken : List ℕ → Bool) (start : List ℕ) → Text bs x mark → after_white mark ≡ 58 ∷ start → Reads (x, after_white start) (label n taken (34 ∷ bs))
label_reads {bs = bs} {x = x} {mark = mark} n taken start d e =
    let first : Read (List ℕ) → Read (List ℕ) = λ r. (r >>= fresh_name n (place n (34 ∷ bs)) taken) >>= coloned n in
    let third : List ℕ → Read (List ℕ) = λ z. colon_front n z >>= taken_back x in
    reads_along (x, after_white start) _ _ (ap first (string_complete n d)) (free (taken x) (ap third e))
  where
    free : (v : Bool) → (colon n mark >>= taken_back x) ≡ Ok (x, after_white start) → Reads (x, after_white start) (((if v then Err (Repeated (place n (34 ∷ bs))) else Ok x) >>= handed mark) >>= coloned n)
    free true k = tt
    free false k = reads_along (x, after_white start) _ _ k refl

behind_member : ℕ → List ℕ → Tree → List ℕ → Result ((List ℕ × Tree) × Next) JsonFault
behind_member n x t z = with_next (x, t) (next_front n 125 z)

mutual
  unfolding opened behind_member

  pub value_reads : {n : ℕ} {bs : List ℕ} {t : Tree} {rest : List ℕ} (d : ℕ) → Value n bs t rest → length bs ≤ n → Reads (t, rest) (value n d bs)
  value_reads {n = n} d (a_value bs rest f s) h = spanned_reads n (place n bs) f rest (form_at n (opened n d (place n bs)) bs) (shape_reads d (place n bs) s h)

  pub shape_reads : {n : ℕ} {bs : List ℕ} {f : Form} {rest : List ℕ} (d at : ℕ) → Shape n bs f rest → length bs ≤ n → Reads (f, rest) (form_at n (opened n d at) bs)
  shape_reads d at (the_null rest) h = refl
  shape_reads d at (the_true rest) h = refl
  shape_reads d at (the_false rest) h = refl
  shape_reads {n = n} d at (some_number bs rest m) h = reads_along _ _ _ (numeral_front n (opened n d at) m ∙ ap (number_form bs) (number_complete n m)) refl
  shape_reads {n = n} d at (some_text bs t rest m) h = reads_along _ _ _ (ap text_form (string_complete n m)) refl
  shape_reads zero at (empty_list bs rest e) h = tt
  shape_reads {n = n} (suc d) at (empty_list bs rest e) h = reads_along _ _ _ (ap (λ z. list_from n (value n d) z (behind 93 z)) e) refl
  shape_reads zero at (some_list bs rest ts m) h = tt
  shape_reads {n = n} (suc d) at (some_list bs rest ts m) h =
      let P : Trees → Type 0 = λ z. Reads (list z, rest) (list_from n (value n d) (after_white bs) (behind 93 (after_white bs))) in
      subst P (list_same ts) (reads_along _ _ _ (ap (list_from n (value n d) (after_white bs)) (items_not m)) (list_reads (list_of ts) rest _ (items_reads d [] (n + 1) m (omega (arith, h, ahead_le (white_ahead bs))) (omega (arith, h, ahead_le (white_ahead bs))))))
  shape_reads zero at (empty_object bs rest e) h = tt
  shape_reads {n = n} (suc d) at (empty_object bs rest e) h = reads_along _ _ _ (ap (λ z. object_from n (value n d) z (behind 125 z)) e) refl
  shape_reads zero at (some_object bs rest ms m) h = tt
  shape_reads {n = n} (suc d) at (some_object bs rest ms m) h =
      let P : Members → Type 0 = λ z. Reads (object z, rest) (object_from n (value n d) (after_white bs) (behind 125 (after_white bs))) in
      subst P (pairs_same ms) (reads_along _ _ _ (ap (object_from n (value n d) (after_white bs)) (pairs_not m)) (object_reads (pairs_of ms) rest _ (pairs_reads d [] (n + 1) m (omega (arith, h, ahead_le (white_ahead bs))) (omega (arith, h, ahead_le (white_ahead bs))))))

  pub items_reads : {n : ℕ} {bs : List ℕ} {ts : Trees} {rest : List ℕ} (d : ℕ) (before : List Tree) (f : ℕ) → Items n bs ts rest → length bs ≤ n → length bs < f → Reads (before ++ list_of ts, rest) (parts n (λ xs cs. item n (value n d cs)) before f bs)
  items_reads {n = n} d before f (last_item bs later rest t v e) h i =
      reads_along _ _ _ (parts_step n (λ xs cs. item n (value n d cs)) before f bs (omega (arith, i)))
      (reads_then (t, done rest) (before ++ t ∷ [], rest) (item n (value n d bs)) _
      (reads_then (t, later) (t, done rest) (value n d bs) _ (value_reads d v h) (reads_along _ _ _ (ap (λ z. with_next t (next_front n 93 z)) e) refl))
      refl)
  items_reads {n = n} d before f (one_item bs later cs rest t ts v e o) h i =
      let P : List Tree → Type 0 = λ z. Reads (z, rest) (parts n (λ xs zs. item n (value n d zs)) (before ++ t ∷ []) (f - 1) (after_white cs)) in
      reads_along _ _ _ (parts_step n (λ xs cs. item n (value n d cs)) before f bs (omega (arith, i)))
      (reads_then (t, more (after_white cs)) (before ++ t ∷ list_of ts, rest) (item n (value n d bs)) _
      (reads_then (t, later) (t, more (after_white cs)) (value n d bs) _ (value_reads d v h) (reads_along _ _ _ (ap (λ z. with_next t (next_front n 93 z)) e) refl))
      (subst P (append_assoc before (t ∷ []) (list_of ts)) (items_reads d (before ++ t ∷ []) (f - 1) o (omega (arith, h, value_less v, after_less later cs [] 44 e, ahead_le (white_ahead cs))) (omega (arith, i, value_less v, after_less later cs [] 44 e, ahead_le (white_ahead cs))))))

  pub pairs_reads : {n : ℕ} {bs : List ℕ} {ms : Members} {rest : List ℕ} (d : ℕ) (before : List (List ℕ × Tree)) (f : ℕ) → Pairs n bs ms rest → length bs ≤ n → length bs < f → Reads (before ++ pairs_of ms, rest) (parts n (λ xs cs. pair n (value n d) (named (names_of xs)) cs) before f bs)
  pairs_reads {n = n} d before f (last_pair bs x mark start later rest t m e v j) h i =
      reads_along _ _ _ (parts_step n (λ xs cs. pair n (value n d) (named (names_of xs)) cs) before f (34 ∷ bs) (omega (arith, i)))
      (reads_then ((x, t), done rest) (before ++ (x, t) ∷ [], rest) (pair n (value n d) (named (names_of before)) (34 ∷ bs)) _
      (reads_then (x, after_white start) ((x, t), done rest) (label n (named (names_of before)) (34 ∷ bs)) _ (label_reads n (named (names_of before)) start m e)
      (reads_then (t, later) ((x, t), done rest) (value n d (after_white start)) _ (value_reads d v (omega (arith, h, text_less m, after_less mark start [] 58 e, ahead_le (white_ahead start)))) (reads_along _ _ _ (ap (behind_member n x t) j) refl)))
      refl)
  pairs_reads {n = n} d before f (one_pair bs x mark start later cs rest t ms m e v j o) h i =
      let P : List (List ℕ × Tree) → Type 0 = λ z. Reads (z, rest) (parts n (λ xs zs. pair n (value n d) (named (names_of xs)) zs) (before ++ (x, t) ∷ []) (f - 1) (after_white cs)) in
      reads_along _ _ _ (parts_step n (λ xs cs. pair n (value n d) (named (names_of xs)) cs) before f (34 ∷ bs) (omega (arith, i)))
      (reads_then ((x, t), more (after_white cs)) (before ++ (x, t) ∷ pairs_of ms, rest) (pair n (value n d) (named (names_of before)) (34 ∷ bs)) _
      (reads_then (x, after_white start) ((x, t), more (after_white cs)) (label n (named (names_of before)) (34 ∷ bs)) _ (label_reads n (named (names_of before)) start m e)
      (reads_then (t, later) ((x, t), more (after_white cs)) (value n d (after_white start)) _ (value_reads d v (omega (arith, h, text_less m, after_less mark start [] 58 e, ahead_le (white_ahead start)))) (reads_along _ _ _ (ap (behind_member n x t) j) refl)))
      (subst P (append_assoc before ((x, t) ∷ []) (pairs_of ms)) (pairs_reads d (before ++ (x, t) ∷ []) (f - 1) o (omega (arith, h, text_less m, after_less mark start [] 58 e, ahead_le (white_ahead start), value_less v, after_less later cs [] 44 j, ahead_le (white_ahead cs))) (omega (arith, i, text_less m, after_less mark start [] 58 e, ahead_le (white_ahead start), value_less v, after_less later cs [] 44 j, ahead_le (white_ahead cs))))))

pub text_reads : (bs : List ℕ) (t : Tree) → IsText bs t → Reads t (document bs)
text_reads bs t d =
    reads_then (t, d.behind) t (value (length bs) 64 (after_white bs)) (λ r. end_at (length bs) r.0 (after_white r.1)) (value_reads 64 d.value (ahead_le (white_ahead bs)))
    (reads_along t _ _ (ap (end_at (length bs) t) d.ended) refl)

pub never_syntax : (bs : List ℕ) (t : Tree) (n : ℕ) → IsText bs t → document bs ≡ Err (Syntax n) → ⊥
never_syntax bs t n d e = let P : Result Tree JsonFault → Type 0 = Reads t in subst P e (text_reads bs t d)

pub json_no_syntax : (bs : List ℕ) (t : Tree) (n : ℕ) → IsText bs t → json bs ≡ Err (Syntax n) → ⊥
json_no_syntax bs t n d e = go (is_utf8 bs) e
  where
    go : (v : Bool) → (if v then document bs else Err (NotUtf8 (utf8_valid_len bs))) ≡ Err (Syntax n) → ⊥
    go true k = never_syntax bs t n d k
    go false k = cc
