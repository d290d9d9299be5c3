-- Reading a value is local, and so is reading a document.
use Rattle.std.proofs.Common.{◌≡◌, ℕ, zero, suc, ◌+◌, ◌-◌, ◌<◌, ◌≤◌, List, [], ◌∷◌, ◌++◌, length, take, Bool, true, false, Some, None, refl, ap, ◌∙◌, subst, arith}
use Rattle.std.specs.Prelude.{Ok, Err, Result, if◌then◌else◌, ◌==◌, IfOk}
use Rattle.json_subset.specs.declared.fault.JsonFault.{JsonFault}
use Rattle.json_subset.specs.declared.fault.JsonFault.TheVariants.{Repeated}
use Rattle.json_subset.specs.Tree.{Tree, node, Form, null, bool, number, text, list, object, trees_of, members_of}
use Rattle.json_subset.specs.Numbers.{number_of}
use Rattle.json_subset.specs.Scan.{◌>>=◌, Read, place, after_white, behind, word, after_number, Next, done, more, next}
use Rattle.json_subset.specs.Strings.{string}
use Rattle.json_subset.specs.Reading.{square, curly, word_form, number_form, text_form, scalar, spanned, with_next, with_part, parts, item, items, list_form, list_from, named, quoted_name, name, label, labelled, pair, pairs, names_of, object_form, object_from, inside, opened, value, end_at}
use Rattle.json_subset.proofs.Choices.{ok_then, ok_map}
use Rattle.json_subset.proofs.Complete.{value_less}
use Rattle.json_subset.proofs.Local.{Fork, Front, along, front_bound, same_place, same_between, View, Late, Alike, same, fault, late, late_then, Good, Tail, tail_good, tail_from, from_tails, tail_syntax, tail_depth, tail_if, rests, reads, rest_then, read_then, good_map, gives, white_good, word_good, number_good, is_done, next_rest, nexts, next_good, colon_good}
use Rattle.json_subset.proofs.LocalTexts.{string_good}
use Rattle.json_subset.proofs.Sound.{Valued, value_read}

-- forms that are neither lists nor objects
words_good : (f : Form) (w : List ℕ) → Good reads (λ n xs. word_form f (word n w xs))
words_good f w = good_map rests reads (λ r. (f, r)) (word_form f) (λ x. refl) (λ e. refl) (λ x. refl) (λ x y e. refl) (word_good w)

texts_good : Good reads (λ n xs. text_form (string n xs))
texts_good = good_map reads reads (λ r. (text r.0, r.1)) text_form (λ x. refl) (λ e. refl) (λ x. refl) (λ x y e. ap text e) string_good

numbers_good : Good reads (λ n xs. number_form xs (after_number n xs))
numbers_good = record { local = λ c xs ys f. go c xs ys f (number_good.local c xs ys f); late = λ c xs h. stay c xs (after_number (c.k + c.u) xs) (number_good.late c xs h); less = λ n xs. fewer xs (after_number n xs) (number_good.less n xs) }
  where
    stay : (c : Fork) (xs : List ℕ) (r : Result (List ℕ) JsonFault) → Late c rests r → Late c reads (number_form xs r)
    stay c xs (Ok a) h = h
    stay c xs (Err e) h = h

    go : (c : Fork) (xs ys : List ℕ) → Front c xs ys → {r s : Result (List ℕ) JsonFault} → Alike c rests r s → Alike c reads (number_form xs r) (number_form ys s)
    go c xs ys f (same a b e t) =
        same (number (number_of (take (length xs - length a) xs)) (take (length xs - length a) xs), a) (number (number_of (take (length ys - length b) ys)) (take (length ys - length b) ys), b)
        (ap (λ z. number (number_of z) z) (same_between f t)) t
    go c xs ys f (fault e) = fault e
    go c xs ys f (late r s h) = late (number_form xs r) (number_form ys s) (stay c xs r h)

    fewer : (xs : List ℕ) (r : Result (List ℕ) JsonFault) → IfOk r (λ a. length a ≤ length xs) → IfOk (number_form xs r) (λ p. length p.1 ≤ length xs)
    fewer xs (Ok a) h = h
    fewer xs (Err e) h = tt

scalar_tail : (b : ℕ) → Tail reads b (λ n xs. scalar n (b ∷ xs))
scalar_tail b =
    tail_if (b == 34) (tail_good b texts_good)
    (tail_if (b == 110) (tail_good b (words_good null (117 ∷ 108 ∷ 108 ∷ [])))
    (tail_if (b == 116) (tail_good b (words_good (bool true) (114 ∷ 117 ∷ 101 ∷ [])))
    (tail_if (b == 102) (tail_good b (words_good (bool false) (97 ∷ 108 ∷ 115 ∷ 101 ∷ []))) (tail_from b numbers_good))))

-- a value with its places
spanned_tail : {F : ℕ → List ℕ → Read Form} (b : ℕ) → Tail reads b F → Tail reads b (λ n xs. spanned n (place n (b ∷ xs)) (F n xs))
spanned_tail {F = F} b t = record {
  local = λ c xs ys h f. go c xs ys (same_place (along b xs ys h f)) (t.local c xs ys h f);
  late = λ c xs h. stay c (place (c.k + c.u) (b ∷ xs)) (F (c.k + c.u) xs) (t.late c xs h);
  less = λ n xs. fewer n (place n (b ∷ xs)) xs (F n xs) (t.less n xs);
}
  where
    stay : (c : Fork) (at : ℕ) (r : Read Form) → Late c reads r → Late c reads (spanned (c.k + c.u) at r)
    stay c at (Ok p) h = h
    stay c at (Err e) h = h

    go : (c : Fork) (xs ys : List ℕ) → place (c.k + c.u) (b ∷ xs) ≡ place (c.k + c.v) (b ∷ ys) → {r s : Read Form} → Alike c reads r s → Alike c reads (spanned (c.k + c.u) (place (c.k + c.u) (b ∷ xs)) r) (spanned (c.k + c.v) (place (c.k + c.v) (b ∷ ys)) s)
    go c xs ys i (same p q e j) =
        same (node (place (c.k + c.u) (b ∷ xs)) (place (c.k + c.u) p.1) p.0, p.1) (node (place (c.k + c.v) (b ∷ ys)) (place (c.k + c.v) q.1) q.0, q.1)
        (ap (λ z. node z (place (c.k + c.u) p.1) p.0) i ∙ ap (λ z. node (place (c.k + c.v) (b ∷ ys)) z p.0) (same_place j) ∙ ap (node (place (c.k + c.v) (b ∷ ys)) (place (c.k + c.v) q.1)) e) j
    go c xs ys i (fault e) = fault e
    go c xs ys i (late r s h) = late (spanned (c.k + c.u) (place (c.k + c.u) (b ∷ xs)) r) (spanned (c.k + c.v) (place (c.k + c.v) (b ∷ ys)) s) (stay c (place (c.k + c.u) (b ∷ xs)) r h)

    fewer : (n at : ℕ) (xs : List ℕ) (r : Read Form) → IfOk r (λ p. length p.1 ≤ suc (length xs)) → IfOk (spanned n at r) (λ p. length p.1 ≤ suc (length xs))
    fewer n at xs (Ok p) h = h
    fewer n at xs (Err e) h = tt

-- parts of a list or an object
abbrev part_view : {A : Type 0} → View (A × Next) (A × Bool)
part_view = record { rest = λ x. next_rest x.1; given = λ x. (x.0, is_done x.1) }

next_part : {A : Type 0} (a : A) (close : ℕ) → Good part_view (λ n xs. with_next a (next n close xs))
next_part a close = good_map nexts part_view (λ s. (a, s)) (with_next a) (λ x. refl) (λ e. refl) (λ x. refl) (λ x y e. ap (λ z. (a, z)) e) (next_good close)

module _ {A : Type 0} (step : ℕ → List A → List ℕ → Result (A × Next) JsonFault) (good : (before : List A) → Good part_view (λ n xs. step n before xs)) (strict : (n : ℕ) (before : List A) (xs : List ℕ) → IfOk (step n before xs) (λ s. length (next_rest s.1) < length xs)) where
  abbrev others : ℕ → ℕ → List A → List ℕ → Read (List A)
  others n f before xs = parts n (step n) before f xs

  parts_late : (c : Fork) (before : List A) (f : ℕ) (xs : List ℕ) → length xs ≤ c.u → Late c reads (others (c.k + c.u) f before xs)
  unfolding parts
  parts_late c before zero xs h = omega (arith, h)
  parts_late c before (suc f) xs h =
      late_then c part_view reads (step (c.k + c.u) before xs) (with_part (others (c.k + c.u) f) before) ((good before).late c xs h) (go (λ t rest i. parts_late c t f rest i))
    where
      go : ((t : List A) (rest : List ℕ) → length rest ≤ c.u → Late c reads (others (c.k + c.u) f t rest)) → (s : A × Next) → length (next_rest s.1) ≤ c.u → Late c reads (with_part (others (c.k + c.u) f) before s)
      go ahead (a, done rest) i = i
      go ahead (a, more rest) i = ahead (before ++ a ∷ []) rest i

  after_part : (c : Fork) (f g : ℕ) → ((t : List A) (xs ys : List ℕ) → Front c xs ys → length xs < f → length ys < g → Alike c reads (others (c.k + c.u) f t xs) (others (c.k + c.v) g t ys)) → (t : List A) {r s : Result (A × Next) JsonFault} → Alike c part_view r s → IfOk r (λ x. length (next_rest x.1) < f) → IfOk s (λ x. length (next_rest x.1) < g) → Alike c reads (r >>= with_part (others (c.k + c.u) f) t) (s >>= with_part (others (c.k + c.v) g) t)
  after_part c f g ahead t (same (a, done x) (b, done y) e i) h k = same (t ++ a ∷ [], x) (t ++ b ∷ [], y) (ap (λ z. t ++ z.0 ∷ []) e) i
  after_part c f g ahead t (same (a, done x) (b, more y) e i) h k = let j : true ≡ false = ap (λ z. z.1) e in cc
  after_part c f g ahead t (same (a, more x) (b, done y) e i) h k = let j : false ≡ true = ap (λ z. z.1) e in cc
  after_part c f g ahead t (same (a, more x) (b, more y) e i) h k = subst (λ z. Alike c reads (others (c.k + c.u) f (t ++ a ∷ []) x) (others (c.k + c.v) g (t ++ z ∷ []) y)) (ap (λ z. z.0) e) (ahead (t ++ a ∷ []) x y i h k)
  after_part c f g ahead t (fault e) h k = fault e
  after_part c f g ahead t (late (Ok (a, done x)) s i) h k = late (Ok (t ++ a ∷ [], x)) (s >>= with_part (others (c.k + c.v) g) t) i
  after_part c f g ahead t (late (Ok (a, more x)) s i) h k = late (others (c.k + c.u) f (t ++ a ∷ []) x) (s >>= with_part (others (c.k + c.v) g) t) (parts_late c (t ++ a ∷ []) f x i)
  after_part c f g ahead t (late (Err e) s i) h k = late (Err e) (s >>= with_part (others (c.k + c.v) g) t) i

  parts_alike : (c : Fork) (f g : ℕ) (t : List A) (xs ys : List ℕ) → Front c xs ys → length xs < f → length ys < g → Alike c reads (others (c.k + c.u) f t xs) (others (c.k + c.v) g t ys)
  unfolding parts
  parts_alike c zero g t xs ys i h k = absurd (omega (arith, h))
  parts_alike c (suc f) zero t xs ys i h k = absurd (omega (arith, k))
  parts_alike c (suc f) (suc g) t xs ys i h k =
      after_part c f g (λ a b d j l m. parts_alike c f g a b d j l m) t ((good t).local c xs ys i)
      (ok_map (λ s. length (next_rest s.1) < length xs) (λ s. length (next_rest s.1) < f) (step (c.k + c.u) t xs) (strict (c.k + c.u) t xs) (λ s j. omega (arith, h, j)))
      (ok_map (λ s. length (next_rest s.1) < length ys) (λ s. length (next_rest s.1) < g) (step (c.k + c.v) t ys) (strict (c.k + c.v) t ys) (λ s j. omega (arith, k, j)))

  parts_less : (n : ℕ) (t : List A) (f : ℕ) (xs : List ℕ) → IfOk (others n f t xs) (λ p. length p.1 ≤ length xs)
  unfolding parts
  parts_less n t zero xs = tt
  parts_less n t (suc f) xs = ok_then (λ s. length (next_rest s.1) < length xs) (λ p. length p.1 ≤ length xs) (step n t xs) (with_part (others n f) t) (strict n t xs) (go (λ a rest. parts_less n a f rest))
    where
      go : ((a : List A) (rest : List ℕ) → IfOk (others n f a rest) (λ p. length p.1 ≤ length rest)) → (s : A × Next) → length (next_rest s.1) < length xs → IfOk (with_part (others n f) t s) (λ p. length p.1 ≤ length xs)
      go ahead (a, done rest) h = omega (arith, h)
      go ahead (a, more rest) h = ok_map (λ p. length p.1 ≤ length rest) (λ p. length p.1 ≤ length xs) (others n f (t ++ a ∷ []) rest) (ahead (t ++ a ∷ []) rest) (λ p i. omega (arith, h, i))

  parts_good : Good reads (λ n xs. others n (n + 1) [] xs)
  parts_good = record {
    local = λ c xs ys f. let b = front_bound f in parts_alike c (c.k + c.u + 1) (c.k + c.v + 1) [] xs ys f (omega (arith, b)) (omega (arith, b));
    late = λ c xs h. parts_late c [] (c.k + c.u + 1) xs h;
    less = λ n xs. parts_less n [] (n + 1) xs;
  }

-- a value consumes a byte
inner_less : (d n : ℕ) (xs : List ℕ) → IfOk (value n d xs) (λ p. length p.1 < length xs)
inner_less d n xs = ok_map (Valued n d xs) (λ p. length p.1 < length xs) (value n d xs) (value_read n d xs) (λ p v. value_less v.value)

behind_less : {A : Type 0} (a : A) (n close m : ℕ) (xs : List ℕ) → length xs < m → IfOk (with_next a (next n close xs)) (λ s. length (next_rest s.1) < m)
behind_less a n close m xs h = ok_map (λ s. length (next_rest s.1) ≤ length xs) (λ s. length (next_rest s.1) < m) (with_next a (next n close xs)) ((next_part a close).less n xs) (λ s i. omega (arith, h, i))

-- a member's name, and the colon
quoted_good : (at : ℕ) (taken : List ℕ → Bool) → Good reads (λ n xs. quoted_name n at taken xs)
quoted_good at taken = read_then string_good (λ x. go x (taken x))
  where
    go : (x : List ℕ) (v : Bool) → Good reads (λ n xs. (if v then Err (Repeated at) else Ok x) >>= λ y. Ok (y, xs))
    go x true = record { local = λ c xs ys f. fault (Repeated at); late = λ c xs h. tt; less = λ n xs. tt }
    go x false = gives x

quoted_tail : (b : ℕ) (taken : List ℕ → Bool) → Tail reads b (λ n xs. quoted_name n (place n (b ∷ xs)) taken xs)
quoted_tail b taken = record {
  local = λ c xs ys h f. subst (λ at. Alike c reads (quoted_name (c.k + c.u) (place (c.k + c.u) (b ∷ xs)) taken xs) (quoted_name (c.k + c.v) at taken ys)) (same_place (along b xs ys h f)) ((quoted_good (place (c.k + c.u) (b ∷ xs)) taken).local c xs ys f);
  late = λ c xs h. (quoted_good (place (c.k + c.u) (b ∷ xs)) taken).late c xs (omega (arith, h));
  less = λ n xs. ok_map (λ p. length p.1 ≤ length xs) (λ p. length p.1 ≤ suc (length xs)) (quoted_name n (place n (b ∷ xs)) taken xs) ((quoted_good (place n (b ∷ xs)) taken).less n xs) (λ p h. omega (arith, h));
}

name_good : (taken : List ℕ → Bool) → Good reads (λ n xs. name n taken xs)
name_good taken = from_tails reads (λ n xs. name n taken xs) (λ c. omega arith) (λ n. tt) (λ b. tail_if (b == 34) (quoted_tail b taken) (tail_syntax reads b))

label_good : (taken : List ℕ → Bool) → Good reads (λ n xs. label n taken xs)
label_good taken = read_then (name_good taken) (λ x. rest_then colon_good (gives x))

-- what a bracket opens, where values inside are read as they should be
module _ (d : ℕ) (inner : Good reads (λ n xs. value n d xs)) where
  item_good : (before : List Tree) → Good part_view (λ n xs. item n (value n d xs))
  item_good before = read_then inner (λ t. next_part t 93)

  item_less : (n : ℕ) (before : List Tree) (xs : List ℕ) → IfOk (item n (value n d xs)) (λ s. length (next_rest s.1) < length xs)
  item_less n before xs = ok_then (λ p. length p.1 < length xs) (λ s. length (next_rest s.1) < length xs) (value n d xs) (λ v. with_next v.0 (next n 93 v.1)) (inner_less d n xs) (λ v h. behind_less v.0 n 93 (length xs) v.1 h)

  items_good : Good reads (λ n xs. items n (value n d) xs)
  items_good = parts_good (λ n before xs. item n (value n d xs)) item_good item_less

  member_good : (x : List ℕ) → Good part_view (λ n xs. labelled n x (value n d xs))
  member_good x = read_then inner (λ t. next_part (x, t) 125)

  pair_good : (before : List (List ℕ × Tree)) → Good part_view (λ n xs. pair n (value n d) (named (names_of before)) xs)
  pair_good before = read_then (label_good (named (names_of before))) member_good

  pair_less : (n : ℕ) (before : List (List ℕ × Tree)) (xs : List ℕ) → IfOk (pair n (value n d) (named (names_of before)) xs) (λ s. length (next_rest s.1) < length xs)
  pair_less n before xs =
      ok_then (λ p. length p.1 ≤ length xs) (λ s. length (next_rest s.1) < length xs) (label n (named (names_of before)) xs) (λ x. labelled n x.0 (value n d x.1)) ((label_good (named (names_of before))).less n xs)
      (λ x i. ok_then (λ p. length p.1 < length x.1) (λ s. length (next_rest s.1) < length xs) (value n d x.1) (λ v. with_next (x.0, v.0) (next n 125 v.1)) (inner_less d n x.1)
      (λ v h. behind_less (x.0, v.0) n 125 (length xs) v.1 (omega (arith, h, i))))

  pairs_good : Good reads (λ n xs. pairs n (value n d) xs)
  pairs_good = parts_good (λ n before xs. pair n (value n d) (named (names_of before)) xs) pair_good pair_less

  list_good : Good reads (λ n xs. list_form (items n (value n d) xs))
  list_good = good_map reads reads (λ r. (list (trees_of r.0), r.1)) list_form (λ x. refl) (λ e. refl) (λ x. refl) (λ x y e. ap (λ z. list (trees_of z)) e) items_good

  object_good : Good reads (λ n xs. object_form (pairs n (value n d) xs))
  object_good = good_map reads reads (λ r. (object (members_of r.0), r.1)) object_form (λ x. refl) (λ e. refl) (λ x. refl) (λ x y e. ap (λ z. object (members_of z)) e) pairs_good

  square_good : Good reads (λ n xs. inside n (value n d) square xs)
  square_good = rest_then white_good (from_tails reads (λ n xs. list_from n (value n d) xs (behind 93 xs)) (λ c. list_good.late c [] (omega arith)) (λ n. list_good.less n []) (λ b. go b (b == 93)))
    where
      go : (b : ℕ) (v : Bool) → Tail reads b (λ n xs. list_from n (value n d) (b ∷ xs) (if v then Some xs else None))
      go b true = tail_good b (gives (list (trees_of [])))
      go b false = tail_from b list_good

  curly_good : Good reads (λ n xs. inside n (value n d) curly xs)
  curly_good = rest_then white_good (from_tails reads (λ n xs. object_from n (value n d) xs (behind 125 xs)) (λ c. object_good.late c [] (omega arith)) (λ n. object_good.less n []) (λ b. go b (b == 125)))
    where
      go : (b : ℕ) (v : Bool) → Tail reads b (λ n xs. object_from n (value n d) (b ∷ xs) (if v then Some xs else None))
      go b true = tail_good b (gives (object (members_of [])))
      go b false = tail_from b object_good

value_good : (d : ℕ) → Good reads (λ n xs. value n d xs)
unfolding opened
value_good zero = from_tails reads (λ n xs. value n zero xs) (λ c. omega arith) (λ n. tt) (λ b. spanned_tail b (tail_if (b == 91) (tail_depth reads b) (tail_if (b == 123) (tail_depth reads b) (scalar_tail b))))
value_good (suc d) = from_tails reads (λ n xs. value n (suc d) xs) (λ c. omega arith) (λ n. tt)
    (λ b. spanned_tail b (tail_if (b == 91) (tail_good b (square_good d (value_good d))) (tail_if (b == 123) (tail_good b (curly_good d (value_good d))) (scalar_tail b))))

-- a whole document, which leaves nothing
abbrev pub whole : View Tree (Unit {0})
whole = record { rest = λ t. []; given = λ t. tt }

end_good : (t : Tree) → Good whole (λ n xs. end_at n t xs)
end_good t = from_tails whole (λ n xs. end_at n t xs) (λ c. omega arith) (λ n. omega arith) (λ b. tail_syntax whole b)

pub document_good : Good whole (λ n xs. value n 64 (after_white xs) >>= λ r. end_at n r.0 (after_white r.1))
document_good = rest_then white_good (read_then (value_good 64) (λ t. rest_then white_good (end_good t)))
