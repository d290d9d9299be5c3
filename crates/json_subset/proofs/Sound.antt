-- What is read of a value is of the grammar.
use Rattle.std.proofs.Common.{◌≡◌, ℕ, zero, suc, ◌+◌, ◌≤◌, List, [], ◌∷◌, ◌++◌, length, Bool, true, false, refl, sym, ap, ◌∙◌, subst, arith, Option, Some, None, append_assoc}
use Rattle.std.specs.Prelude.{Ok, Err, Result, if◌then◌else◌, ◌==◌, IfOk}
use Rattle.json_subset.specs.declared.fault.JsonFault.{JsonFault}
use Rattle.json_subset.specs.declared.fault.JsonFault.TheVariants.{Syntax, Repeated}
use Rattle.json_subset.specs.Tree.{Tree, Form, null, bool, text, list, object, no_trees, Members, no_members, member, trees_of, members_of}
use Rattle.json_subset.specs.Scan.{◌>>=◌, Read, place, after_white, behind, word, after_number, Next, done, more, next_front, next, colon_front, colon}
use Rattle.json_subset.specs.Strings.{string}
use Rattle.json_subset.specs.Reading.{square, curly, word_form, number_form, text_form, scalar, form_at, spanned, with_next, with_part, parts, item, items, list_form, list_from, named, unlike, quoted_name, name, label, labelled, pair, pairs, names_of, object_form, object_from, inside, opened, value, end_at, document}
use Rattle.json_subset.specs.Grammar.{Text, Numeral, Value, a_value, Shape, the_null, the_true, the_false, some_number, some_text, empty_list, some_list, empty_object, some_object, Items, last_item, one_item, Pairs, last_pair, one_pair, depth, form_depth, trees_depth, members_depth, HasNewNames, IsDistinct, IsDistinctForm, AreDistinct, AreDistinctMembers, IsText}
use Rattle.json_subset.proofs.Choices.{ok_then, ok_map, ok_if, byte_is}
use Rattle.json_subset.proofs.Lexical.{number_read, text_read}

-- a form within its limits
pub record Formed (n d : ℕ) (bs : List ℕ) (p : Form × List ℕ) : Type 0 where
  pub shape : Shape n bs p.0 p.1
  pub shallow : form_depth p.0 ≤ d
  pub distinct : IsDistinctForm p.0

pub record Valued (n d : ℕ) (bs : List ℕ) (p : Tree × List ℕ) : Type 0 where
  pub value : Value n bs p.0 p.1
  pub shallow : depth p.0 ≤ d
  pub distinct : IsDistinct p.0

at : (P : ℕ → Type 0) (b c : ℕ) → (b == c) ≡ true → P c → P b
at P b c e h = subst P (sym (byte_is b c e)) h

-- words
word_is : (n : ℕ) (w bs : List ℕ) → IfOk (word n w bs) (λ rest. bs ≡ w ++ rest)
word_is n [] bs = refl
word_is n (c ∷ cs) [] = tt
word_is n (c ∷ cs) (b ∷ bs) =
    ok_if (λ rest. b ∷ bs ≡ c ∷ (cs ++ rest)) (b == c) (word n cs bs) (Err (Syntax (place n (b ∷ bs))))
    (λ e. ok_map (λ rest. bs ≡ cs ++ rest) (λ rest. b ∷ bs ≡ c ∷ (cs ++ rest)) (word n cs bs) (word_is n cs bs) (λ rest k. ap (λ z. z ∷ bs) (byte_is b c e) ∙ ap (λ z. c ∷ z) k))
    (λ e. tt)

words_formed : (n d b c : ℕ) (w bs : List ℕ) (f : Form) → (b == c) ≡ true → form_depth f ≡ 0 → IsDistinctForm f → ((rest : List ℕ) → Shape n (c ∷ w ++ rest) f rest) → IfOk (word_form f (word n w bs)) (Formed n d (b ∷ bs))
words_formed n d b c w bs f e z q shape = go (word n w bs) (word_is n w bs)
  where
    go : (r : Result (List ℕ) JsonFault) → IfOk r (λ rest. bs ≡ w ++ rest) → IfOk (word_form f r) (Formed n d (b ∷ bs))
    go (Ok rest) k =
        let P : List ℕ → Type 0 = λ s. Shape n s f rest in
        record { shape = subst P (sym (ap (λ s. b ∷ s) k ∙ ap (λ s. s ∷ (w ++ rest)) (byte_is b c e))) (shape rest); shallow = omega (arith, z); distinct = q }
    go (Err f) k = tt

text_formed : (n d b : ℕ) (bs : List ℕ) → (b == 34) ≡ true → IfOk (text_form (string n bs)) (Formed n d (b ∷ bs))
text_formed n d b bs e = go (string n bs) (text_read n [] (length bs + 1) bs)
  where
    go : (r : Read (List ℕ)) → IfOk r (λ p. (t : List ℕ) × (p.0 ≡ t) × Text bs t p.1) → IfOk (text_form r) (Formed n d (b ∷ bs))
    go (Ok p) k =
        let P : List ℕ → Type 0 = λ z. Text bs z p.1 in
        record { shape = at (λ z. Shape n (z ∷ bs) (text p.0) p.1) b 34 e (some_text bs p.0 p.1 (subst P (sym k.1) k.2)); shallow = omega arith; distinct = tt }
    go (Err f) k = tt

number_formed : (n d : ℕ) (bs : List ℕ) → IfOk (number_form bs (after_number n bs)) (Formed n d bs)
number_formed n d bs = go (after_number n bs) (number_read n bs)
  where
    go : (r : Result (List ℕ) JsonFault) → IfOk r (λ rest. Numeral bs rest) → IfOk (number_form bs r) (Formed n d bs)
    go (Ok rest) k = record { shape = some_number bs rest k; shallow = omega arith; distinct = tt }
    go (Err f) k = tt

scalar_formed : (n d : ℕ) (bs : List ℕ) → IfOk (scalar n bs) (Formed n d bs)
scalar_formed n d [] = tt
scalar_formed n d (b ∷ bs) =
    let P : Form × List ℕ → Type 0 = Formed n d (b ∷ bs) in
    ok_if P (b == 34) (text_form (string n bs)) _ (text_formed n d b bs)
    (λ e. ok_if P (b == 110) (word_form null (word n (117 ∷ 108 ∷ 108 ∷ []) bs)) _
    (λ k. words_formed n d b 110 (117 ∷ 108 ∷ 108 ∷ []) bs null k refl tt the_null)
    (λ k. ok_if P (b == 116) (word_form (bool true) (word n (114 ∷ 117 ∷ 101 ∷ []) bs)) _
    (λ j. words_formed n d b 116 (114 ∷ 117 ∷ 101 ∷ []) bs (bool true) j refl tt the_true)
    (λ j. ok_if P (b == 102) (word_form (bool false) (word n (97 ∷ 108 ∷ 115 ∷ 101 ∷ []) bs)) (number_form (b ∷ bs) (after_number n (b ∷ bs)))
    (λ i. words_formed n d b 102 (97 ∷ 108 ∷ 115 ∷ 101 ∷ []) bs (bool false) i refl tt the_false)
    (λ i. number_formed n d (b ∷ bs)))))

-- what follows a part
abbrev pub NextIs : ℕ → List ℕ → Next → Type 0
NextIs close bs (done rest) = after_white bs ≡ close ∷ rest
NextIs close bs (more rest) = (cs : List ℕ) × (after_white bs ≡ 44 ∷ cs) × (rest ≡ after_white cs)

abbrev FrontIs : ℕ → List ℕ → Next → Type 0
FrontIs close bs (done rest) = bs ≡ close ∷ rest
FrontIs close bs (more rest) = (cs : List ℕ) × (bs ≡ 44 ∷ cs) × (rest ≡ after_white cs)

front_is : (n close : ℕ) (bs : List ℕ) → IfOk (next_front n close bs) (FrontIs close bs)
front_is n close [] = tt
front_is n close (b ∷ bs) =
    ok_if (FrontIs close (b ∷ bs)) (b == close) (Ok (done bs)) (if b == 44 then Ok (more (after_white bs)) else Err (Syntax (place n (b ∷ bs))))
    (λ e. ap (λ z. z ∷ bs) (byte_is b close e))
    (λ e. ok_if (FrontIs close (b ∷ bs)) (b == 44) (Ok (more (after_white bs))) (Err (Syntax (place n (b ∷ bs)))) (λ k. (bs, ap (λ z. z ∷ bs) (byte_is b 44 k), refl)) (λ k. tt))

front_next : (close : ℕ) (bs : List ℕ) (s : Next) → FrontIs close (after_white bs) s → NextIs close bs s
front_next close bs (done rest) h = h
front_next close bs (more rest) h = h

pub next_is : (n close : ℕ) (bs : List ℕ) → IfOk (next n close bs) (NextIs close bs)
next_is n close bs = ok_map (FrontIs close (after_white bs)) (NextIs close bs) (next n close bs) (front_is n close (after_white bs)) (front_next close bs)

colon_front_is : (n : ℕ) (bs : List ℕ) → IfOk (colon_front n bs) (λ rest. (cs : List ℕ) × (bs ≡ 58 ∷ cs) × (rest ≡ after_white cs))
colon_front_is n [] = tt
colon_front_is n (b ∷ bs) =
    ok_if (λ rest. (cs : List ℕ) × (b ∷ bs ≡ 58 ∷ cs) × (rest ≡ after_white cs)) (b == 58) (Ok (after_white bs)) (Err (Syntax (place n (b ∷ bs))))
    (λ e. (bs, ap (λ z. z ∷ bs) (byte_is b 58 e), refl)) (λ e. tt)

behind_is : (c : ℕ) (bs : List ℕ) (rest : List ℕ) → behind c bs ≡ Some rest → bs ≡ c ∷ rest
behind_is c [] rest e = cc
behind_is c (b ∷ bs) rest e = go (b == c) refl e
  where
    go : (v : Bool) → (b == c) ≡ v → (if v then Some bs else None) ≡ Some rest → b ∷ bs ≡ c ∷ rest
    go true k h = (let j = byte_is b c k in cc)
    go false k h = cc

-- a list of so many levels, if values inside are as they should be
module _ (n d : ℕ) (inner : List ℕ → Read Tree) (holds : (bs : List ℕ) → IfOk (inner bs) (Valued n d bs)) where
  abbrev pub Listed : List Tree → List ℕ → List Tree × List ℕ → Type 0
  Listed before bs p = (ts : List Tree) × (p.0 ≡ before ++ ts) × Items n bs (trees_of ts) p.1 × (trees_depth (trees_of ts) ≤ d) × AreDistinct (trees_of ts)

  abbrev pub Itemed : List ℕ → Tree × Next → Type 0
  Itemed bs s = (rest : List ℕ) × Valued n d bs (s.0, rest) × NextIs 93 rest s.1

  pub item_holds : (bs : List ℕ) → IfOk (item n (inner bs)) (Itemed bs)
  item_holds bs = ok_then (Valued n d bs) (Itemed bs) (inner bs) (λ v. with_next v.0 (next n 93 v.1)) (holds bs) (λ v h. go v h (next n 93 v.1) (next_is n 93 v.1))
    where
      go : (v : Tree × List ℕ) → Valued n d bs v → (r : Result Next JsonFault) → IfOk r (NextIs 93 v.1) → IfOk (with_next v.0 r) (Itemed bs)
      go v h (Ok s) k = (v.1, h, k)
      go v h (Err e) k = tt

  list_more : (before : List Tree) (bs : List ℕ) (t : Tree) (behind rest : List ℕ) (p : List Tree × List ℕ) → Valued n d bs (t, behind) → NextIs 93 behind (more rest) → Listed (before ++ t ∷ []) rest p → Listed before bs p
  list_more before bs t behind rest p v k l =
      let P : List ℕ → Type 0 = λ z. Items n z (trees_of l.0) p.1 in
      (t ∷ l.0, l.1 ∙ append_assoc before (t ∷ []) l.0, one_item bs behind k.0 p.1 t (trees_of l.0) v.value k.1 (subst P k.2 l.2), (let a = v.shallow in let b = l.3 in omega (arith, a, b)), (v.distinct, l.4))

  list_done : (before : List Tree) (bs : List ℕ) (t : Tree) (behind rest : List ℕ) → Valued n d bs (t, behind) → NextIs 93 behind (done rest) → Listed before bs (before ++ t ∷ [], rest)
  list_done before bs t behind rest v k = (t ∷ [], refl, last_item bs behind rest t v.value k, (let a = v.shallow in omega (arith, a)), (v.distinct, tt))

  pub parts_hold : (before : List Tree) (f : ℕ) (bs : List ℕ) → IfOk (parts n (λ xs rest. item n (inner rest)) before f bs) (Listed before bs)
  unfolding parts
  parts_hold before zero bs = tt
  parts_hold before (suc f) bs =
      ok_then (Itemed bs) (Listed before bs) (item n (inner bs)) (λ s. with_part (λ xs rest. parts n (λ ys cs. item n (inner cs)) xs f rest) before s) (item_holds bs)
      (go (λ xs rest. parts_hold xs f rest))
    where
      go : ((xs : List Tree) (rest : List ℕ) → IfOk (parts n (λ ys cs. item n (inner cs)) xs f rest) (Listed xs rest)) → (s : Tree × Next) → Itemed bs s → IfOk (with_part (λ xs rest. parts n (λ ys cs. item n (inner cs)) xs f rest) before s) (Listed before bs)
      go others (t, done rest) h = list_done before bs t h.0 rest h.1 h.2
      go others (t, more rest) h =
          ok_map (Listed (before ++ t ∷ []) rest) (Listed before bs) (parts n (λ ys cs. item n (inner cs)) (before ++ t ∷ []) f rest) (others (before ++ t ∷ []) rest)
          (λ p l. list_more before bs t h.0 rest p h.1 h.2 l)

  -- members
  abbrev pub Paired : List (List ℕ × Tree) → List ℕ → List (List ℕ × Tree) × List ℕ → Type 0
  Paired before bs p = (ms : List (List ℕ × Tree)) × (p.0 ≡ before ++ ms) × Pairs n bs (members_of ms) p.1 × (members_depth (members_of ms) ≤ d) × AreDistinctMembers (members_of ms) × HasNewNames (names_of before) (members_of ms)

  abbrev pub Labelled : (List ℕ → Bool) → List ℕ → List ℕ × List ℕ → Type 0
  Labelled taken bs p = (inside colon start : List ℕ) × (bs ≡ 34 ∷ inside) × Text inside p.0 colon × (after_white colon ≡ 58 ∷ start) × (p.1 ≡ after_white start) × (taken p.0 ≡ false)

  abbrev pub NameIs : (List ℕ → Bool) → List ℕ → List ℕ × List ℕ → Type 0
  NameIs taken bs p = (inside : List ℕ) × (bs ≡ 34 ∷ inside) × Text inside p.0 p.1 × (taken p.0 ≡ false)

  abbrev hand : ℕ → List ℕ × List ℕ → Bool → Read (List ℕ)
  hand at r v = (if v then Err (Repeated at) else Ok r.0) >>= λ x. Ok (x, r.1)

  pub name_is : (taken : List ℕ → Bool) (bs : List ℕ) → IfOk (name n taken bs) (NameIs taken bs)
  name_is taken [] = tt
  name_is taken (b ∷ bs) =
      let Q : List ℕ × List ℕ → Type 0 = NameIs taken (b ∷ bs) in
      ok_if Q (b == 34) (quoted_name n (place n (b ∷ bs)) taken bs) (Err (Syntax (place n (b ∷ bs))))
      (λ e. ok_then _ Q (string n bs) (λ r. unlike (place n (b ∷ bs)) taken r.0 >>= λ x. Ok (x, r.1)) (text_read n [] (length bs + 1) bs) (λ r k. free e r k (taken r.0) refl))
      (λ e. tt)
    where
      free : (b == 34) ≡ true → (r : List ℕ × List ℕ) → (t : List ℕ) × (r.0 ≡ t) × Text bs t r.1 → (v : Bool) → taken r.0 ≡ v → IfOk (hand (place n (b ∷ bs)) r v) (NameIs taken (b ∷ bs))
      free e r k true j = tt
      free e r k false j = let P : List ℕ → Type 0 = λ z. Text bs z r.1 in (bs, ap (λ z. z ∷ bs) (byte_is b 34 e), subst P (sym k.1) k.2, j)

  pub label_is : (taken : List ℕ → Bool) (bs : List ℕ) → IfOk (label n taken bs) (Labelled taken bs)
  label_is taken bs =
      ok_then _ (Labelled taken bs) (name n taken bs) (λ x. colon n x.1 >>= λ c. Ok (x.0, c)) (name_is taken bs)
      (λ x k. ok_then _ (Labelled taken bs) (colon n x.1) (λ c. Ok (x.0, c)) (colon_front_is n (after_white x.1)) (λ c j. (k.0, x.1, j.0, k.1, k.2, j.1, j.2, k.3)))

  abbrev pub PairIs : (List ℕ → Bool) → List ℕ → (List ℕ × Tree) × Next → Type 0
  PairIs taken bs s = (start rest : List ℕ) × Labelled taken bs (s.0.0, start) × Valued n d start (s.0.1, rest) × NextIs 125 rest s.1

  pub pair_holds : (taken : List ℕ → Bool) (bs : List ℕ) → IfOk (pair n inner taken bs) (PairIs taken bs)
  pair_holds taken bs =
      ok_then (Labelled taken bs) (PairIs taken bs) (label n taken bs) (λ x. labelled n x.0 (inner x.1)) (label_is taken bs)
      (λ x k. ok_then (Valued n d x.1) (PairIs taken bs) (inner x.1) (λ v. with_next (x.0, v.0) (next n 125 v.1)) (holds x.1) (λ v h. go x k v h (next n 125 v.1) (next_is n 125 v.1)))
    where
      go : (x : List ℕ × List ℕ) → Labelled taken bs x → (v : Tree × List ℕ) → Valued n d x.1 v → (r : Result Next JsonFault) → IfOk r (NextIs 125 v.1) → IfOk (with_next (x.0, v.0) r) (PairIs taken bs)
      go x k v h (Ok s) j = (x.1, v.1, k, h, j)
      go x k v h (Err e) j = tt

  names_push : (ms : List (List ℕ × Tree)) (m : List ℕ × Tree) → names_of (ms ++ m ∷ []) ≡ names_of ms ++ m.0 ∷ []
  names_push [] m = refl
  names_push (k ∷ ms) m = ap (λ z. k.0 ∷ z) (names_push ms m)

  last_is : (bs x start behind rest : List ℕ) (taken : List ℕ → Bool) (t : Tree) → Labelled taken bs (x, start) → Value n start t behind → after_white behind ≡ 125 ∷ rest → Pairs n bs (member x t no_members) rest
  last_is bs x start behind rest taken t k v e =
      let P : List ℕ → Type 0 = λ z. Value n z t behind in
      let Q : List ℕ → Type 0 = λ z. Pairs n z (member x t no_members) rest in
      subst Q (sym k.3) (last_pair k.0 x k.1 k.2 behind rest t k.4 k.5 (subst P k.6 v) e)

  one_is : (bs x start behind cs rest : List ℕ) (taken : List ℕ → Bool) (t : Tree) (ms : Members) → Labelled taken bs (x, start) → Value n start t behind → after_white behind ≡ 44 ∷ cs → Pairs n (after_white cs) ms rest → Pairs n bs (member x t ms) rest
  one_is bs x start behind cs rest taken t ms k v e o =
      let P : List ℕ → Type 0 = λ z. Value n z t behind in
      let Q : List ℕ → Type 0 = λ z. Pairs n z (member x t ms) rest in
      subst Q (sym k.3) (one_pair k.0 x k.1 k.2 behind cs rest t ms k.4 k.5 (subst P k.6 v) e o)

  pairs_more : (before : List (List ℕ × Tree)) (bs x : List ℕ) (t : Tree) (rest : List ℕ) (p : List (List ℕ × Tree) × List ℕ) → PairIs (named (names_of before)) bs ((x, t), more rest) → Paired (before ++ (x, t) ∷ []) rest p → Paired before bs p
  pairs_more before bs x t rest p k l =
      let P : List ℕ → Type 0 = λ z. Pairs n z (members_of l.0) p.1 in
      let N : List (List ℕ) → Type 0 = λ z. HasNewNames z (members_of l.0) in (
        (x, t) ∷ l.0,
        l.1 ∙ append_assoc before ((x, t) ∷ []) l.0,
        one_is bs x k.0 k.1 k.4.0 p.1 (named (names_of before)) t (members_of l.0) k.2 k.3.value k.4.1 (subst P k.4.2 l.2),
        (let a = k.3.shallow in let b = l.3 in omega (arith, a, b)),
        (k.3.distinct, l.4),
        (k.2.7, subst N (names_push before (x, t)) l.5),
      )

  pairs_done : (before : List (List ℕ × Tree)) (bs x : List ℕ) (t : Tree) (rest : List ℕ) → PairIs (named (names_of before)) bs ((x, t), done rest) → Paired before bs (before ++ (x, t) ∷ [], rest)
  pairs_done before bs x t rest k =
      ((x, t) ∷ [], refl, last_is bs x k.0 k.1 rest (named (names_of before)) t k.2 k.3.value k.4, (let a = k.3.shallow in omega (arith, a)), (k.3.distinct, tt), (k.2.7, tt))

  pub pairs_hold : (before : List (List ℕ × Tree)) (f : ℕ) (bs : List ℕ) → IfOk (parts n (λ xs rest. pair n inner (named (names_of xs)) rest) before f bs) (Paired before bs)
  unfolding parts
  pairs_hold before zero bs = tt
  pairs_hold before (suc f) bs =
      ok_then (PairIs (named (names_of before)) bs) (Paired before bs) (pair n inner (named (names_of before)) bs) (λ s. with_part (λ xs rest. parts n (λ ys cs. pair n inner (named (names_of ys)) cs) xs f rest) before s) (pair_holds (named (names_of before)) bs)
      (go (λ xs rest. pairs_hold xs f rest))
    where
      go : ((xs : List (List ℕ × Tree)) (rest : List ℕ) → IfOk (parts n (λ ys cs. pair n inner (named (names_of ys)) cs) xs f rest) (Paired xs rest)) → (s : (List ℕ × Tree) × Next) → PairIs (named (names_of before)) bs s → IfOk (with_part (λ xs rest. parts n (λ ys cs. pair n inner (named (names_of ys)) cs) xs f rest) before s) (Paired before bs)
      go others (m, done rest) h = pairs_done before bs m.0 m.1 rest h
      go others (m, more rest) h =
          ok_map (Paired (before ++ m ∷ []) rest) (Paired before bs) (parts n (λ ys cs. pair n inner (named (names_of ys)) cs) (before ++ m ∷ []) f rest) (others (before ++ m ∷ []) rest)
          (λ p l. pairs_more before bs m.0 m.1 rest p h l)

  -- what a bracket holds
  list_formed : (b : ℕ) (bs : List ℕ) (r : Read (List Tree)) → (b == 91) ≡ true → IfOk r (Listed [] (after_white bs)) → IfOk (list_form r) (Formed n (suc d) (b ∷ bs))
  list_formed b bs (Ok p) e l =
      let P : List Tree → Type 0 = λ z. Formed n (suc d) (b ∷ bs) (list (trees_of z), p.1) in
      subst P (sym l.1) (record { shape = at (λ z. Shape n (z ∷ bs) (list (trees_of l.0)) p.1) b 91 e (some_list bs p.1 (trees_of l.0) l.2); shallow = (let h = l.3 in omega (arith, h)); distinct = l.4 })
  list_formed b bs (Err f) e l = tt

  object_formed : (b : ℕ) (bs : List ℕ) (r : Read (List (List ℕ × Tree))) → (b == 123) ≡ true → IfOk r (Paired [] (after_white bs)) → IfOk (object_form r) (Formed n (suc d) (b ∷ bs))
  object_formed b bs (Ok p) e l =
      let P : List (List ℕ × Tree) → Type 0 = λ z. Formed n (suc d) (b ∷ bs) (object (members_of z), p.1) in
      subst P (sym l.1) (record { shape = at (λ z. Shape n (z ∷ bs) (object (members_of l.0)) p.1) b 123 e (some_object bs p.1 (members_of l.0) l.2); shallow = (let h = l.3 in omega (arith, h)); distinct = (l.5, l.4) })
  object_formed b bs (Err f) e l = tt

  pub square_formed : (b : ℕ) (bs : List ℕ) → (b == 91) ≡ true → IfOk (inside n inner square bs) (Formed n (suc d) (b ∷ bs))
  square_formed b bs e = go (behind 93 (after_white bs)) refl
    where
      go : (o : Option (List ℕ)) → behind 93 (after_white bs) ≡ o → IfOk (list_from n inner (after_white bs) o) (Formed n (suc d) (b ∷ bs))
      go (Some rest) k = record { shape = at (λ z. Shape n (z ∷ bs) (list no_trees) rest) b 91 e (empty_list bs rest (behind_is 93 (after_white bs) rest k)); shallow = omega arith; distinct = tt }
      go None k = list_formed b bs (items n inner (after_white bs)) e (parts_hold [] (n + 1) (after_white bs))

  pub curly_formed : (b : ℕ) (bs : List ℕ) → (b == 123) ≡ true → IfOk (inside n inner curly bs) (Formed n (suc d) (b ∷ bs))
  curly_formed b bs e = go (behind 125 (after_white bs)) refl
    where
      go : (o : Option (List ℕ)) → behind 125 (after_white bs) ≡ o → IfOk (object_from n inner (after_white bs) o) (Formed n (suc d) (b ∷ bs))
      go (Some rest) k = record { shape = at (λ z. Shape n (z ∷ bs) (object no_members) rest) b 123 e (empty_object bs rest (behind_is 125 (after_white bs) rest k)); shallow = omega arith; distinct = (tt, tt) }
      go None k = object_formed b bs (pairs n inner (after_white bs)) e (pairs_hold [] (n + 1) (after_white bs))

spanned_valued : (n d : ℕ) (bs : List ℕ) (r : Read Form) → IfOk r (Formed n d bs) → IfOk (spanned n (place n bs) r) (Valued n d bs)
spanned_valued n d bs (Ok p) h = record { value = a_value bs p.1 p.0 h.shape; shallow = h.shallow; distinct = h.distinct }
spanned_valued n d bs (Err e) h = tt

abbrev Opened : ℕ → ℕ → ℕ → Type 0
Opened n d at = ((b : ℕ) (bs : List ℕ) → (b == 91) ≡ true → IfOk (opened n d at square bs) (Formed n d (b ∷ bs))) × ((b : ℕ) (bs : List ℕ) → (b == 123) ≡ true → IfOk (opened n d at curly bs) (Formed n d (b ∷ bs)))

form_read : (n d at : ℕ) → Opened n d at → (bs : List ℕ) → IfOk (form_at n (opened n d at) bs) (Formed n d bs)
form_read n d at h [] = tt
form_read n d at h (b ∷ bs) =
    ok_if (Formed n d (b ∷ bs)) (b == 91) (opened n d at square bs) (if b == 123 then opened n d at curly bs else scalar n (b ∷ bs)) (λ e. h.0 b bs e)
    (λ e. ok_if (Formed n d (b ∷ bs)) (b == 123) (opened n d at curly bs) (scalar n (b ∷ bs)) (λ k. h.1 b bs k) (λ k. scalar_formed n d (b ∷ bs)))

-- whatever is read is a value
pub value_read : (n d : ℕ) (bs : List ℕ) → IfOk (value n d bs) (Valued n d bs)
unfolding opened
value_read n zero bs = spanned_valued n zero bs (form_at n (opened n zero (place n bs)) bs) (form_read n zero (place n bs) (λ b cs e. tt, λ b cs e. tt) bs)
value_read n (suc d) bs =
    spanned_valued n (suc d) bs (form_at n (opened n (suc d) (place n bs)) bs)
    (form_read n (suc d) (place n bs)
    (λ b cs e. square_formed n d (value n d) (λ rest. value_read n d rest) b cs e, λ b cs e. curly_formed n d (value n d) (λ rest. value_read n d rest) b cs e)
    bs)

-- whatever is read is a text
pub record Texted (bs : List ℕ) (t : Tree) : Type 0 where
  pub text : IsText bs t
  pub shallow : depth t ≤ 64
  pub distinct : IsDistinct t

ended : (bs : List ℕ) (r : Tree × List ℕ) → Valued (length bs) 64 (after_white bs) r → (rest : List ℕ) → after_white r.1 ≡ rest → IfOk (end_at (length bs) r.0 rest) (Texted bs)
ended bs r v [] e = record { text = record { behind = r.1; value = v.value; ended = e }; shallow = v.shallow; distinct = v.distinct }
ended bs r v (b ∷ rest) e = tt

pub document_read : (bs : List ℕ) → IfOk (document bs) (Texted bs)
document_read bs =
    ok_then (Valued (length bs) 64 (after_white bs)) (Texted bs) (value (length bs) 64 (after_white bs)) (λ r. end_at (length bs) r.0 (after_white r.1)) (value_read (length bs) 64 (after_white bs))
    (λ r v. ended bs r v (after_white r.1) refl)
