-- What was read of a document before a fault can be completed.
use Rattle.std.proofs.Common.{◌≡◌, ℕ, zero, suc, ◌+◌, ◌-◌, ◌<◌, ◌≤◌, List, [], ◌∷◌, ◌++◌, length, take, Bool, true, false, Option, Some, None, refl, sym, ap, ◌∙◌, subst, arith}
use Rattle.std.specs.Prelude.{Ok, Err, Result, if◌then◌else◌, ◌==◌, IfOk}
use Rattle.std.specs.Str.{IsUtf8}
use Rattle.std.proofs.lemmas.Bool.Decides.{nat_tests}
use Rattle.json_subset.specs.declared.fault.JsonFault.{JsonFault}
use Rattle.json_subset.specs.declared.fault.JsonFault.TheVariants.{Depth, Repeated}
use Rattle.json_subset.specs.Tree.{Tree, node, Form, null, bool, number, text, list, object, Trees, no_trees, tree, Members, no_members, member, trees_of, members_of}
use Rattle.json_subset.specs.Numbers.{number_of}
use Rattle.json_subset.specs.Scan.{◌>>=◌, Read, place, is_white, after_white, behind, word, is_digit, Next, done, more, next_front, next, colon_front, colon}
use Rattle.json_subset.specs.Reading.{square, curly, word_form, number_form, text_form, scalar, spanned, with_next, with_part, parts, item, list_form, list_from, named, unlike, quoted_name, name, label, labelled, pair, names_of, object_form, object_from, inside, opened, value, end_at, document}
use Rattle.json_subset.specs.Grammar.{begins, Digits, last_digit, one_digit, zero_alone, not_from_zero, Numeral, positive, negative, Text, text_end, Value, a_value, Shape, the_null, the_true, the_false, some_number, some_text, empty_list, some_list, empty_object, some_object, Items, last_item, one_item, Pairs, last_pair, one_pair, IsText}
use Rattle.json_subset.proofs.Choices.{byte_is}
use Rattle.json_subset.proofs.Complete.{value_less, after_less}
use Rattle.json_subset.proofs.Endings.{ascii, ascii_utf8, Alive, read, ends, complete_here, complete_more, alive_then, alive_if, alive_more, alive_with, alive_as, alive_map, ends_here, ends_at_end, word_alive, number_alive}
use Rattle.json_subset.proofs.AliveTexts.{string_alive}
use Rattle.json_subset.proofs.Leads.{one, ◌then◌}
use Rattle.json_subset.proofs.Lexical.{text_read}
use Rattle.json_subset.proofs.Moved.{Calm, text_moved, white}
use Rattle.json_subset.proofs.MovedTrees.{value_moved, calm_comma, calm_square, calm_curly}
use Rattle.json_subset.proofs.Rests.{ahead_le, ahead_utf8, white_ahead, text_less}
use Rattle.json_subset.proofs.Ways.{Way, way_then, way_byte, way_white, byte_utf8, quote_utf8, value_way, comma_way, quote_way}
use Rattle.json_subset.proofs.Sound.{Valued, value_read, Itemed, item_holds, NameIs, name_is, Labelled, label_is, PairIs, pair_holds}

-- parts of some text of the grammar, whose places may be any
abbrev SomeForm : List ℕ → List ℕ → Type 0
SomeForm z r = (begins is_white z ≡ false) × ((m : ℕ) → (f : Form) × Shape m z f r)

abbrev SomeValue : List ℕ → List ℕ → Type 0
SomeValue z r = (begins is_white z ≡ false) × ((m : ℕ) → (t : Tree) × Value m z t r)

abbrev SomeItems : List ℕ → List ℕ → Type 0
SomeItems z r = (begins is_white z ≡ false) × ((m : ℕ) → (ts : Trees) × Items m z ts r)

abbrev SomePairs : List ℕ → List ℕ → Type 0
SomePairs z r = (begins is_white z ≡ false) × ((m : ℕ) → (ms : Members) × Pairs m z ms r)

-- the value of an object's last member, and the closing bracket
abbrev LastValue : List ℕ → List ℕ → Type 0
LastValue z r = (begins is_white z ≡ false) × ((m : ℕ) → (t : Tree) × (behind : List ℕ) × Value m z t behind × (after_white behind ≡ 125 ∷ r))

-- a closing bracket behind a value
record Closed (close : ℕ) (z r : List ℕ) : Type 0 where
  pub calm : Calm z
  pub met : after_white z ≡ close ∷ r

next_alive : (n close : ℕ) (bs : List ℕ) → ascii (close ∷ []) ≡ true → is_white close ≡ false → ((r : List ℕ) → Calm (close ∷ r)) → Alive n bs (Closed close) (next n close bs)
next_alive n close bs u e calm = alive_more (way_white bs) (go (after_white bs)) (λ z r k i. closed z r i)
  where
    go : (xs : List ℕ) → Alive n xs (λ z r. z ≡ close ∷ r) (next_front n close xs)
    go [] = ends_at_end n (close ∷ []) u (λ r k. refl)
    go (b ∷ xs) = alive_if (b == close) (λ i. read (done xs)) (λ i. alive_if (b == 44) (λ j. read (more (after_white xs))) (λ j. ends_here n (b ∷ xs) (close ∷ []) u (λ r k. refl)))

    closed : (z r : List ℕ) → z ≡ close ∷ r → Closed close ((white true bs).lead.put z) r
    closed z r i = subst (λ s. Closed close ((white true bs).lead.put s) r) (sym i) (record { calm = (white true bs).calm (close ∷ r) (calm r); met = (white true bs).back (close ∷ r) e })

-- the shortest value that can stand anywhere: an empty string
empty_value : (m : ℕ) (r : List ℕ) → (t : Tree) × Value m (34 ∷ 34 ∷ r) t r
empty_value m r = (node (m - length (34 ∷ 34 ∷ r)) (m - length r) (text []), a_value (34 ∷ 34 ∷ r) r (text []) (some_text (34 ∷ r) [] r (text_end r)))

-- parts are read in brackets that stand open
module _ (n d : ℕ) (inner : (bs : List ℕ) → length bs ≤ n → Alive n bs SomeValue (value n d bs)) where
  item_alive : (bs : List ℕ) → length bs ≤ n → Alive n bs SomeItems (item n (value n d bs))
  item_alive bs h =
      alive_then (Valued n d bs) (λ v. with_next v.0 (next n 93 v.1)) (value_read n d bs)
      (alive_with (93 ∷ []) refl (λ r k. calm_square r) (inner bs h) (λ z r k g. (g.0, λ m. (tree (g.1 m).0 no_trees, last_item z (93 ∷ r) r (g.1 m).0 (g.1 m).1 refl))))
      (λ v p. alive_map (λ s. (v.0, s)) (with_next v.0) (λ s. refl) (λ e. refl) (alive_more (value_way p.value) (next_alive n 93 v.1 refl refl calm_square) (closed v p)))
    where
      closed : (v : Tree × List ℕ) (p : Valued n d bs v) (z r : List ℕ) → Calm r → Closed 93 z r → SomeItems ((value_moved true p.value).lead.put z) r
      closed v p z r k g = let s = value_moved true p.value in
          (s.clean z, λ m. let q = s.moved m z g.calm in (tree q.0 no_trees, last_item (s.lead.put z) z r q.0 q.2 g.met))

  one_more : {bs later : List ℕ} {t : Tree} (v : Value n bs t later) (cs z r : List ℕ) → SomeItems z r → SomeItems ((value_moved true v).lead.put ((white true later).lead.put (44 ∷ (white true cs).lead.put z))) r
  one_more {bs = bs} {later = later} v cs z r g =
      let s = value_moved true v in
      let w = white true later in
      let x = white true cs in
      let a : List ℕ = x.lead.put z in
      let b : List ℕ = w.lead.put (44 ∷ a) in (
        s.clean b,
        λ m.
            let q = s.moved m b (w.calm (44 ∷ a) (calm_comma a)) in
            let i = g.1 m in
            (tree q.0 i.0, one_item (s.lead.put b) b a r q.0 i.0 q.2 (w.back (44 ∷ a) refl) (subst (λ y. Items m y i.0 r) (sym (x.back z g.0)) i.1)),
      )

  items_alive : (before : List Tree) (f : ℕ) (bs : List ℕ) → length bs ≤ n → Alive n bs SomeItems (parts n (λ xs cs. item n (value n d cs)) before f bs)
  unfolding parts
  items_alive before zero bs h = ends_here n bs (34 ∷ 34 ∷ 93 ∷ []) refl (λ r k. (refl, λ m. let v = empty_value m (93 ∷ r) in (tree v.0 no_trees, last_item (34 ∷ 34 ∷ 93 ∷ r) (93 ∷ r) r v.0 v.1 refl)))
  items_alive before (suc f) bs h =
      alive_then (Itemed n d (value n d) (value_read n d) bs) (with_part (λ xs rest. parts n (λ ys cs. item n (value n d cs)) xs f rest) before) (item_holds n d (value n d) (value_read n d) bs) (item_alive bs h) (go (λ xs rest i. items_alive xs f rest i))
    where
      go : ((xs : List Tree) (rest : List ℕ) → length rest ≤ n → Alive n rest SomeItems (parts n (λ ys cs. item n (value n d cs)) xs f rest)) → (s : Tree × Next) → Itemed n d (value n d) (value_read n d) bs s → Alive n bs SomeItems (with_part (λ xs rest. parts n (λ ys cs. item n (value n d cs)) xs f rest) before s)
      go others (t, done rest) k = read (before ++ t ∷ [], rest)
      go others (t, more rest) k =
          let v = k.1.value in
          let i : length rest ≤ n = (let e = ap length k.2.2 in omega (arith, h, e, value_less v, after_less k.0 k.2.0 [] 44 k.2.1, ahead_le (white_ahead k.2.0))) in
          alive_more (way_then (value_way v) (comma_way k.2.1 k.2.2)) (others (before ++ t ∷ []) rest i) (λ z r c g. one_more v k.2.0 z r g)

  -- members
  value_closed : (bs : List ℕ) → length bs ≤ n → Alive n bs LastValue (value n d bs)
  value_closed bs h = alive_with (125 ∷ []) refl (λ r k. calm_curly r) (inner bs h) (λ z r k g. (g.0, λ m. ((g.1 m).0, 125 ∷ r, (g.1 m).1, refl)))

  member_alive : (x bs : List ℕ) → length bs ≤ n → Alive n bs LastValue (labelled n x (value n d bs))
  member_alive x bs h =
      alive_then (Valued n d bs) (λ v. with_next (x, v.0) (next n 125 v.1)) (value_read n d bs) (value_closed bs h)
      (λ v p. alive_map (λ s. ((x, v.0), s)) (with_next (x, v.0)) (λ s. refl) (λ e. refl) (alive_more (value_way p.value) (next_alive n 125 v.1 refl refl calm_curly) (closed v p)))
    where
      closed : (v : Tree × List ℕ) (p : Valued n d bs v) (z r : List ℕ) → Calm r → Closed 125 z r → LastValue ((value_moved true p.value).lead.put z) r
      closed v p z r k g = let s = value_moved true p.value in (s.clean z, λ m. let q = s.moved m z g.calm in (q.0, z, q.2, g.met))

  last_value : (r : List ℕ) → LastValue (34 ∷ 34 ∷ 125 ∷ r) r
  last_value r = (refl, λ m. let v = empty_value m (125 ∷ r) in (v.0, 125 ∷ r, v.1, refl))

  -- a name, a colon and the last value
  closed_pairs : {bs x mark : List ℕ} (start z r : List ℕ) → Text bs x mark → after_white mark ≡ 58 ∷ start → after_white start ≡ z → LastValue z r → SomePairs (34 ∷ bs) r
  closed_pairs {bs = bs} {x = x} {mark = mark} start z r d e j g = (
    refl,
    λ m.
        let q = g.1 m in
        (member x q.0 no_members, last_pair bs x mark start q.1 r q.0 d e (subst (λ y. Value m y q.0 q.1) (sym j) q.2) q.3),
  )

  -- a name, and the shortest ending
  named_pairs : {bs x rest : List ℕ} (d : Text bs x rest) (r : List ℕ) → SomePairs (34 ∷ (text_moved d).lead.put (58 ∷ 34 ∷ 34 ∷ 125 ∷ r)) r
  named_pairs d r = closed_pairs (34 ∷ 34 ∷ 125 ∷ r) (34 ∷ 34 ∷ 125 ∷ r) r ((text_moved d).moved (58 ∷ 34 ∷ 34 ∷ 125 ∷ r)) refl refl (last_value r)

  quoted_alive : (taken : List ℕ → Bool) (bs : List ℕ) → suc (length bs) ≤ n → Alive n (34 ∷ bs) SomePairs (quoted_name n (place n (34 ∷ bs)) taken bs)
  quoted_alive taken bs h =
      alive_then (λ p. (t : List ℕ) × (p.0 ≡ t) × Text bs t p.1) (λ r. unlike (place n (34 ∷ bs)) taken r.0 >>= λ x. Ok (x, r.1)) (text_read n [] (length bs + 1) bs)
      (alive_more (way_byte 34 bs (omega arith)) (alive_with (58 ∷ 34 ∷ 34 ∷ 125 ∷ []) refl (λ r k. record { digit = refl; point = refl; e = refl }) (string_alive n bs) (λ z r k g. closed_pairs (34 ∷ 34 ∷ 125 ∷ r) (34 ∷ 34 ∷ 125 ∷ r) r g.1 refl refl (last_value r))) (λ z r k g. g))
      (λ p k. go p k.0 k.2 (taken p.0))
    where
      go : (p : List ℕ × List ℕ) (t : List ℕ) → Text bs t p.1 → (v : Bool) → Alive n (34 ∷ bs) SomePairs {X = List ℕ × List ℕ} ((if v then Err (Repeated (place n (34 ∷ bs))) else Ok p.0) >>= λ x. Ok (x, p.1))
      go p t d true = ends (Repeated (place n (34 ∷ bs))) (complete_more (quote_way d) (complete_here {G = λ z r. z ≡ 58 ∷ 34 ∷ 34 ∷ 125 ∷ r} n p.1 (Repeated (place n (34 ∷ bs))) (58 ∷ 34 ∷ 34 ∷ 125 ∷ []) (let l = text_less d in omega (arith, l, h)) (ascii_utf8 (58 ∷ 34 ∷ 34 ∷ 125 ∷ []) refl) (λ r k. refl)) (λ z r k e. subst (λ y. SomePairs (34 ∷ (text_moved d).lead.put y) r) (sym e) (named_pairs d r)))
      go p t d false = read (p.0, p.1)

  name_alive : (taken : List ℕ → Bool) (bs : List ℕ) → length bs ≤ n → Alive n bs SomePairs (name n taken bs)
  name_alive taken [] h = ends_at_end n (34 ∷ 34 ∷ 58 ∷ 34 ∷ 34 ∷ 125 ∷ []) refl (λ r k. closed_pairs (34 ∷ 34 ∷ 125 ∷ r) (34 ∷ 34 ∷ 125 ∷ r) r (text_end (58 ∷ 34 ∷ 34 ∷ 125 ∷ r)) refl refl (last_value r))
  name_alive taken (b ∷ bs) h =
      alive_if (b == 34)
      (λ e. subst (λ c. Alive n (c ∷ bs) SomePairs (quoted_name n (place n (c ∷ bs)) taken bs)) (sym (byte_is b 34 e)) (quoted_alive taken bs h))
      (λ e. ends_here n (b ∷ bs) (34 ∷ 34 ∷ 58 ∷ 34 ∷ 34 ∷ 125 ∷ []) refl (λ r k. closed_pairs (34 ∷ 34 ∷ 125 ∷ r) (34 ∷ 34 ∷ 125 ∷ r) r (text_end (58 ∷ 34 ∷ 34 ∷ 125 ∷ r)) refl refl (last_value r)))

  colon_alive : (bs : List ℕ) → Alive n bs (λ z r. (start : List ℕ) × (after_white z ≡ 58 ∷ start) × LastValue (after_white start) r) (colon n bs)
  colon_alive bs = alive_more (way_white bs) (go (after_white bs)) (λ z r k e. (34 ∷ 34 ∷ 125 ∷ r, ap (λ y. after_white ((white true bs).lead.put y)) e ∙ (white true bs).back (58 ∷ 34 ∷ 34 ∷ 125 ∷ r) refl, last_value r))
    where
      go : (xs : List ℕ) → Alive n xs (λ z r. z ≡ 58 ∷ 34 ∷ 34 ∷ 125 ∷ r) (colon_front n xs)
      go [] = ends_at_end n (58 ∷ 34 ∷ 34 ∷ 125 ∷ []) refl (λ r k. refl)
      go (b ∷ xs) = alive_if (b == 58) (λ i. read (after_white xs)) (λ i. ends_here n (b ∷ xs) (58 ∷ 34 ∷ 34 ∷ 125 ∷ []) refl (λ r k. refl))

  abbrev name_way : (taken : List ℕ → Bool) (bs : List ℕ) (p : List ℕ × List ℕ) → NameIs n d (value n d) (value_read n d) taken bs p → Way bs p.1
  name_way taken bs p k = record { lead = one 34 then (text_moved k.2).lead; joined = k.1 ∙ ap (λ z. 34 ∷ z) (text_moved k.2).joined; utf8 = λ u. quote_utf8 k.2 (subst IsUtf8 k.1 u) }

  label_alive : (taken : List ℕ → Bool) (bs : List ℕ) → length bs ≤ n → Alive n bs SomePairs (label n taken bs)
  label_alive taken bs h =
      alive_then (NameIs n d (value n d) (value_read n d) taken bs) (λ x. colon n x.1 >>= λ c. Ok (x.0, c)) (name_is n d (value n d) (value_read n d) taken bs) (name_alive taken bs h)
      (λ x k. alive_then (λ c. Unit {0}) (λ c. Ok (x.0, c)) (anything (colon n x.1))
      (alive_more (name_way taken bs x k) (colon_alive x.1) (λ z r c g. closed_pairs g.0 (after_white g.0) r ((text_moved k.2).moved z) g.1 refl g.2))
      (λ c i. read (x.0, c)))
    where
      anything : {A : Type 0} (r : Result A JsonFault) → IfOk r (λ x. Unit {0})
      anything (Ok x) = tt
      anything (Err e) = tt

  abbrev label_way : (taken : List ℕ → Bool) (bs : List ℕ) (p : List ℕ × List ℕ) → Labelled n d (value n d) (value_read n d) taken bs p → Way bs p.1
  label_way taken bs p k = record {
    lead = one 34 then (text_moved k.4).lead then (white true k.1).lead then one 58 then (white true k.2).lead;
    joined = k.3 ∙ ap (λ z. 34 ∷ z) ((text_moved k.4).joined ∙ ap (text_moved k.4).lead.put ((white true k.1).cut ∙ ap (white true k.1).lead.put (k.5 ∙ ap (λ z. 58 ∷ z) ((white true k.2).cut ∙ ap (white true k.2).lead.put (sym k.6)))));
    utf8 = λ u. subst IsUtf8 (sym k.6) (ahead_utf8 (white_ahead k.2) (byte_utf8 58 k.1 k.2 (omega arith) k.5 (quote_utf8 k.4 (subst IsUtf8 k.3 u))));
  }

  -- a label stands before another value, too
  label_pairs : (taken : List ℕ → Bool) (bs : List ℕ) (p : List ℕ × List ℕ) (k : Labelled n d (value n d) (value_read n d) taken bs p) (z r : List ℕ) → LastValue z r → SomePairs ((label_way taken bs p k).lead.put z) r
  label_pairs taken bs p k z r g =
      let a = text_moved k.4 in
      let b = white true k.1 in
      let w = white true k.2 in
      closed_pairs (w.lead.put z) z r (a.moved (b.lead.put (58 ∷ w.lead.put z))) (b.back (58 ∷ w.lead.put z) refl) (w.back z g.0) g

  label_less : (taken : List ℕ → Bool) (bs : List ℕ) (p : List ℕ × List ℕ) → Labelled n d (value n d) (value_read n d) taken bs p → length p.1 < length bs
  label_less taken bs p k = let i = ap length k.3 in let j = ap length k.6 in omega (arith, i, j, text_less k.4, after_less k.1 k.2 [] 58 k.5, ahead_le (white_ahead k.2))

  pair_alive : (taken : List ℕ → Bool) (bs : List ℕ) → length bs ≤ n → Alive n bs SomePairs (pair n (value n d) taken bs)
  pair_alive taken bs h =
      alive_then (Labelled n d (value n d) (value_read n d) taken bs) (λ x. labelled n x.0 (value n d x.1)) (label_is n d (value n d) (value_read n d) taken bs) (label_alive taken bs h)
      (λ x k. alive_more (label_way taken bs x k) (member_alive x.0 x.1 (omega (arith, h, label_less taken bs x k))) (λ z r c g. label_pairs taken bs x k z r g))

  more_pairs : (taken : List ℕ → Bool) (bs : List ℕ) (p : List ℕ × List ℕ) (k : Labelled n d (value n d) (value_read n d) taken bs p) {t : Tree} {later : List ℕ} (v : Value n p.1 t later) (cs z r : List ℕ) → SomePairs z r → SomePairs ((label_way taken bs p k).lead.put ((value_moved true v).lead.put ((white true later).lead.put (44 ∷ (white true cs).lead.put z)))) r
  more_pairs taken bs p k {later = later} v cs z r g =
      let a = text_moved k.4 in
      let b = white true k.1 in
      let w = white true k.2 in
      let s = value_moved true v in
      let y = white true later in
      let x = white true cs in
      let l : List ℕ = x.lead.put z in
      let i : List ℕ = y.lead.put (44 ∷ l) in (
        refl,
        λ m.
            let q = s.moved m i (y.calm (44 ∷ l) (calm_comma l)) in
            let f = g.1 m in
            (member p.0 q.0 f.0, one_pair (a.lead.put (b.lead.put (58 ∷ w.lead.put (s.lead.put i)))) p.0 (b.lead.put (58 ∷ w.lead.put (s.lead.put i))) (w.lead.put (s.lead.put i)) i l r q.0 f.0 (a.moved (b.lead.put (58 ∷ w.lead.put (s.lead.put i)))) (b.back (58 ∷ w.lead.put (s.lead.put i)) refl) (subst (λ z. Value m z q.0 i) (sym (w.back (s.lead.put i) (s.clean i))) q.2) (y.back (44 ∷ l) refl) (subst (λ y. Pairs m y f.0 r) (sym (x.back z g.0)) f.1)),
      )

  pairs_alive : (before : List (List ℕ × Tree)) (f : ℕ) (bs : List ℕ) → length bs ≤ n → Alive n bs SomePairs (parts n (λ xs cs. pair n (value n d) (named (names_of xs)) cs) before f bs)
  unfolding parts
  pairs_alive before zero bs h = ends_here n bs (34 ∷ 34 ∷ 58 ∷ 34 ∷ 34 ∷ 125 ∷ []) refl (λ r k. closed_pairs (34 ∷ 34 ∷ 125 ∷ r) (34 ∷ 34 ∷ 125 ∷ r) r (text_end (58 ∷ 34 ∷ 34 ∷ 125 ∷ r)) refl refl (last_value r))
  pairs_alive before (suc f) bs h =
      alive_then (PairIs n d (value n d) (value_read n d) (named (names_of before)) bs) (with_part (λ xs rest. parts n (λ ys cs. pair n (value n d) (named (names_of ys)) cs) xs f rest) before) (pair_holds n d (value n d) (value_read n d) (named (names_of before)) bs) (pair_alive (named (names_of before)) bs h) (go (λ xs rest i. pairs_alive xs f rest i))
    where
      go : ((xs : List (List ℕ × Tree)) (rest : List ℕ) → length rest ≤ n → Alive n rest SomePairs (parts n (λ ys cs. pair n (value n d) (named (names_of ys)) cs) xs f rest)) → (s : (List ℕ × Tree) × Next) → PairIs n d (value n d) (value_read n d) (named (names_of before)) bs s → Alive n bs SomePairs (with_part (λ xs rest. parts n (λ ys cs. pair n (value n d) (named (names_of ys)) cs) xs f rest) before s)
      go others (m, done rest) k = read (before ++ m ∷ [], rest)
      go others (m, more rest) k =
          let v = k.3.value in
          let i : length rest ≤ n = (let e = ap length k.4.2 in omega (arith, h, e, label_less (named (names_of before)) bs (m.0, k.0) k.2, value_less v, after_less k.1 k.4.0 [] 44 k.4.1, ahead_le (white_ahead k.4.0))) in
          alive_more (way_then (label_way (named (names_of before)) bs (m.0, k.0) k.2) (way_then (value_way v) (comma_way k.4.1 k.4.2))) (others (before ++ m ∷ []) rest i) (λ z r c g. more_pairs (named (names_of before)) bs (m.0, k.0) k.2 v k.4.0 z r g)

  -- what a bracket opens
  square_alive : (bs : List ℕ) → suc (length bs) ≤ n → Alive n (91 ∷ bs) SomeForm (inside n (value n d) square bs)
  square_alive bs h = alive_more (way_then (way_byte 91 bs (omega arith)) (way_white bs)) (go (behind 93 (after_white bs))) (λ z r k g. (refl, λ m. let q = g.1 m in (list q.0, some_list ((white true bs).lead.put z) r q.0 (subst (λ y. Items m y q.0 r) (sym ((white true bs).back z g.0)) q.1))))
    where
      go : (o : Option (List ℕ)) → Alive n (after_white bs) SomeItems (list_from n (value n d) (after_white bs) o)
      go (Some rest) = read (list (trees_of []), rest)
      go None = alive_map (λ r. (list (trees_of r.0), r.1)) list_form (λ x. refl) (λ e. refl) (items_alive [] (n + 1) (after_white bs) (omega (arith, h, ahead_le (white_ahead bs))))

  curly_alive : (bs : List ℕ) → suc (length bs) ≤ n → Alive n (123 ∷ bs) SomeForm (inside n (value n d) curly bs)
  curly_alive bs h = alive_more (way_then (way_byte 123 bs (omega arith)) (way_white bs)) (go (behind 125 (after_white bs))) (λ z r k g. (refl, λ m. let q = g.1 m in (object q.0, some_object ((white true bs).lead.put z) r q.0 (subst (λ y. Pairs m y q.0 r) (sym ((white true bs).back z g.0)) q.1))))
    where
      go : (o : Option (List ℕ)) → Alive n (after_white bs) SomePairs (object_from n (value n d) (after_white bs) o)
      go (Some rest) = read (object (members_of []), rest)
      go None = alive_map (λ r. (object (members_of r.0), r.1)) object_form (λ x. refl) (λ e. refl) (pairs_alive [] (n + 1) (after_white bs) (omega (arith, h, ahead_le (white_ahead bs))))

-- a bracket at level 65 is still alive
square_deep : {X : Type 0} (n : ℕ) (bs : List ℕ) → suc (length bs) ≤ n → Alive n (91 ∷ bs) SomeForm {X = X} (Err (Depth (place n (91 ∷ bs))))
square_deep n bs h = ends (Depth (place n (91 ∷ bs))) (complete_more (way_byte 91 bs (omega arith)) (complete_here {G = λ z r. z ≡ 93 ∷ r} n bs (Depth (place n (91 ∷ bs))) (93 ∷ []) (omega (arith, h)) (ascii_utf8 (93 ∷ []) refl) (λ r k. refl)) (λ z r k e. subst (λ y. SomeForm (91 ∷ y) r) (sym e) (refl, λ m. (list no_trees, empty_list (93 ∷ r) r refl))))

curly_deep : {X : Type 0} (n : ℕ) (bs : List ℕ) → suc (length bs) ≤ n → Alive n (123 ∷ bs) SomeForm {X = X} (Err (Depth (place n (123 ∷ bs))))
curly_deep n bs h = ends (Depth (place n (123 ∷ bs))) (complete_more (way_byte 123 bs (omega arith)) (complete_here {G = λ z r. z ≡ 125 ∷ r} n bs (Depth (place n (123 ∷ bs))) (125 ∷ []) (omega (arith, h)) (ascii_utf8 (125 ∷ []) refl) (λ r k. refl)) (λ z r k e. subst (λ y. SomeForm (123 ∷ y) r) (sym e) (refl, λ m. (object no_members, empty_object (125 ∷ r) r refl))))

-- the other forms
digit_clean : (b : ℕ) → is_digit b ≡ true → is_white b ≡ false
digit_clean b h = grind (arith, nat_tests)

digits_clean : {z r : List ℕ} → Digits z r → begins is_white z ≡ false
digits_clean (last_digit b rest h k) = digit_clean b h
digits_clean (one_digit b bs rest h d) = digit_clean b h

number_clean : {z r : List ℕ} → Numeral z r → begins is_white z ≡ false
number_clean (positive bs w f rest (zero_alone z) b c) = refl
number_clean (positive bs w f rest (not_from_zero x xs z h a) b c) = digits_clean a
number_clean (negative bs w f rest a b c) = refl

words_alive : (n c : ℕ) (w bs : List ℕ) (f : Form) → ascii w ≡ true → c < 128 → is_white c ≡ false → ((m : ℕ) (r : List ℕ) → Shape m (c ∷ (w ++ r)) f r) → Alive n (c ∷ bs) SomeForm (word_form f (word n w bs))
words_alive n c w bs f u h e shape = alive_map (λ r. (f, r)) (word_form f) (λ x. refl) (λ e. refl) (alive_more (way_byte c bs h) (word_alive n w bs u) (λ z r k i. subst (λ y. SomeForm (c ∷ y) r) (sym i) (e, λ m. (f, shape m r))))

at_byte : (n b c : ℕ) (bs : List ℕ) {X : Type 0} {r : Result X JsonFault} → (b == c) ≡ true → Alive n (c ∷ bs) SomeForm r → Alive n (b ∷ bs) SomeForm r
at_byte n b c bs {r = r} e a = subst (λ y. Alive n (y ∷ bs) SomeForm r) (sym (byte_is b c e)) a

scalar_alive : (n b : ℕ) (bs : List ℕ) → Alive n (b ∷ bs) SomeForm (scalar n (b ∷ bs))
scalar_alive n b bs =
    alive_if (b == 34) (λ e. at_byte n b 34 bs e (alive_map (λ r. (text r.0, r.1)) text_form (λ x. refl) (λ e. refl) (alive_more (way_byte 34 bs (omega arith)) (string_alive n bs) (λ z r k g. (refl, λ m. (text g.0, some_text z g.0 r g.1))))))
    (λ e. alive_if (b == 110) (λ i. at_byte n b 110 bs i (words_alive n 110 (117 ∷ 108 ∷ 108 ∷ []) bs null refl (omega arith) refl (λ m r. the_null r)))
    (λ i. alive_if (b == 116) (λ j. at_byte n b 116 bs j (words_alive n 116 (114 ∷ 117 ∷ 101 ∷ []) bs (bool true) refl (omega arith) refl (λ m r. the_true r)))
    (λ j. alive_if (b == 102) (λ k. at_byte n b 102 bs k (words_alive n 102 (97 ∷ 108 ∷ 115 ∷ 101 ∷ []) bs (bool false) refl (omega arith) refl (λ m r. the_false r)))
    (λ k. alive_map (λ rest. (number (number_of (take (length (b ∷ bs) - length rest) (b ∷ bs))) (take (length (b ∷ bs) - length rest) (b ∷ bs)), rest)) (number_form (b ∷ bs)) (λ x. refl) (λ e. refl)
    (alive_as (number_alive n (b ∷ bs)) (λ z r c g. (number_clean g, λ m. (number (number_of (take (length z - length r) z)) (take (length z - length r) z), some_number z r g))))))))

value_of : (n at : ℕ) (bs : List ℕ) {r : Read Form} → Alive n bs SomeForm r → Alive n bs SomeValue (spanned n at r)
value_of n at bs a =
    alive_map (λ r. (node at (place n r.1) r.0, r.1)) (spanned n at) (λ x. refl) (λ e. refl)
    (alive_as a (λ z r k g. (g.0, λ m. let q = g.1 m in (node (m - length z) (m - length r) q.0, a_value z r q.0 q.1))))

value_alive : (n d : ℕ) (bs : List ℕ) → length bs ≤ n → Alive n bs SomeValue (value n d bs)
unfolding opened
value_alive n d [] h = ends_at_end n (34 ∷ 34 ∷ []) refl (λ r k. (refl, λ m. empty_value m r))
value_alive n zero (b ∷ bs) h =
    value_of n (place n (b ∷ bs)) (b ∷ bs)
    (alive_if (b == 91) (λ e. subst (λ y. Alive n (y ∷ bs) SomeForm {X = Form × List ℕ} (Err (Depth (place n (y ∷ bs))))) (sym (byte_is b 91 e)) (square_deep n bs h))
    (λ e. alive_if (b == 123) (λ i. subst (λ y. Alive n (y ∷ bs) SomeForm {X = Form × List ℕ} (Err (Depth (place n (y ∷ bs))))) (sym (byte_is b 123 i)) (curly_deep n bs h)) (λ i. scalar_alive n b bs)))
value_alive n (suc d) (b ∷ bs) h =
    value_of n (place n (b ∷ bs)) (b ∷ bs)
    (alive_if (b == 91) (λ e. at_byte n b 91 bs e (square_alive n d (λ xs i. value_alive n d xs i) bs h))
    (λ e. alive_if (b == 123) (λ i. at_byte n b 123 bs i (curly_alive n d (λ xs j. value_alive n d xs j) bs h)) (λ i. scalar_alive n b bs)))

-- a whole text, where nothing follows
abbrev pub SomeDocument : List ℕ → List ℕ → Type 0
SomeDocument z r = r ≡ [] → (t : Tree) × IsText z t

calm_nothing : (r : List ℕ) → r ≡ [] → Calm r
calm_nothing r e = subst (λ y. Calm y) (sym e) (record { digit = refl; point = refl; e = refl })

pub document_alive : (bs : List ℕ) → Alive (length bs) bs SomeDocument (document bs)
document_alive bs =
    let n : ℕ = length bs in
    alive_then (Valued n 64 (after_white bs)) (λ r. end_at n r.0 (after_white r.1)) (value_read n 64 (after_white bs))
    (alive_more (way_white bs) (value_alive n 64 (after_white bs) (ahead_le (white_ahead bs))) (λ z r k g e. whole z r g e))
    (λ v p. alive_more (way_then (way_white bs) (way_then (value_way p.value) (way_white v.1))) (ending n v.0 (after_white v.1)) (λ z r k g e. behind_value v p z r g e))
  where
    whole : (z r : List ℕ) → SomeValue z r → r ≡ [] → (t : Tree) × IsText ((white true bs).lead.put z) t
    whole z r g e =
        let w = white true bs in
        let q = g.1 (length (w.lead.put z)) in
        (q.0, record { behind = r; value = subst (λ y. Value (length (w.lead.put z)) y q.0 r) (sym (w.back z g.0)) q.1; ended = ap after_white e })

    ending : (n : ℕ) (t : Tree) (xs : List ℕ) → Alive n xs (λ z r. z ≡ r) (end_at n t xs)
    ending n t [] = read t
    ending n t (b ∷ xs) = ends_here n (b ∷ xs) [] refl (λ r k. refl)

    behind_value : (v : Tree × List ℕ) (p : Valued (length bs) 64 (after_white bs) v) (z r : List ℕ) → z ≡ r → r ≡ [] → (t : Tree) × IsText ((white true bs).lead.put ((value_moved true p.value).lead.put ((white true v.1).lead.put z))) t
    behind_value v p z r i e =
        let w = white true bs in
        let s = value_moved true p.value in
        let x = white true v.1 in
        let a : List ℕ = x.lead.put z in
        let j : z ≡ [] = i ∙ e in
        let q = s.moved (length (w.lead.put (s.lead.put a))) a (x.calm z (calm_nothing z j)) in
        (q.0, record { behind = a; value = subst (λ y. Value (length (w.lead.put (s.lead.put a))) y q.0 a) (sym (w.back (s.lead.put a) (s.clean a))) q.2; ended = ap (λ y. after_white (x.lead.put y)) j ∙ x.back [] refl })
