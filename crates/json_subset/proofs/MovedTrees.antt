-- A value stands also before another rest, with its white space or without, and its tree is the same but for places.
use Rattle.std.proofs.Common.{◌≡◌, ℕ, ◌-◌, ◌<◌, List, [], ◌∷◌, ◌++◌, length, take, Bool, true, false, refl, sym, ap, ◌∙◌, subst, arith, length-append}
use Rattle.std.specs.Prelude.{◌==◌}
use Rattle.std.proofs.Math.Seq.{take-append_seam}
use Rattle.json_subset.specs.Tree.{Tree, node, Form, null, bool, number, text, list, object, Trees, no_trees, tree, Members, no_members, member}
use Rattle.json_subset.specs.Bare.{bare, bare_form, bare_trees, bare_members}
use Rattle.json_subset.specs.Scan.{is_white, after_white}
use Rattle.json_subset.specs.Numbers.{number_of}
use Rattle.json_subset.specs.Compact.{outside, compact_from}
use Rattle.json_subset.specs.Grammar.{begins, Numeral, Text, Value, a_value, Shape, the_null, the_true, the_false, some_number, some_text, empty_list, some_list, empty_object, some_object, Items, last_item, one_item, Pairs, last_pair, one_pair}
use Rattle.json_subset.proofs.Rests.{number_less}
use Rattle.json_subset.proofs.Leads.{Lead, one, ◌then◌, put_front}
use Rattle.json_subset.proofs.Moved.{seen, seen_byte, AllSolid, seen_solid, Calm, Inner, number_moved, text_moved, White, white}

-- what stands before the rest, and of what grammar it is before another
pub record Stands (m : Bool) (G : ℕ → List ℕ → List ℕ → Type 0) (bs rest : List ℕ) : Type 0 where
  pub lead : Lead
  pub cut : seen m bs ≡ lead.put (seen m rest)
  pub clean : (x : List ℕ) → begins is_white (lead.put x) ≡ false
  pub moved : (k : ℕ) (r : List ℕ) → Calm r → G k (lead.put r) r

abbrev pub SameValue : Tree → ℕ → List ℕ → List ℕ → Type 0
SameValue t k bs rest = (u : Tree) × (bare u ≡ bare t) × Value k bs u rest

abbrev pub SameShape : Form → ℕ → List ℕ → List ℕ → Type 0
SameShape f k bs rest = (u : Form) × (bare_form u ≡ bare_form f) × Shape k bs u rest

abbrev pub SameItems : Trees → ℕ → List ℕ → List ℕ → Type 0
SameItems ts k bs rest = (us : Trees) × (bare_trees us ≡ bare_trees ts) × Items k bs us rest

abbrev pub SamePairs : Members → ℕ → List ℕ → List ℕ → Type 0
SamePairs ms k bs rest = (us : Members) × (bare_members us ≡ bare_members ms) × Pairs k bs us rest

-- a comma or a closing bracket
pub calm_comma : (r : List ℕ) → Calm (44 ∷ r)
calm_comma r = record { digit = refl; point = refl; e = refl }

pub calm_square : (r : List ℕ) → Calm (93 ∷ r)
calm_square r = record { digit = refl; point = refl; e = refl }

pub calm_curly : (r : List ℕ) → Calm (125 ∷ r)
calm_curly r = record { digit = refl; point = refl; e = refl }

-- white space, then this byte
byte_cut : (m : Bool) (b : ℕ) (bs rest : List ℕ) (w : White m bs) → (is_white b ≡ false) × ((b == 34) ≡ false) → after_white bs ≡ b ∷ rest → seen m bs ≡ w.lead.put (b ∷ seen m rest)
byte_cut m b bs rest w s e = w.cut ∙ ap (λ z. w.lead.put (seen m z)) e ∙ ap w.lead.put (seen_byte m b rest s)

text_cut : (m : Bool) {bs t rest : List ℕ} (p : Inner (λ z r. Text z t r) (compact_from outside) bs rest) → seen m (34 ∷ bs) ≡ 34 ∷ p.lead.put (seen m rest)
text_cut true p = ap (λ z. 34 ∷ z) p.joined
text_cut false p = ap (λ z. 34 ∷ z) p.kept

-- a number's source
source : (c r : List ℕ) → take (length (c ++ r) - length r) (c ++ r) ≡ c
source c r = (let e : length (c ++ r) - length r ≡ length c = simp length-append (omega arith) in ap (λ k. take k (c ++ r)) e) ∙ take-append_seam c r

number_same : (bs c rest r : List ℕ) → bs ≡ c ++ rest → take (length (c ++ r) - length r) (c ++ r) ≡ take (length bs - length rest) bs
number_same bs c rest r e = source c r ∙ sym (source c rest) ∙ ap (λ z. take (length z - length rest) z) (sym e)

solid_clean : (c : List ℕ) → AllSolid c → 0 < length c → (x : List ℕ) → begins is_white (c ++ x) ≡ false
solid_clean [] s h x = absurd (omega (arith, h))
solid_clean (b ∷ c) s h x = s.0.0

number_clean : {bs rest : List ℕ} (c : List ℕ) → Numeral bs rest → bs ≡ c ++ rest → 0 < length c
number_clean [] d e = (let k = ap length e in omega (arith, k, number_less d))
number_clean (b ∷ c) d e = omega arith

mutual
  pub value_moved : (m : Bool) {n : ℕ} {bs : List ℕ} {t : Tree} {rest : List ℕ} → Value n bs t rest → Stands m (SameValue t) bs rest
  value_moved m (a_value bs rest f s) = let p = shape_moved m s in
      record { lead = p.lead; cut = p.cut; clean = p.clean; moved = λ k r c. let q = p.moved k r c in (node (k - length (p.lead.put r)) (k - length r) q.0, ap (node 0 0) q.1, a_value (p.lead.put r) r q.0 q.2) }

  pub shape_moved : (m : Bool) {n : ℕ} {bs : List ℕ} {f : Form} {rest : List ℕ} → Shape n bs f rest → Stands m (SameShape f) bs rest
  shape_moved m (the_null rest) = record { lead = put_front (110 ∷ 117 ∷ 108 ∷ 108 ∷ []); cut = seen_solid m (110 ∷ 117 ∷ 108 ∷ 108 ∷ []) rest ((refl, refl), ((refl, refl), ((refl, refl), ((refl, refl), tt)))); clean = λ x. refl; moved = λ k r c. (null, refl, the_null r) }
  shape_moved m (the_true rest) = record { lead = put_front (116 ∷ 114 ∷ 117 ∷ 101 ∷ []); cut = seen_solid m (116 ∷ 114 ∷ 117 ∷ 101 ∷ []) rest ((refl, refl), ((refl, refl), ((refl, refl), ((refl, refl), tt)))); clean = λ x. refl; moved = λ k r c. (bool true, refl, the_true r) }
  shape_moved m (the_false rest) = record { lead = put_front (102 ∷ 97 ∷ 108 ∷ 115 ∷ 101 ∷ []); cut = seen_solid m (102 ∷ 97 ∷ 108 ∷ 115 ∷ 101 ∷ []) rest ((refl, refl), ((refl, refl), ((refl, refl), ((refl, refl), ((refl, refl), tt))))); clean = λ x. refl; moved = λ k r c. (bool false, refl, the_false r) }
  shape_moved m (some_number bs rest d) =
      let p = number_moved d in
      record {
        lead = put_front p.front;
        cut = ap (seen m) p.joined ∙ seen_solid m p.front rest p.solid;
        clean = solid_clean p.front p.solid (number_clean p.front d p.joined);
        moved = λ k r c. (number (number_of (take (length (p.front ++ r) - length r) (p.front ++ r))) (take (length (p.front ++ r) - length r) (p.front ++ r)), ap (λ z. number (number_of z) z) (number_same bs p.front rest r p.joined), some_number (p.front ++ r) r (p.moved r c));
      }
  shape_moved m (some_text bs t rest d) =
      let p = text_moved d in
      record { lead = one 34 then p.lead; cut = text_cut m p; clean = λ x. refl; moved = λ k r c. (text t, refl, some_text (p.lead.put r) t r (p.moved r)) }
  shape_moved m (empty_list bs rest e) =
      let w = white m bs in
      record {
        lead = one 91 then w.lead then one 93;
        cut = seen_byte m 91 bs (refl, refl) ∙ ap (λ z. 91 ∷ z) (byte_cut m 93 bs rest w (refl, refl) e);
        clean = λ x. refl;
        moved = λ k r c. (list no_trees, refl, empty_list (w.lead.put (93 ∷ r)) r (w.back (93 ∷ r) refl));
      }
  shape_moved m (some_list bs rest ts d) =
      let w = white m bs in
      let p = items_moved m d in
      record {
        lead = one 91 then w.lead then p.lead;
        cut = seen_byte m 91 bs (refl, refl) ∙ ap (λ z. 91 ∷ z) (w.cut ∙ ap w.lead.put p.cut);
        clean = λ x. refl;
        moved = λ k r c. let q = p.moved k r c in (list q.0, ap list q.1, some_list (w.lead.put (p.lead.put r)) r q.0 (subst (λ z. Items k z q.0 r) (sym (w.back (p.lead.put r) (p.clean r))) q.2));
      }
  shape_moved m (empty_object bs rest e) =
      let w = white m bs in
      record {
        lead = one 123 then w.lead then one 125;
        cut = seen_byte m 123 bs (refl, refl) ∙ ap (λ z. 123 ∷ z) (byte_cut m 125 bs rest w (refl, refl) e);
        clean = λ x. refl;
        moved = λ k r c. (object no_members, refl, empty_object (w.lead.put (125 ∷ r)) r (w.back (125 ∷ r) refl));
      }
  shape_moved m (some_object bs rest ms d) =
      let w = white m bs in
      let p = pairs_moved m d in
      record {
        lead = one 123 then w.lead then p.lead;
        cut = seen_byte m 123 bs (refl, refl) ∙ ap (λ z. 123 ∷ z) (w.cut ∙ ap w.lead.put p.cut);
        clean = λ x. refl;
        moved = λ k r c. let q = p.moved k r c in (object q.0, ap object q.1, some_object (w.lead.put (p.lead.put r)) r q.0 (subst (λ z. Pairs k z q.0 r) (sym (w.back (p.lead.put r) (p.clean r))) q.2));
      }

  pub items_moved : (m : Bool) {n : ℕ} {bs : List ℕ} {ts : Trees} {rest : List ℕ} → Items n bs ts rest → Stands m (SameItems ts) bs rest
  items_moved m (last_item bs later rest t v e) =
      let p = value_moved m v in
      let w = white m later in
      record {
        lead = p.lead then w.lead then one 93;
        cut = p.cut ∙ ap p.lead.put (byte_cut m 93 later rest w (refl, refl) e);
        clean = λ x. p.clean (w.lead.put (93 ∷ x));
        moved = λ k r c. let q = p.moved k (w.lead.put (93 ∷ r)) (w.calm (93 ∷ r) (calm_square r)) in (tree q.0 no_trees, ap (λ z. tree z no_trees) q.1, last_item (p.lead.put (w.lead.put (93 ∷ r))) (w.lead.put (93 ∷ r)) r q.0 q.2 (w.back (93 ∷ r) refl));
      }
  items_moved m (one_item bs later more rest t ts v e o) =
      let p = value_moved m v in
      let w = white m later in
      let x = white m more in
      let s = items_moved m o in
      record {
        lead = p.lead then w.lead then one 44 then x.lead then s.lead;
        cut = p.cut ∙ ap p.lead.put (byte_cut m 44 later more w (refl, refl) e ∙ ap (λ z. w.lead.put (44 ∷ z)) (x.cut ∙ ap x.lead.put s.cut));
        clean = λ z. p.clean (w.lead.put (44 ∷ x.lead.put (s.lead.put z)));
        moved = λ k r c.
            let z : List ℕ = x.lead.put (s.lead.put r) in
            let q = p.moved k (w.lead.put (44 ∷ z)) (w.calm (44 ∷ z) (calm_comma z)) in
            let j = s.moved k r c in
            (tree q.0 j.0, ap (λ y. tree y (bare_trees j.0)) q.1 ∙ ap (tree (bare t)) j.1, one_item (p.lead.put (w.lead.put (44 ∷ z))) (w.lead.put (44 ∷ z)) z r q.0 j.0 q.2 (w.back (44 ∷ z) refl) (subst (λ y. Items k y j.0 r) (sym (x.back (s.lead.put r) (s.clean r))) j.2));
      }

  pub pairs_moved : (m : Bool) {n : ℕ} {bs : List ℕ} {ms : Members} {rest : List ℕ} → Pairs n bs ms rest → Stands m (SamePairs ms) bs rest
  pairs_moved m (last_pair bs x colon start later rest t d e v j) =
      let a = text_moved d in
      let b = white m colon in
      let w = white m start in
      let p = value_moved m v in
      let y = white m later in
      record {
        lead = one 34 then a.lead then b.lead then one 58 then w.lead then p.lead then y.lead then one 125;
        cut = text_cut m a ∙ ap (λ z. 34 ∷ a.lead.put z) (byte_cut m 58 colon start b (refl, refl) e ∙ ap (λ z. b.lead.put (58 ∷ z)) (w.cut ∙ ap w.lead.put (p.cut ∙ ap p.lead.put (byte_cut m 125 later rest y (refl, refl) j))));
        clean = λ z. refl;
        moved = λ k r c.
            let i : List ℕ = y.lead.put (125 ∷ r) in
            let q = p.moved k i (y.calm (125 ∷ r) (calm_curly r)) in
            (member x q.0 no_members, ap (λ z. member x z no_members) q.1, last_pair (a.lead.put (b.lead.put (58 ∷ w.lead.put (p.lead.put i)))) x (b.lead.put (58 ∷ w.lead.put (p.lead.put i))) (w.lead.put (p.lead.put i)) i r q.0 (a.moved (b.lead.put (58 ∷ w.lead.put (p.lead.put i)))) (b.back (58 ∷ w.lead.put (p.lead.put i)) refl) (subst (λ z. Value k z q.0 i) (sym (w.back (p.lead.put i) (p.clean i))) q.2) (y.back (125 ∷ r) refl));
      }
  pairs_moved m (one_pair bs x colon start later more rest t ms d e v j o) =
      let a = text_moved d in
      let b = white m colon in
      let w = white m start in
      let p = value_moved m v in
      let y = white m later in
      let h = white m more in
      let s = pairs_moved m o in
      record {
        lead = one 34 then a.lead then b.lead then one 58 then w.lead then p.lead then y.lead then one 44 then h.lead then s.lead;
        cut = text_cut m a ∙ ap (λ z. 34 ∷ a.lead.put z) (byte_cut m 58 colon start b (refl, refl) e ∙ ap (λ z. b.lead.put (58 ∷ z)) (w.cut ∙ ap w.lead.put (p.cut ∙ ap p.lead.put (byte_cut m 44 later more y (refl, refl) j ∙ ap (λ z. y.lead.put (44 ∷ z)) (h.cut ∙ ap h.lead.put s.cut)))));
        clean = λ z. refl;
        moved = λ k r c.
            let l : List ℕ = h.lead.put (s.lead.put r) in
            let i : List ℕ = y.lead.put (44 ∷ l) in
            let q = p.moved k i (y.calm (44 ∷ l) (calm_comma l)) in
            let f = s.moved k r c in
            (member x q.0 f.0, ap (λ z. member x z (bare_members f.0)) q.1 ∙ ap (member x (bare t)) f.1, one_pair (a.lead.put (b.lead.put (58 ∷ w.lead.put (p.lead.put i)))) x (b.lead.put (58 ∷ w.lead.put (p.lead.put i))) (w.lead.put (p.lead.put i)) i l r q.0 f.0 (a.moved (b.lead.put (58 ∷ w.lead.put (p.lead.put i)))) (b.back (58 ∷ w.lead.put (p.lead.put i)) refl) (subst (λ z. Value k z q.0 i) (sym (w.back (p.lead.put i) (p.clean i))) q.2) (y.back (44 ∷ l) refl) (subst (λ z. Pairs k z f.0 r) (sym (h.back (s.lead.put r) (s.clean r))) f.2));
      }
