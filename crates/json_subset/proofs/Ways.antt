-- What stands before a rest, and that the rest is cut between characters.
use Rattle.std.proofs.Common.{◌≡◌, ℕ, ◌<◌, List, [], ◌∷◌, ◌++◌, length, take, true, refl, sym, ap, ◌∙◌, subst, arith}
use Rattle.std.specs.Str.{IsUtf8}
use Rattle.std.proofs.Math.Seq.{take-append_seam}
use Rattle.std.proofs.lemmas.Str.{IsUtf8-take, IsCharBoundary-at_seam}
use Rattle.json_subset.specs.Tree.{Tree, Form, Trees, Members}
use Rattle.json_subset.specs.Scan.{after_white}
use Rattle.json_subset.specs.Grammar.{Text, Value, a_value, Shape, the_null, the_true, the_false, some_number, some_text, empty_list, some_list, empty_object, some_object, Items, last_item, one_item, Pairs, last_pair, one_pair}
use Rattle.json_subset.proofs.Cut.{utf8_tail}
use Rattle.json_subset.proofs.Leads.{Lead, one, ◌then◌}
use Rattle.json_subset.proofs.Moved.{text_moved, white}
use Rattle.json_subset.proofs.MovedTrees.{value_moved}
use Rattle.json_subset.proofs.Rests.{ahead_utf8, white_ahead, number_ahead, text_utf8}

-- a part of a text, and its rest at a character
pub record Way (bs rest : List ℕ) : Type 0 where
  pub lead : Lead
  pub joined : bs ≡ lead.put rest
  pub utf8 : IsUtf8 bs → IsUtf8 rest

-- the front is cut between characters, too
pub way_utf8 : {bs rest : List ℕ} (p : Way bs rest) → IsUtf8 bs → IsUtf8 (p.lead.put [])
way_utf8 {bs = bs} {rest = rest} p u =
    let front : List ℕ = p.lead.put [] in
    let e : bs ≡ front ++ rest = p.joined ∙ p.lead.joins rest in
    subst IsUtf8 (ap (take (length front)) e ∙ take-append_seam front rest) (IsUtf8-take bs (length front) u (IsCharBoundary-at_seam bs front rest e (p.utf8 u)))

abbrev pub way_then : {a b c : List ℕ} → Way a b → Way b c → Way a c
way_then p q = record { lead = p.lead then q.lead; joined = p.joined ∙ ap p.lead.put q.joined; utf8 = λ u. q.utf8 (p.utf8 u) }

abbrev pub way_byte : (b : ℕ) (bs : List ℕ) → b < 128 → Way (b ∷ bs) bs
way_byte b bs h = record { lead = one b; joined = refl; utf8 = λ u. utf8_tail b bs h u }

abbrev pub way_white : (bs : List ℕ) → Way bs (after_white bs)
way_white bs = record { lead = (white true bs).lead; joined = (white true bs).cut; utf8 = λ u. ahead_utf8 (white_ahead bs) u }

-- what follows a value is cut between characters
pub byte_utf8 : (b : ℕ) (bs rest : List ℕ) → b < 128 → after_white bs ≡ b ∷ rest → IsUtf8 bs → IsUtf8 rest
byte_utf8 b bs rest h e u = utf8_tail b rest h (subst IsUtf8 e (ahead_utf8 (white_ahead bs) u))

pub quote_utf8 : {bs t rest : List ℕ} → Text bs t rest → IsUtf8 (34 ∷ bs) → IsUtf8 rest
quote_utf8 {bs = bs} d u = (text_utf8 [] d (utf8_tail 34 bs (omega arith) u)).1

mutual
  pub value_utf8 : {n : ℕ} {bs : List ℕ} {t : Tree} {rest : List ℕ} → Value n bs t rest → IsUtf8 bs → IsUtf8 rest
  value_utf8 (a_value bs rest f s) u = shape_utf8 s u

  shape_utf8 : {n : ℕ} {bs : List ℕ} {f : Form} {rest : List ℕ} → Shape n bs f rest → IsUtf8 bs → IsUtf8 rest
  shape_utf8 (the_null rest) u = utf8_tail 108 rest (omega arith) (utf8_tail 108 (108 ∷ rest) (omega arith) (utf8_tail 117 (108 ∷ 108 ∷ rest) (omega arith) (utf8_tail 110 (117 ∷ 108 ∷ 108 ∷ rest) (omega arith) u)))
  shape_utf8 (the_true rest) u = utf8_tail 101 rest (omega arith) (utf8_tail 117 (101 ∷ rest) (omega arith) (utf8_tail 114 (117 ∷ 101 ∷ rest) (omega arith) (utf8_tail 116 (114 ∷ 117 ∷ 101 ∷ rest) (omega arith) u)))
  shape_utf8 (the_false rest) u = utf8_tail 101 rest (omega arith) (utf8_tail 115 (101 ∷ rest) (omega arith) (utf8_tail 108 (115 ∷ 101 ∷ rest) (omega arith) (utf8_tail 97 (108 ∷ 115 ∷ 101 ∷ rest) (omega arith) (utf8_tail 102 (97 ∷ 108 ∷ 115 ∷ 101 ∷ rest) (omega arith) u))))
  shape_utf8 (some_number bs rest d) u = ahead_utf8 (number_ahead d) u
  shape_utf8 (some_text bs t rest d) u = quote_utf8 d u
  shape_utf8 (empty_list bs rest e) u = byte_utf8 93 bs rest (omega arith) e (utf8_tail 91 bs (omega arith) u)
  shape_utf8 (some_list bs rest ts d) u = items_utf8 d (ahead_utf8 (white_ahead bs) (utf8_tail 91 bs (omega arith) u))
  shape_utf8 (empty_object bs rest e) u = byte_utf8 125 bs rest (omega arith) e (utf8_tail 123 bs (omega arith) u)
  shape_utf8 (some_object bs rest ms d) u = pairs_utf8 d (ahead_utf8 (white_ahead bs) (utf8_tail 123 bs (omega arith) u))

  items_utf8 : {n : ℕ} {bs : List ℕ} {ts : Trees} {rest : List ℕ} → Items n bs ts rest → IsUtf8 bs → IsUtf8 rest
  items_utf8 (last_item bs later rest t v e) u = byte_utf8 93 later rest (omega arith) e (value_utf8 v u)
  items_utf8 (one_item bs later cs rest t ts v e o) u = items_utf8 o (ahead_utf8 (white_ahead cs) (byte_utf8 44 later cs (omega arith) e (value_utf8 v u)))

  pairs_utf8 : {n : ℕ} {bs : List ℕ} {ms : Members} {rest : List ℕ} → Pairs n bs ms rest → IsUtf8 bs → IsUtf8 rest
  pairs_utf8 (last_pair bs x mark start later rest t d e v j) u = byte_utf8 125 later rest (omega arith) j (value_utf8 v (ahead_utf8 (white_ahead start) (byte_utf8 58 mark start (omega arith) e (quote_utf8 d u))))
  pairs_utf8 (one_pair bs x mark start later cs rest t ms d e v j o) u = pairs_utf8 o (ahead_utf8 (white_ahead cs) (byte_utf8 44 later cs (omega arith) j (value_utf8 v (ahead_utf8 (white_ahead start) (byte_utf8 58 mark start (omega arith) e (quote_utf8 d u))))))

abbrev pub value_way : {n : ℕ} {bs : List ℕ} {t : Tree} {rest : List ℕ} → Value n bs t rest → Way bs rest
value_way v = record { lead = (value_moved true v).lead; joined = (value_moved true v).cut; utf8 = λ u. value_utf8 v u }

-- behind a comma
abbrev pub comma_way : {bs cs rest : List ℕ} → after_white bs ≡ 44 ∷ cs → rest ≡ after_white cs → Way bs rest
comma_way {bs = bs} {cs = cs} {rest = rest} e j = record {
  lead = (white true bs).lead then one 44 then (white true cs).lead;
  joined = (white true bs).cut ∙ ap (white true bs).lead.put (e ∙ ap (λ z. 44 ∷ z) ((white true cs).cut ∙ ap (white true cs).lead.put (sym j)));
  utf8 = λ u. subst IsUtf8 (sym j) (ahead_utf8 (white_ahead cs) (byte_utf8 44 bs cs (omega arith) e u));
}

-- behind a name
abbrev pub quote_way : {bs t rest : List ℕ} → Text bs t rest → Way (34 ∷ bs) rest
quote_way d = record { lead = one 34 then (text_moved d).lead; joined = ap (λ z. 34 ∷ z) (text_moved d).joined; utf8 = λ u. quote_utf8 d u }
