-- A path is read as just the parts that it is written with.
use Rattle.std.proofs.Common.{◌≡◌, ◌≢◌, ℕ, Bool, true, false, eqb, leb, if◌then◌else◌, ◌&&◌, List, [], ◌∷◌, ◌++◌, length, map, Option, Some, None, refl, ap, sym, ◌∙◌, subst, arith, append_assoc}
use Rattle.std.proofs.lemmas.Bool.Decides.{nat_tests}
use Rattle.std.proofs.lemmas.List.Elements.{All-nil, All-cons, All-append}
use Rattle.std.proofs.lemmas.List.Folds.{list_all-append}
use Rattle.std.proofs.lemmas.List.Splits.{slice_split_none, slice_split_at, join_with_byte-slice_split}
use Rattle.std.specs.List.{All, list_all, slice_split, join_with_byte}
use Rattle.std.specs.Option.{option_map}
use borrow.Author.Tests.{eqb-true}
use Rattle.resource_tree.specs.declared.part.Part.{Part}
use Rattle.resource_tree.specs.declared.part.Part.TheVariants.{Literal, Parameter, Greedy}
use Rattle.resource_tree.specs.Reading.{behind_first, before_last, named, in_braces, behind_brace, part_in, part_of, onto_parts, each_part, parts_behind, parts_in, parts_of}
use Rattle.resource_tree.specs.Spelling.{is_literal, is_literal_byte, is_name, is_name_byte, has_bytes, is_part, written_part, IsSpelled}
use Rattle.resource_tree.proofs.Cuts.{behind_there, before_there, before_none}
use Rattle.resource_tree.proofs.Unique.{both_true}

some_same : {X : Type 0} {x y : X} → Some x ≡ Some y → x ≡ y
some_same e = cc

behind_sound : (c : ℕ) (text rest : List ℕ) → behind_first c text ≡ Some rest → text ≡ c ∷ rest
behind_sound c [] rest e = absurd (cc)
behind_sound c (b ∷ text) rest e = by_test (eqb b c) refl e
  where
    by_test : (t : Bool) → eqb b c ≡ t → (if t then Some text else None) ≡ Some rest → b ∷ text ≡ c ∷ rest
    by_test true is e = ap (λ x. x ∷ text) (eqb-true b c is) ∙ ap (λ x. c ∷ x) (some_same e)
    by_test false is e = absurd (cc)

before_sound : (c : ℕ) (text front : List ℕ) → before_last c text ≡ Some front → text ≡ front ++ c ∷ []
before_sound c [] front e = absurd (cc)
before_sound c (b ∷ []) front e = by_test (eqb b c) refl e
  where
    by_test : (t : Bool) → eqb b c ≡ t → (if t then Some [] else None) ≡ Some front → b ∷ [] ≡ front ++ c ∷ []
    by_test true is e = ap (λ x. x ∷ []) (eqb-true b c is) ∙ ap (λ x. x ++ c ∷ []) (some_same e)
    by_test false is e = absurd (cc)
before_sound c (b ∷ x ∷ text) front e = by_rest (before_last c (x ∷ text)) refl e (before_sound c (x ∷ text))
  where
    by_rest : (o : Option (List ℕ)) → before_last c (x ∷ text) ≡ o → option_map (λ f. b ∷ f) o ≡ Some front → ((f : List ℕ) → before_last c (x ∷ text) ≡ Some f → x ∷ text ≡ f ++ c ∷ []) → b ∷ x ∷ text ≡ front ++ c ∷ []
    by_rest None is e ih = absurd (cc)
    by_rest (Some f) is e ih = ap (λ t. b ∷ t) (ih f is) ∙ ap (λ t. t ++ c ∷ []) (some_same e)

named_sound : (part : List ℕ → Part) (name : List ℕ) (p : Part) → named part name ≡ Some p → (is_name name ≡ true) × (part name ≡ p)
named_sound part name p e = by_test (is_name name) refl e
  where
    by_test : (t : Bool) → is_name name ≡ t → (if t then Some (part name) else None) ≡ Some p → (is_name name ≡ true) × (part name ≡ p)
    by_test true is e = (is, some_same e)
    by_test false is e = absurd (cc)

abbrev IsWrittenAs : Part → List ℕ → Type 0
IsWrittenAs p text = (written_part p ≡ text) × (is_part p ≡ true)

part_sound : (text : List ℕ) (p : Part) → part_of text ≡ Some p → IsWrittenAs p text
unfolding part_of
part_sound text p e = by_brace (behind_first 123 text) refl e
  where
    by_plus : (inner : List ℕ) (o : Option (List ℕ)) → before_last 43 inner ≡ o → in_braces inner o ≡ Some p → IsWrittenAs p (123 ∷ (inner ++ 125 ∷ []))
    by_plus inner None is e =
        let n = named_sound (λ name. Parameter name) inner p e in
        subst (λ q. IsWrittenAs q (123 ∷ (inner ++ 125 ∷ []))) n.1 (refl, n.0)
    by_plus inner (Some name) is e =
        let n = named_sound (λ name. Greedy name) name p e in
        let front : inner ≡ name ++ 43 ∷ [] = before_sound 43 inner name is in
        subst (λ q. IsWrittenAs q (123 ∷ (inner ++ 125 ∷ []))) n.1
        (ap (λ t. 123 ∷ t) (sym (append_assoc name (43 ∷ []) (125 ∷ [])) ∙ ap (λ t. t ++ 125 ∷ []) (sym front)), n.0)

    by_end : (rest : List ℕ) (o : Option (List ℕ)) → before_last 125 rest ≡ o → behind_brace o ≡ Some p → IsWrittenAs p (123 ∷ rest)
    by_end rest None is e = absurd (cc)
    by_end rest (Some inner) is e = subst (λ t. IsWrittenAs p (123 ∷ t)) (sym (before_sound 125 rest inner is)) (by_plus inner (before_last 43 inner) refl e)

    by_literal : (t : Bool) → is_literal text ≡ t → (if t then Some (Literal text) else None) ≡ Some p → IsWrittenAs p text
    by_literal true is e = subst (λ q. IsWrittenAs q text) (some_same e) (refl, is)
    by_literal false is e = absurd (cc)

    by_brace : (o : Option (List ℕ)) → behind_first 123 text ≡ o → part_in text o ≡ Some p → IsWrittenAs p text
    by_brace None is e = by_literal (is_literal text) refl e
    by_brace (Some rest) is e = subst (IsWrittenAs p) (sym (behind_sound 123 text rest is)) (by_end rest (before_last 125 rest) refl e)

each_sound : (texts : List (List ℕ)) (parts : List Part) → each_part texts ≡ Some parts → (map written_part parts ≡ texts) × (list_all is_part parts ≡ true)
each_sound [] parts e = let none : [] ≡ parts = some_same e in subst (λ ps. (map written_part ps ≡ []) × (list_all is_part ps ≡ true)) none (refl, refl)
each_sound (text ∷ texts) parts e = by_both (part_of text) (each_part texts) refl refl e (each_sound texts)
  where
    by_both : (o : Option Part) (os : Option (List Part)) → part_of text ≡ o → each_part texts ≡ os → onto_parts o os ≡ Some parts
        → ((ps : List Part) → each_part texts ≡ Some ps → (map written_part ps ≡ texts) × (list_all is_part ps ≡ true)) → (map written_part parts ≡ text ∷ texts) × (list_all is_part parts ≡ true)
    by_both None os is rest e ih = absurd (cc)
    by_both (Some p) None is rest e ih = absurd (cc)
    by_both (Some p) (Some ps) is rest e ih =
        let first = part_sound text p is in
        let others = ih ps rest in
        subst (λ all. (map written_part all ≡ text ∷ texts) × (list_all is_part all ≡ true)) (some_same e)
        (ap (λ t. t ∷ map written_part ps) first.0 ∙ ap (λ ts. text ∷ ts) others.0, ap (λ b. b && list_all is_part ps) first.1 ∙ others.1)

pub read_spelled : (path : List ℕ) (parts : List Part) → parts_of path ≡ Some parts → IsSpelled path parts
unfolding parts_of
read_spelled path parts e = by_slash (behind_first 47 path) refl e
  where
    by_rest : (rest : List ℕ) → parts_behind rest ≡ Some parts → IsSpelled (47 ∷ rest) parts
    by_rest [] e = let none : [] ≡ parts = some_same e in subst (λ ps. IsSpelled (47 ∷ []) ps) none (record { text = refl; each = refl })
    by_rest (b ∷ rest) e =
        let each = each_sound (slice_split (λ c. eqb c 47) (b ∷ rest)) parts e in
        record {
          text = ap (λ t. 47 ∷ t) (sym (join_with_byte-slice_split 47 (b ∷ rest)) ∙ ap (join_with_byte 47) (sym each.0));
          each = each.1;
        }

    by_slash : (o : Option (List ℕ)) → behind_first 47 path ≡ o → parts_in o ≡ Some parts → IsSpelled path parts
    by_slash None is e = absurd (cc)
    by_slash (Some rest) is e = subst (λ t. IsSpelled t parts) (sym (behind_sound 47 path rest is)) (by_rest rest e)

-- Back: what the bytes of literals and of names are not.
literal_byte_apart : (b : ℕ) → is_literal_byte b ≡ true → (eqb b 47 ≡ false) × (eqb b 123 ≡ false)
literal_byte_apart b h = (grind (arith, nat_tests), grind (arith, nat_tests))

name_byte_apart : (b : ℕ) → is_name_byte b ≡ true → eqb b 47 ≡ false
name_byte_apart b h = grind (arith, nat_tests)

abbrev HasNoSlash : List ℕ → Type 0
HasNoSlash = All (λ b. eqb b 47 ≡ false)

literal_no_slash : (text : List ℕ) → list_all is_literal_byte text ≡ true → HasNoSlash text
literal_no_slash [] h = All-nil (λ b. eqb b 47 ≡ false)
literal_no_slash (b ∷ text) h =
    let both = both_true (is_literal_byte b) (list_all is_literal_byte text) h in
    All-cons (λ b. eqb b 47 ≡ false) b text (literal_byte_apart b both.0).0 (literal_no_slash text both.1)

name_no_slash : (text : List ℕ) → list_all is_name_byte text ≡ true → HasNoSlash text
name_no_slash [] h = All-nil (λ b. eqb b 47 ≡ false)
name_no_slash (b ∷ text) h =
    let both = both_true (is_name_byte b) (list_all is_name_byte text) h in
    All-cons (λ b. eqb b 47 ≡ false) b text (name_byte_apart b both.0) (name_no_slash text both.1)

name_bytes : (name : List ℕ) → is_name name ≡ true → list_all is_name_byte name ≡ true
name_bytes name h = (both_true (has_bytes name && leb (length name) 64) (list_all is_name_byte name) h).1

part_no_slash : (p : Part) → is_part p ≡ true → HasNoSlash (written_part p)
part_no_slash (Literal text) h = literal_no_slash text (both_true (has_bytes text) (list_all is_literal_byte text) h).1
part_no_slash (Parameter name) h =
    All-cons (λ b. eqb b 47 ≡ false) 123 (name ++ 125 ∷ []) refl
    (All-append (λ b. eqb b 47 ≡ false) name (125 ∷ []) (name_no_slash name (name_bytes name h)) (All-cons (λ b. eqb b 47 ≡ false) 125 [] refl (All-nil (λ b. eqb b 47 ≡ false))))
part_no_slash (Greedy name) h =
    All-cons (λ b. eqb b 47 ≡ false) 123 (name ++ 43 ∷ 125 ∷ []) refl
    (All-append (λ b. eqb b 47 ≡ false) name (43 ∷ 125 ∷ []) (name_no_slash name (name_bytes name h)) (All-cons (λ b. eqb b 47 ≡ false) 43 (125 ∷ []) refl (All-cons (λ b. eqb b 47 ≡ false) 125 [] refl (All-nil (λ b. eqb b 47 ≡ false)))))

literal_no_brace : (text : List ℕ) → is_literal text ≡ true → behind_first 123 text ≡ None
literal_no_brace [] h = refl
literal_no_brace (b ∷ text) h =
    let bytes = both_true (is_literal_byte b) (list_all is_literal_byte text) (both_true (has_bytes (b ∷ text)) (list_all is_literal_byte (b ∷ text)) h).1 in
    rw ((literal_byte_apart b bytes.0).1) refl

no_plus : (name front : List ℕ) → list_all is_name_byte name ≡ true → name ≢ front ++ 43 ∷ []
no_plus name front h e =
    let all : (list_all is_name_byte front && list_all is_name_byte (43 ∷ [])) ≡ true = sym (list_all-append is_name_byte front (43 ∷ [])) ∙ ap (list_all is_name_byte) (sym e) ∙ h in
    let no : false ≡ true = (both_true (list_all is_name_byte front) (list_all is_name_byte (43 ∷ [])) all).1 in
    cc

part_complete : (p : Part) → is_part p ≡ true → part_of (written_part p) ≡ Some p
unfolding part_of
part_complete (Literal text) h = ap (part_in text) (literal_no_brace text h) ∙ ap (λ t. if t then Some (Literal text) else None) h
part_complete (Parameter name) h =
    ap (part_in (123 ∷ (name ++ 125 ∷ []))) (behind_there 123 (name ++ 125 ∷ []))
    ∙ ap behind_brace (before_there 125 name)
    ∙ ap (in_braces name) (before_none 43 name (λ front. no_plus name front (name_bytes name h)))
    ∙ ap (λ t. if t then Some (Parameter name) else None) h
part_complete (Greedy name) h =
    ap (part_in (123 ∷ (name ++ 43 ∷ 125 ∷ []))) (behind_there 123 (name ++ 43 ∷ 125 ∷ []))
    ∙ ap (λ t. behind_brace (before_last 125 t)) (sym (append_assoc name (43 ∷ []) (125 ∷ [])))
    ∙ ap behind_brace (before_there 125 (name ++ 43 ∷ []))
    ∙ ap (in_braces (name ++ 43 ∷ [])) (before_there 43 name)
    ∙ ap (λ t. if t then Some (Greedy name) else None) h

each_complete : (parts : List Part) → list_all is_part parts ≡ true → each_part (map written_part parts) ≡ Some parts
each_complete [] h = refl
each_complete (p ∷ parts) h =
    let both = both_true (is_part p) (list_all is_part parts) h in
    ap (λ o. onto_parts o (each_part (map written_part parts))) (part_complete p both.0) ∙ ap (onto_parts (Some p)) (each_complete parts both.1)

split_join : (p : Part) (parts : List Part) → list_all is_part (p ∷ parts) ≡ true → slice_split (λ c. eqb c 47) (join_with_byte 47 (map written_part (p ∷ parts))) ≡ map written_part (p ∷ parts)
split_join p [] h = slice_split_none (λ c. eqb c 47) (written_part p) (part_no_slash p (both_true (is_part p) true h).0)
split_join p (q ∷ parts) h =
    let both = both_true (is_part p) (list_all is_part (q ∷ parts)) h in
    slice_split_at (λ c. eqb c 47) (written_part p) 47 (join_with_byte 47 (map written_part (q ∷ parts))) (part_no_slash p both.0) refl
    ∙ ap (λ ts. written_part p ∷ ts) (split_join q parts both.1)

-- a text that is not empty is split
behind_split : (rest : List ℕ) → rest ≢ [] → parts_behind rest ≡ each_part (slice_split (λ c. eqb c 47) rest)
behind_split [] some = absurd (some refl)
behind_split (b ∷ rest) some = refl

part_some : (p : Part) → is_part p ≡ true → written_part p ≢ []
part_some (Literal text) h e =
    let no : false ≡ true = ap has_bytes (sym e) ∙ (both_true (has_bytes text) (list_all is_literal_byte text) h).0 in
    cc
part_some (Parameter name) h e = cc
part_some (Greedy name) h e = cc

append_some : (front : List ℕ) (b : ℕ) (rest : List ℕ) → front ++ b ∷ rest ≢ []
append_some [] b rest e = cc
append_some (x ∷ front) b rest e = cc

join_some : (p : Part) (parts : List Part) → is_part p ≡ true → join_with_byte 47 (map written_part (p ∷ parts)) ≢ []
join_some p [] h e = part_some p h e
join_some p (q ∷ parts) h e = append_some (written_part p) 47 (join_with_byte 47 (map written_part (q ∷ parts))) e

pub spelled_read : (path : List ℕ) (parts : List Part) → IsSpelled path parts → parts_of path ≡ Some parts
unfolding parts_of
spelled_read path parts spelled = ap (λ t. parts_in (behind_first 47 t)) spelled.text ∙ ap parts_in (behind_there 47 (join_with_byte 47 (map written_part parts))) ∙ by_parts parts spelled.each
  where
    by_parts : (parts : List Part) → list_all is_part parts ≡ true → parts_behind (join_with_byte 47 (map written_part parts)) ≡ Some parts
    by_parts [] h = refl
    by_parts (p ∷ parts) h =
        behind_split (join_with_byte 47 (map written_part (p ∷ parts))) (join_some p parts (both_true (is_part p) (list_all is_part parts) h).0)
        ∙ ap each_part (split_join p parts h) ∙ each_complete (p ∷ parts) h
