-- Where a fault stands: a syntax fault at the least place such that no document begins with the bytes up to it.
use Rattle.std.proofs.Common.{◌≡◌, ℕ, ◌+◌, ◌<◌, ◌≤◌, List, [], ◌++◌, length, take, drop, Bool, true, false, refl, sym, ap, ◌∙◌, subst, arith, append_assoc, length-append}
use Rattle.std.specs.Prelude.{Ok, Err, Result, if◌then◌else◌, IfErr}
use Rattle.std.specs.Str.{IsUtf8, is_utf8}
use Rattle.std.specs.Str.Lossy.{utf8_valid_len}
use Rattle.std.proofs.lemmas.List.{take-append-drop, take-append-le, take-take, append-nil}
use Rattle.std.proofs.lemmas.Str.{IsUtf8-append, IsUtf8-nil, IsUtf8-from_is_utf8, is_utf8-from_IsUtf8}
use Rattle.json_subset.specs.declared.fault.JsonFault.{JsonFault}
use Rattle.json_subset.specs.declared.fault.JsonFault.TheVariants.{Syntax, Depth, Repeated, NotUtf8, Memory}
use Rattle.json_subset.specs.Tree.{Tree}
use Rattle.json_subset.specs.Scan.{place}
use Rattle.json_subset.specs.Reading.{json, document}
use Rattle.json_subset.specs.Grammar.{IsText}
use Rattle.json_subset.specs.Prefixes.{BeginsDocument, IsSyntaxPlace, IsPlaceOf, IsAnswerFor}
use Rattle.json_subset.specs.Views.{Gives}
use Rattle.json_subset.proofs.AliveTrees.{SomeDocument, document_alive}
use Rattle.json_subset.proofs.Dead.{none_begins}
use Rattle.json_subset.proofs.Endings.{Completed, Alive, read, ends}
use Rattle.json_subset.proofs.Limits.{never_syntax}
use Rattle.json_subset.proofs.Sound.{Texted, document_read}
use Rattle.json_subset.proofs.Spans.{known}
use Rattle.json_subset.proofs.Ways.{way_utf8}
use Rattle.json_subset.proofs.Whole.{json_document}

-- a front of a front
begins_less : (bs : List ℕ) (p : ℕ) → BeginsDocument bs → BeginsDocument (take p bs)
begins_less bs p d =
    let e : take p bs ++ (drop p bs ++ d.more) ≡ bs ++ d.more = sym (append_assoc (take p bs) (drop p bs) d.more) ∙ ap (λ z. z ++ d.more) (take-append-drop p bs) in
    record { more = drop p bs ++ d.more; tree = d.tree; utf8 = subst IsUtf8 (sym e) d.utf8; text = subst (λ z. IsText z d.tree) (sym e) d.text }

module _ (bs : List ℕ) (u : IsUtf8 bs) (e : JsonFault) (c : Completed (length bs) bs e SomeDocument) where
  -- what was read
  abbrev front : List ℕ
  front = c.way.lead.put []

  joined : bs ≡ front ++ c.tail
  joined = c.way.joined ∙ c.way.lead.joins c.tail

  met_at : place (length bs) c.tail ≡ length front
  met_at = let i = ap length joined in let j = length-append front c.tail in omega (arith, i, j)

  front_begins : BeginsDocument front
  front_begins =
      let x : List ℕ = c.ending.put [] in
      let q = c.whole [] (record { digit = refl; point = refl; e = refl }) refl in
      record { more = x; tree = q.0; utf8 = IsUtf8-append front x (way_utf8 c.way u) (c.utf8 [] IsUtf8-nil); text = subst (λ z. IsText z q.0) (c.way.lead.joins x) q.1 }

  begins_till : (p : ℕ) → p ≤ place (length bs) c.tail → BeginsDocument (take p bs)
  begins_till p h =
      let i : p ≤ length front = omega (arith, h, met_at) in
      subst BeginsDocument (sym (ap (take p) joined ∙ take-append-le p front c.tail i)) (begins_less front p front_begins)

syntax_place : (bs : List ℕ) (n : ℕ) → IsUtf8 bs → document bs ≡ Err (Syntax n) → Completed (length bs) bs (Syntax n) SomeDocument → IsSyntaxPlace bs n
syntax_place bs n u e c = record {
  within = (let h = c.reached in omega (arith, h));
  alive = begins_till bs u (Syntax n) c n c.reached;
  dead = λ h d. none_begins bs n d.more d.tree e h d.text;
  unfinished = λ h t d. never_syntax bs t n d e;
}

limit_place : (bs : List ℕ) (e : JsonFault) (p : ℕ) → IsUtf8 bs → (c : Completed (length bs) bs e SomeDocument) → p < place (length bs) c.tail → (p < length bs) × BeginsDocument (take (p + 1) bs)
limit_place bs e p u c h = (omega (arith, h), begins_till bs u e c (p + 1) (omega (arith, h)))

fault_place : (bs : List ℕ) (e : JsonFault) → IsUtf8 bs → document bs ≡ Err e → Completed (length bs) bs e SomeDocument → IsPlaceOf bs e
fault_place bs (Syntax n) u e c = (u, syntax_place bs n u e c)
fault_place bs (Depth n) u e c = let h = limit_place bs (Depth n) n u c c.reached in (u, h.0, h.1)
fault_place bs (Repeated n) u e c = let h = limit_place bs (Repeated n) n u c c.reached in (u, h.0, h.1)
fault_place bs (NotUtf8 n) u e c = absurd c.reached
fault_place bs Memory u e c = tt

completed : (bs : List ℕ) {r : Result Tree JsonFault} (e : JsonFault) → Alive (length bs) bs SomeDocument r → r ≡ Err e → Completed (length bs) bs e SomeDocument
completed bs e (read x) i = cc
completed bs e (ends f c) i = let j : f ≡ e = cc in subst (λ z. Completed (length bs) bs z SomeDocument) j c

pub place_of : (bs : List ℕ) (e : JsonFault) → json bs ≡ Err e → IsPlaceOf bs e
place_of bs e i = go (is_utf8 bs) refl i
  where
    not_utf8 : (e : JsonFault) → is_utf8 bs ≡ false → NotUtf8 (utf8_valid_len bs) ≡ e → IsPlaceOf bs e
    not_utf8 e h j = subst (IsPlaceOf bs) j (λ u. (let k = is_utf8-from_IsUtf8 bs u in cc), refl)

    go : (v : Bool) → is_utf8 bs ≡ v → (if v then document bs else Err (NotUtf8 (utf8_valid_len bs))) ≡ Err e → IsPlaceOf bs e
    go true h j = fault_place bs e (IsUtf8-from_is_utf8 bs h) j (completed bs e (document_alive bs) j)
    go false h j = not_utf8 e h (let k : NotUtf8 (utf8_valid_len bs) ≡ e = cc in k)

-- of what was read
pub gives_place : {X : Type 0} (view : X → Tree) (bs : List ℕ) (r : Result X JsonFault) → Gives view r (json bs) → IfErr r (λ e. IsPlaceOf bs e)
gives_place view bs (Ok d) h = tt
gives_place view bs (Err (Syntax n)) h = place_of bs (Syntax n) h
gives_place view bs (Err (Depth n)) h = place_of bs (Depth n) h
gives_place view bs (Err (Repeated n)) h = place_of bs (Repeated n) h
gives_place view bs (Err (NotUtf8 n)) h = place_of bs (NotUtf8 n) h
gives_place view bs (Err Memory) h = tt

pub syntax_is_least : (bs : List ℕ) (n : ℕ) → json bs ≡ Err (Syntax n) → IsSyntaxPlace bs n
syntax_is_least bs n e = (place_of bs (Syntax n) e).1

-- at most one place
not_before : (bs : List ℕ) (m n : ℕ) → IsSyntaxPlace bs m → n ≤ length bs → BeginsDocument (take n bs) → m < n → ⊥
not_before bs m n p h d i = p.dead (omega (arith, h, i)) (subst BeginsDocument (take-take (m + 1) n bs (omega (arith, i))) (begins_less (take n bs) (m + 1) d))

pub one_place : (bs : List ℕ) (m n : ℕ) → IsSyntaxPlace bs m → IsSyntaxPlace bs n → m ≡ n
one_place bs m n p q =
    let a = not_before bs m n p q.within q.alive in
    let b = not_before bs n m q p.within p.alive in
    grind (arith, a, b)

-- what is answered
pub syntax_is_answered : (bs : List ℕ) (n : ℕ) → IsUtf8 bs → IsSyntaxPlace bs n → IsAnswerFor n (json bs)
syntax_is_answered bs n u p = go (json bs) refl
  where
    limit : (m : ℕ) → (m < length bs) × BeginsDocument (take (m + 1) bs) → m < n
    limit m h = let a = not_before bs n (m + 1) p (omega (arith, h)) h.1 in grind (arith, a)

    finished : (t : Tree) → IsText bs t → ⊥
    finished t d =
        let P : List ℕ → Type 0 = λ z. IsText z t in
        let all : BeginsDocument bs = record { more = []; tree = t; utf8 = subst IsUtf8 (sym (append-nil bs)) u; text = subst P (sym (append-nil bs)) d } in
        let a : n < length bs → ⊥ = λ h. p.dead h (begins_less bs (n + 1) all) in
        let b : n ≡ length bs → ⊥ = λ h. p.unfinished h t d in
        let h = p.within in
        grind (arith, a, b, h)

    go : (r : Result Tree JsonFault) → json bs ≡ r → IsAnswerFor n r
    go (Ok t) e = finished t (known (Texted bs) (document bs) t (document_read bs) (sym (json_document bs u) ∙ e)).text
    go (Err (Syntax m)) e = one_place bs m n (syntax_is_least bs m e) p
    go (Err (Depth m)) e = let h = place_of bs (Depth m) e in limit m (h.1, h.2)
    go (Err (Repeated m)) e = let h = place_of bs (Repeated m) e in limit m (h.1, h.2)
    go (Err (NotUtf8 m)) e = absurd ((place_of bs (NotUtf8 m) e).0 u)
    go (Err Memory) e = (completed bs Memory (document_alive bs) (sym (json_document bs u) ∙ e)).reached
