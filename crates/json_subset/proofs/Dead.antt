-- No document begins with the bytes up to a syntax fault.
use Rattle.std.proofs.Common.{◌≡◌, ℕ, ◌+◌, ◌<◌, ◌≤◌, List, [], ◌∷◌, ◌++◌, length, take, drop, refl, sym, ap, ◌∙◌, subst, arith, length-append}
use Rattle.std.specs.Prelude.{Err, Result}
use Rattle.std.proofs.lemmas.List.{take-append-drop, length-take}
use Rattle.json_subset.specs.declared.fault.JsonFault.{JsonFault}
use Rattle.json_subset.specs.declared.fault.JsonFault.TheVariants.{Syntax}
use Rattle.json_subset.specs.Tree.{Tree}
use Rattle.json_subset.specs.Scan.{◌>>=◌, after_white}
use Rattle.json_subset.specs.Reading.{value, end_at, document}
use Rattle.json_subset.specs.Grammar.{IsText}
use Rattle.json_subset.proofs.Limits.{never_syntax}
use Rattle.json_subset.proofs.Local.{Fork, Front, apart, along, Alike, fault, late}
use Rattle.json_subset.proofs.LocalTrees.{whole, document_good}

front_of : (c : Fork) (xs a b : List ℕ) → length xs ≤ c.k → length a ≡ c.u → length b ≡ c.v → Front c (xs ++ a) (xs ++ b)
front_of c [] a b h i j = apart a b i j
front_of c (x ∷ xs) a b h i j = along x (xs ++ a) (xs ++ b) (simp length-append (omega (arith, h, i))) (front_of c xs a b (omega (arith, h)) i j)

read_whole : ℕ → List ℕ → Result Tree JsonFault
read_whole n xs = value n 64 (after_white xs) >>= λ r. end_at n r.0 (after_white r.1)

-- a syntax fault stays where it is
stays_there : (c : Fork) (p : ℕ) (s : Result Tree JsonFault) → Alike c whole (Err (Syntax p)) s → p < c.k → s ≡ Err (Syntax p)
stays_there c p s (fault e) h = refl
stays_there c p s (late r q i) h = absurd (omega (arith, h, i))

other_fault : (xs a b : List ℕ) (p : ℕ) → p < length xs → document (xs ++ a) ≡ Err (Syntax p) → document (xs ++ b) ≡ Err (Syntax p)
unfolding read_whole
other_fault xs a b p h e =
    let c : Fork = record { k = length xs; u = length a; v = length b } in
    let i : length (xs ++ a) ≡ length xs + length a = length-append xs a in
    let j : length (xs ++ b) ≡ length xs + length b = length-append xs b in
    let d : read_whole (length xs + length a) (xs ++ a) ≡ Err (Syntax p) = ap (λ n. read_whole n (xs ++ a)) (sym i) ∙ e in
    ap (λ n. read_whole n (xs ++ b)) j
    ∙ stays_there c p (read_whole (length xs + length b) (xs ++ b)) (subst (λ r. Alike c whole r (read_whole (length xs + length b) (xs ++ b))) d (document_good.local c (xs ++ a) (xs ++ b) (front_of c xs a b (omega arith) refl refl))) h

pub none_begins : (bs : List ℕ) (p : ℕ) (more : List ℕ) (t : Tree) → document bs ≡ Err (Syntax p) → p < length bs → IsText (take (p + 1) bs ++ more) t → ⊥
none_begins bs p more t e h d =
    let k : p < length (take (p + 1) bs) = (let i = length-take (p + 1) bs in omega (arith, i, h)) in
    never_syntax (take (p + 1) bs ++ more) t p d (other_fault (take (p + 1) bs) (drop (p + 1) bs) more p k (ap document (take-append-drop (p + 1) bs) ∙ e))
