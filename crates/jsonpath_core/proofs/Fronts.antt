-- What stands at the front of a text, and where it may be cut.
use Rattle.std.proofs.Common.{◌≡◌, ◌≢◌, ℕ, ◌+◌, ◌<◌, ◌≤◌, Bool, true, false, eqb, if◌then◌else◌, List, [], ◌∷◌, ◌++◌, length, take, drop, get_or, Option, Some, None, MatchOption, Err, refl, ap, ◌∙◌, sym, subst, arith, zero, suc, length-drop, get_or-drop, add-zero}
use Rattle.std.proofs.lemmas.List.{get_or-take, length-take-le}
use Rattle.std.proofs.lemmas.List.Folds.{list_all_at}
use Rattle.std.proofs.lemmas.Bool.Decides.{nat_tests}
use Rattle.std.proofs.lemmas.Str.{IsCharBoundary-before_ascii, IsCharBoundary-after_ascii, IsCharBoundary-start, IsCharBoundary-end}
use Rattle.std.specs.List.{list_all}
use Rattle.std.specs.Str.{IsCharBoundary, IsUtf8}
use borrow.Author.Tests.{eqb-true}
use denote.Ref.{Bor}
use Rattle.jsonpath_core.specs.Reading.{behind, run, past_run, quoted_name, quoted_by, closed}
use Rattle.jsonpath_core.specs.Steps.{name}
use Rattle.jsonpath_core.specs.declared.fault.PathFault.TheVariants.{BadPath}
use Rattle.jsonpath_core.specs.Spelling.{is_name_byte, is_digit, is_not}

pub same_byte : (c : ℕ) → eqb c c ≡ true
same_byte c = grind (arith, nat_tests)

pub behind_there : (c : ℕ) (rest : List ℕ) → behind c (c ∷ rest) ≡ Some rest
behind_there c rest = rw (same_byte c) refl

pub behind_none : (c : ℕ) (text : List ℕ) → ((rest : List ℕ) → text ≢ c ∷ rest) → behind c text ≡ None
behind_none c [] other = refl
behind_none c (b ∷ text) other = by_test (eqb b c) refl
  where
    by_test : (t : Bool) → eqb b c ≡ t → (if t then Some text else None) ≡ None
    by_test false e = refl
    by_test true e = absurd (other text (ap (λ x. x ∷ text) (eqb-true b c e)))

-- what `strip_prefix` answers of a character
pub prefix_cases : (c : ℕ) (text : List ℕ) (r : Option (Bor (List ℕ))) → MatchOption r ((rest : List ℕ) → text ≢ c ∷ rest) (λ x. text ≡ c ∷ x.now) → MatchOption r (behind c text ≡ None) (λ x. behind c text ≡ Some x.now)
prefix_cases c text None other = behind_none c text other
prefix_cases c text (Some x) is = ap (behind c) is ∙ behind_there c x.now

-- the byte behind a run does not pass
pub run_stops : (p : ℕ → Bool) (bs : List ℕ) (c : ℕ) (rest : List ℕ) → past_run p bs ≡ c ∷ rest → p c ≡ false
run_stops p [] c rest e = absurd (cc)
run_stops p (b ∷ bs) c rest e = by_test (run_stops p bs c rest) (p b) refl e
  where
    by_test : (past_run p bs ≡ c ∷ rest → p c ≡ false) → (t : Bool) → p b ≡ t → (if t then past_run p bs else b ∷ bs) ≡ c ∷ rest → p c ≡ false
    by_test ih true h e = ih e
    by_test ih false h e = let same : b ≡ c = cc in subst (λ x. p x ≡ false) same h

-- and all of its own do
pub run_passes : (p : ℕ → Bool) (bs : List ℕ) → list_all p (run p bs) ≡ true
run_passes p [] = refl
run_passes p (b ∷ bs) = by_test (run_passes p bs) (p b) refl
  where
    by_test : list_all p (run p bs) ≡ true → (t : Bool) → p b ≡ t → list_all p (if t then b ∷ run p bs else []) ≡ true
    by_test ih true h = rw h ih
    by_test ih false h = refl

pub all_at : (p : ℕ → Bool) (xs : List ℕ) (i : ℕ) → list_all p xs ≡ true → i < length xs → p (get_or xs i 0) ≡ true
all_at p xs i all less = by_test (p (get_or xs i 0)) refl
  where
    by_test : (t : Bool) → p (get_or xs i 0) ≡ t → p (get_or xs i 0) ≡ true
    by_test true h = h
    by_test false h = let none = list_all_at p xs i 0 less h in absurd (cc)

-- a text may be cut behind a run, where what does not pass is ASCII
pub cut_before : (p : ℕ → Bool) (bs : List ℕ) (k : ℕ) → ((b : ℕ) → p b ≡ false → b < 128) → k ≤ length bs → drop k bs ≡ past_run p bs → IsCharBoundary bs k
cut_before p bs k ascii within e = by_rest (past_run p bs) refl
  where
    by_rest : (rest : List ℕ) → past_run p bs ≡ rest → IsCharBoundary bs k
    by_rest [] h =
        let none : length (drop k bs) ≡ 0 = ap length (e ∙ h) in
        let whole : k ≡ length bs = omega (arith, none, length-drop k bs) in
        subst (λ i. IsCharBoundary bs i) (sym whole) (IsCharBoundary-end bs)
    by_rest (c ∷ rest) h =
        let some : length (drop k bs) ≡ suc (length rest) = ap length (e ∙ h) in
        let less : k < length bs = omega (arith, some, length-drop k bs) in
        let first : get_or bs k 0 ≡ c = sym (get_or-drop k bs 0 0 ∙ ap (λ i. get_or bs i 0) (add-zero k)) ∙ ap (λ xs. get_or xs 0 0) (e ∙ h) in
        IsCharBoundary-before_ascii bs k less (omega (arith, ascii c (run_stops p bs c rest h), first))

-- or where what passes is ASCII
pub cut_behind : (p : ℕ → Bool) (bs : List ℕ) (k : ℕ) → IsUtf8 bs → ((b : ℕ) → p b ≡ true → b < 128) → k ≤ length bs → take k bs ≡ run p bs → IsCharBoundary bs k
cut_behind p bs zero utf8 ascii within e = IsCharBoundary-start bs utf8
cut_behind p bs (suc k) utf8 ascii within e =
    let long : length (run p bs) ≡ suc k = ap length (sym e) ∙ length-take-le (suc k) bs within in
    let last : get_or (run p bs) k 0 ≡ get_or bs k 0 = ap (λ xs. get_or xs k 0) (sym e) ∙ get_or-take (suc k) bs k 0 (omega arith) in
    let passed : get_or (run p bs) k 0 < 128 = ascii _ (all_at p (run p bs) k (run_passes p bs) (omega (arith, long))) in
    let behind : k + 1 ≡ suc k = omega arith in
    subst (λ i. IsCharBoundary bs i) behind (IsCharBoundary-after_ascii bs k utf8 (omega (arith, within)) (omega (arith, passed, last)))

pub name_ends_in_ascii : (b : ℕ) → is_name_byte b ≡ false → b < 128
name_ends_in_ascii b h = grind (arith, nat_tests)

pub digit_is_ascii : (b : ℕ) → is_digit b ≡ true → b < 128
digit_is_ascii b h = grind (arith, nat_tests)

-- the text up to a quote, and behind it
other_bytes : (q x : ℕ) → x ≢ q → is_not q x ≡ true
other_bytes q x other = grind (arith, nat_tests)

run_over : (q : ℕ) (xs ys : List ℕ) → ((i : ℕ) → i < length xs → get_or xs i 0 ≢ q) → (run (is_not q) (xs ++ q ∷ ys) ≡ xs) × (past_run (is_not q) (xs ++ q ∷ ys) ≡ q ∷ ys)
run_over q [] ys other = rw (same_byte q) (refl, refl)
run_over q (x ∷ xs) ys other =
    let ih = run_over q xs ys (λ i less. other (suc i) (omega (arith, less))) in
    let passes : is_not q x ≡ true = other_bytes q x (other 0 (omega arith)) in
    rw passes (ap (λ zs. x ∷ zs) ih.0, ih.1)

run_to_end : (q : ℕ) (xs : List ℕ) → ((i : ℕ) → i < length xs → get_or xs i 0 ≢ q) → past_run (is_not q) xs ≡ []
run_to_end q [] other = refl
run_to_end q (x ∷ xs) other =
    let passes : is_not q x ≡ true = other_bytes q x (other 0 (omega arith)) in
    rw passes (run_to_end q xs (λ i less. other (suc i) (omega (arith, less))))

-- where a name ends, as `split_once` finds it
pub quoted_ends : (n q : ℕ) (bs xs ys : List ℕ) → bs ≡ xs ++ q ∷ ys → ((i : ℕ) → i < length xs → get_or xs i 0 ≢ q) → quoted_name n q bs ≡ closed n (name xs) ys
quoted_ends n q bs xs ys e other =
    let over = run_over q xs ys other in
    ap (quoted_name n q) e ∙ ap (λ front. quoted_by n front (behind q (past_run (is_not q) (xs ++ q ∷ ys)))) over.0 ∙ ap (λ rest. quoted_by n xs (behind q rest)) over.1 ∙ ap (quoted_by n xs) (behind_there q ys)

pub quoted_open : (n q : ℕ) (bs : List ℕ) → ((i : ℕ) → i < length bs → get_or bs i 0 ≢ q) → quoted_name n q bs ≡ Err (BadPath n)
quoted_open n q bs other = ap (λ rest. quoted_by n (run (is_not q) bs) (behind q rest)) (run_to_end q bs other)
