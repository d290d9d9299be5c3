-- What is spelled is read.
use Rattle.std.proofs.Common.{◌≡◌, ◌≢◌, ℕ, Bool, true, false, not, ◌&&◌, eqb, if◌then◌else◌, List, [], ◌∷◌, ◌++◌, length, Some, None, Ok, refl, ap, ◌∙◌, sym, subst, arith, append_assoc}
use Rattle.std.proofs.lemmas.Bool.Decides.{nat_tests}
use Rattle.std.specs.List.{list_all}
use borrow.Author.Tests.{eqb-true}
use Rattle.jsonpath_core.specs.Steps.{Step, name, index, star}
use Rattle.jsonpath_core.specs.Spelling.{is_digit, is_name_byte, is_not, is_quote, number_of, IsStep, bare, quoted, numbered, dotted_star, bracketed_star, AreSteps, none, next, IsPath}
use Rattle.jsonpath_core.specs.Reading.{behind, run, past_run, closed, quoted_by, quoted_name, index_by, name_by, bracketed, bracketed_by, dotted_by, step, onto, steps_of, path_of, path_by}
use Rattle.jsonpath_core.proofs.Fronts.{same_byte, behind_there}
use Rattle.jsonpath_core.proofs.Turns.{turn}

-- a run ends before these bytes
abbrev pub Stops : (ℕ → Bool) → List ℕ → Type 0
Stops p [] = Unit {0}
Stops p (b ∷ rest) = p b ≡ false

head_passes : (p : ℕ → Bool) (x : ℕ) (xs : List ℕ) → list_all p (x ∷ xs) ≡ true → p x ≡ true
head_passes p x xs e = by_test (p x) refl e
  where
    by_test : (t : Bool) → p x ≡ t → (t && list_all p xs) ≡ true → p x ≡ true
    by_test true h e = h
    by_test false h e = absurd (cc)

tail_passes : (p : ℕ → Bool) (x : ℕ) (xs : List ℕ) → list_all p (x ∷ xs) ≡ true → list_all p xs ≡ true
tail_passes p x xs e = by_test (p x) e
  where
    by_test : (t : Bool) → (t && list_all p xs) ≡ true → list_all p xs ≡ true
    by_test true e = e
    by_test false e = absurd (cc)

run_stopped : (p : ℕ → Bool) (rest : List ℕ) → Stops p rest → (run p rest ≡ []) × (past_run p rest ≡ rest)
run_stopped p [] h = (refl, refl)
run_stopped p (b ∷ rest) h = rw h (refl, refl)

-- a run of bytes that pass, before those that do not
pub run_all : (p : ℕ → Bool) (xs rest : List ℕ) → list_all p xs ≡ true → Stops p rest → (run p (xs ++ rest) ≡ xs) × (past_run p (xs ++ rest) ≡ rest)
run_all p [] rest all h = run_stopped p rest h
run_all p (x ∷ xs) rest all h =
    let ih = run_all p xs rest (tail_passes p x xs all) h in
    rw (head_passes p x xs all) (ap (λ ys. x ∷ ys) ih.0, ih.1)

-- a bare name is read, where none of its bytes follow
pub bare_read : (m : ℕ) (xs rest : List ℕ) → xs ≢ [] → list_all is_name_byte xs ≡ true → Stops is_name_byte rest → step m ((46 ∷ xs) ++ rest) ≡ Ok (name xs, rest)
unfolding step
bare_read m [] rest some all h = absurd (some refl)
bare_read m (c ∷ cs) rest some all h =
    let both = run_all is_name_byte (c ∷ cs) rest all h in
    let other : eqb c 42 ≡ false = no_star c (head_passes is_name_byte c cs all) in
    ap (λ t. dotted_by m ((c ∷ cs) ++ rest) (if t then Some (cs ++ rest) else None)) other
    ∙ ap (λ ds. name_by m ds (past_run is_name_byte ((c ∷ cs) ++ rest))) both.0
    ∙ ap (λ after. name_by m (c ∷ cs) after) both.1
  where
    no_star : (c : ℕ) → is_name_byte c ≡ true → eqb c 42 ≡ false
    no_star c h = grind (arith, nat_tests)

not_itself : (q : ℕ) → is_not q q ≡ false
not_itself q = ap not (same_byte q)

-- a quoted name, up to its quote
pub quoted_all : (m q : ℕ) (xs rest : List ℕ) → list_all (is_not q) xs ≡ true → quoted_name m q (xs ++ q ∷ rest) ≡ closed m (name xs) rest
quoted_all m q xs rest all =
    let both = run_all (is_not q) xs (q ∷ rest) all (not_itself q) in
    ap (λ front. quoted_by m front (behind q (past_run (is_not q) (xs ++ q ∷ rest)))) both.0
    ∙ ap (λ after. quoted_by m xs (behind q after)) both.1
    ∙ ap (quoted_by m xs) (behind_there q rest)

-- a quote behind a bracket opens a name
pub opens_name : (m q : ℕ) (bs : List ℕ) → is_quote q ≡ true → bracketed m (q ∷ bs) ≡ quoted_name m q bs
opens_name m q bs e = by_single (eqb q 39) refl
  where
    by_double : (t : Bool) → eqb q 34 ≡ t → eqb q 39 ≡ false → bracketed m (q ∷ bs) ≡ quoted_name m q bs
    by_double true h o = subst (λ x. bracketed m (x ∷ bs) ≡ quoted_name m x bs) (sym (eqb-true q 34 h)) refl
    by_double false h o = absurd (grind (arith, nat_tests))

    by_single : (t : Bool) → eqb q 39 ≡ t → bracketed m (q ∷ bs) ≡ quoted_name m q bs
    by_single true h = subst (λ x. bracketed m (x ∷ bs) ≡ quoted_name m x bs) (sym (eqb-true q 39 h)) refl
    by_single false h = by_double (eqb q 34) refl h

-- digits behind a bracket, up to what is no digit
pub index_all : (m : ℕ) (ds rest : List ℕ) → ds ≢ [] → list_all is_digit ds ≡ true → Stops is_digit rest → bracketed m (ds ++ rest) ≡ closed m (index (number_of ds)) rest
index_all m [] rest some all h = absurd (some refl)
index_all m (d ∷ ds) rest some all h =
    let both = run_all is_digit (d ∷ ds) rest all h in
    let digit = head_passes is_digit d ds all in
    let bs = (d ∷ ds) ++ rest in
    ap (λ t. bracketed_by m bs (if t then Some (ds ++ rest) else None) (behind 39 bs) (behind 34 bs)) (not_star d digit)
    ∙ ap (λ t. bracketed_by m bs None (if t then Some (ds ++ rest) else None) (behind 34 bs)) (not_single d digit)
    ∙ ap (λ t. bracketed_by m bs None None (if t then Some (ds ++ rest) else None)) (not_double d digit)
    ∙ ap (λ xs. index_by m xs (past_run is_digit bs)) both.0
    ∙ ap (λ after. index_by m (d ∷ ds) after) both.1
  where
    not_star : (d : ℕ) → is_digit d ≡ true → eqb d 42 ≡ false
    not_star d h = grind (arith, nat_tests)

    not_single : (d : ℕ) → is_digit d ≡ true → eqb d 39 ≡ false
    not_single d h = grind (arith, nat_tests)

    not_double : (d : ℕ) → is_digit d ≡ true → eqb d 34 ≡ false
    not_double d h = grind (arith, nat_tests)

pub quoted_read : (m q : ℕ) (xs rest : List ℕ) → is_quote q ≡ true → list_all (is_not q) xs ≡ true → step m ((91 ∷ q ∷ (xs ++ q ∷ 93 ∷ [])) ++ rest) ≡ Ok (name xs, rest)
unfolding step
quoted_read m q xs rest quote all =
    opens_name m q ((xs ++ q ∷ 93 ∷ []) ++ rest) quote
    ∙ ap (quoted_name m q) (append_assoc xs (q ∷ 93 ∷ []) rest)
    ∙ quoted_all m q xs (93 ∷ rest) all

pub numbered_read : (m : ℕ) (ds rest : List ℕ) → ds ≢ [] → list_all is_digit ds ≡ true → step m ((91 ∷ (ds ++ 93 ∷ [])) ++ rest) ≡ Ok (index (number_of ds), rest)
unfolding step
numbered_read m ds rest some all = ap (bracketed m) (append_assoc ds (93 ∷ []) rest) ∙ index_all m ds (93 ∷ rest) some all refl

pub dotted_star_read : (m : ℕ) (rest : List ℕ) → step m ((46 ∷ 42 ∷ []) ++ rest) ≡ Ok (star, rest)
unfolding step
dotted_star_read m rest = refl

pub bracketed_star_read : (m : ℕ) (rest : List ℕ) → step m ((91 ∷ 42 ∷ 93 ∷ []) ++ rest) ≡ Ok (star, rest)
unfolding step
bracketed_star_read m rest = refl

-- a step that is spelled is read, where no byte of a name follows
step_read : (m : ℕ) (front rest : List ℕ) (s : Step) → IsStep front s → Stops is_name_byte rest → step m (front ++ rest) ≡ Ok (s, rest)
step_read m front rest s (bare xs some all) h = bare_read m xs rest some all h
step_read m front rest s (quoted q xs quote all) h = quoted_read m q xs rest quote all
step_read m front rest s (numbered ds some all) h = numbered_read m ds rest some all
step_read m front rest s dotted_star h = dotted_star_read m rest
step_read m front rest s bracketed_star h = bracketed_star_read m rest

-- no step begins with a byte of a name
step_stops : (front rest : List ℕ) (s : Step) → IsStep front s → Stops is_name_byte (front ++ rest)
step_stops front rest s (bare xs some all) = refl
step_stops front rest s (quoted q xs quote all) = refl
step_stops front rest s (numbered ds some all) = refl
step_stops front rest s dotted_star = refl
step_stops front rest s bracketed_star = refl

steps_stop : (bs : List ℕ) (steps : List Step) → AreSteps bs steps → Stops is_name_byte bs
steps_stop bs steps none = tt
steps_stop bs steps (next {rest = rest} front s is more) = step_stops front rest s is

step_some : (front rest : List ℕ) (s : Step) → IsStep front s → length (front ++ rest) ≢ 0
step_some front rest s (bare xs some all) = λ e. omega (arith, e)
step_some front rest s (quoted q xs quote all) = λ e. omega (arith, e)
step_some front rest s (numbered ds some all) = λ e. omega (arith, e)
step_some front rest s dotted_star = λ e. omega (arith, e)
step_some front rest s bracketed_star = λ e. omega (arith, e)

pub steps_read : (m : ℕ) (bs : List ℕ) (steps : List Step) → AreSteps bs steps → steps_of m bs ≡ Ok steps
steps_read m bs steps none = refl
steps_read m bs steps (next {rest = rest} {steps = ss} front s is more) =
    turn m (front ++ rest) rest s (step_some front rest s is) (step_read m front rest s is (steps_stop rest ss more))
    ∙ ap (onto s) (steps_read m rest ss more)

pub path_read : (text : List ℕ) (steps : List Step) → IsPath text steps → path_of text ≡ Ok steps
unfolding path_of
path_read text steps p = ap (λ t. path_by (length t) (behind 36 t)) p.root ∙ steps_read (length (36 ∷ p.rest)) p.rest steps p.each
