-- Reading one step after another.
use Rattle.std.proofs.Common.{◌≡◌, ◌≢◌, ℕ, zero, suc, ◌-◌, ◌≤◌, Bool, true, false, eqb, if◌then◌else◌, List, [], ◌∷◌, ◌++◌, length, Option, Some, None, Result, Ok, Err, refl, ap, ◌∙◌, sym, subst, arith, append_assoc}
use Rattle.jsonpath_core.specs.declared.fault.PathFault.{PathFault}
use Rattle.jsonpath_core.specs.Steps.{Step, name, index, star}
use Rattle.jsonpath_core.specs.Spelling.{is_digit, is_name_byte, is_not, number_of}
use Rattle.jsonpath_core.specs.Reading.{Read, behind, run, past_run, closed, closed_by, quoted_by, quoted_name, index_by, name_by, bracketed, bracketed_by, dotted, dotted_by, step, step_by, onto, then_steps, steps_within, steps_of}

-- what follows a step has at most so many bytes
abbrev pub Within : ℕ → Read → Type 0
Within k (Ok p) = length p.1 ≤ k
Within k (Err fault) = Unit {0}

abbrev pub IsRest : ℕ → Option (List ℕ) → Type 0
IsRest k None = Unit {0}
IsRest k (Some rest) = suc (length rest) ≤ k

pub behind_rest : (c : ℕ) (bs : List ℕ) → IsRest (length bs) (behind c bs)
behind_rest c [] = tt
behind_rest c (b ∷ bs) = by_test (eqb b c)
  where
    by_test : (t : Bool) → IsRest (length (b ∷ bs)) (if t then Some bs else None)
    by_test true = omega arith
    by_test false = tt

past_len : (p : ℕ → Bool) (bs : List ℕ) → length (past_run p bs) ≤ length bs
past_len p [] = omega arith
past_len p (b ∷ bs) = by_test (p b) (past_len p bs)
  where
    by_test : (t : Bool) → length (past_run p bs) ≤ length bs → length (if t then past_run p bs else b ∷ bs) ≤ length (b ∷ bs)
    by_test true ih = omega (arith, ih)
    by_test false ih = omega arith

closed_within : (n k : ℕ) (s : Step) (bs : List ℕ) → length bs ≤ k → Within k (closed n s bs)
closed_within n k s bs le = by_rest (behind 93 bs) (behind_rest 93 bs)
  where
    by_rest : (o : Option (List ℕ)) → IsRest (length bs) o → Within k (closed_by n s bs o)
    by_rest None h = tt
    by_rest (Some rest) h = omega (arith, h, le)

quoted_within : (n q k : ℕ) (bs : List ℕ) → length bs ≤ k → Within k (quoted_name n q bs)
quoted_within n q k bs le = by_rest (behind q (past_run (is_not q) bs)) (behind_rest q (past_run (is_not q) bs))
  where
    by_rest : (o : Option (List ℕ)) → IsRest (length (past_run (is_not q) bs)) o → Within k (quoted_by n (run (is_not q) bs) o)
    by_rest None h = tt
    by_rest (Some rest) h = closed_within n k (name (run (is_not q) bs)) rest (omega (arith, h, le, past_len (is_not q) bs))

index_within : (n k : ℕ) (ds rest : List ℕ) → length rest ≤ k → Within k (index_by n ds rest)
index_within n k [] rest le = tt
index_within n k (d ∷ ds) rest le = closed_within n k (index (number_of (d ∷ ds))) rest le

name_within : (n k : ℕ) (cs rest : List ℕ) → length rest ≤ k → Within k (name_by n cs rest)
name_within n k [] rest le = tt
name_within n k (c ∷ cs) rest le = le

bracketed_within : (n : ℕ) (bs : List ℕ) → Within (length bs) (bracketed n bs)
bracketed_within n bs = by_rest (behind 42 bs) (behind 39 bs) (behind 34 bs) (behind_rest 42 bs) (behind_rest 39 bs) (behind_rest 34 bs)
  where
    by_rest : (a b c : Option (List ℕ)) → IsRest (length bs) a → IsRest (length bs) b → IsRest (length bs) c → Within (length bs) (bracketed_by n bs a b c)
    by_rest (Some rest) b c h i j = closed_within n (length bs) star rest (omega (arith, h))
    by_rest None (Some rest) c h i j = quoted_within n 39 (length bs) rest (omega (arith, i))
    by_rest None None (Some rest) h i j = quoted_within n 34 (length bs) rest (omega (arith, j))
    by_rest None None None h i j = index_within n (length bs) (run is_digit bs) (past_run is_digit bs) (past_len is_digit bs)

dotted_within : (n : ℕ) (bs : List ℕ) → Within (length bs) (dotted n bs)
dotted_within n bs = by_rest (behind 42 bs) (behind_rest 42 bs)
  where
    by_rest : (a : Option (List ℕ)) → IsRest (length bs) a → Within (length bs) (dotted_by n bs a)
    by_rest (Some rest) h = omega (arith, h)
    by_rest None h = name_within n (length bs) (run is_name_byte bs) (past_run is_name_byte bs) (past_len is_name_byte bs)

within_less : (k m : ℕ) (r : Read) → suc k ≤ m → Within k r → Within (m - 1) r
within_less k m (Ok p) le h = omega (arith, le, h)
within_less k m (Err e) le h = tt

-- each step takes a byte or more
pub step_within : (n : ℕ) (bs : List ℕ) → Within (length bs - 1) (step n bs)
unfolding step
step_within n bs = by_rest (behind 46 bs) (behind 91 bs) (behind_rest 46 bs) (behind_rest 91 bs)
  where
    by_rest : (a b : Option (List ℕ)) → IsRest (length bs) a → IsRest (length bs) b → Within (length bs - 1) (step_by n bs a b)
    by_rest (Some rest) b h i = within_less (length rest) (length bs) (dotted n rest) h (dotted_within n rest)
    by_rest None (Some rest) h i = within_less (length rest) (length bs) (bracketed n rest) i (bracketed_within n rest)
    by_rest None None h i = tt

-- as many turns as bytes are enough
pub enough : (n f g : ℕ) (bs : List ℕ) → length bs ≤ f → length bs ≤ g → steps_within n f bs ≡ steps_within n g bs
enough n f g [] le lf = refl
enough n zero g (b ∷ bs) le lf = absurd (omega (arith, le))
enough n (suc f) zero (b ∷ bs) le lf = absurd (omega (arith, lf))
enough n (suc f) (suc g) (b ∷ bs) le lf = by_step (enough n f g) (step n (b ∷ bs)) (step_within n (b ∷ bs))
  where
    by_step : ((rest : List ℕ) → length rest ≤ f → length rest ≤ g → steps_within n f rest ≡ steps_within n g rest) → (r : Read) → Within (length (b ∷ bs) - 1) r → then_steps r (steps_within n f) ≡ then_steps r (steps_within n g)
    by_step ih (Ok p) h = ap (onto p.0) (ih p.1 (omega (arith, le, h)) (omega (arith, lf, h)))
    by_step ih (Err e) h = refl

-- a step is read, and then those behind it
pub turn : (n : ℕ) (bs rest : List ℕ) (s : Step) → length bs ≢ 0 → step n bs ≡ Ok (s, rest) → steps_of n bs ≡ onto s (steps_of n rest)
turn n [] rest s some e = absurd (some refl)
turn n (b ∷ bs) rest s some e =
    let short : Within (length (b ∷ bs) - 1) (Ok (s, rest)) = subst (Within (length (b ∷ bs) - 1)) e (step_within n (b ∷ bs)) in
    ap (λ r. then_steps r (steps_within n (length bs))) e ∙ ap (onto s) (enough n (length bs) (length rest) rest (omega (arith, short)) (omega arith))

pub turn_fails : (n : ℕ) (bs : List ℕ) (fault : PathFault) → length bs ≢ 0 → step n bs ≡ Err fault → steps_of n bs ≡ Err fault
turn_fails n [] fault some e = absurd (some refl)
turn_fails n (b ∷ bs) fault some e = ap (λ r. then_steps r (steps_within n (length bs))) e

-- steps before those that are read
abbrev pub after : List Step → Result (List Step) PathFault → Result (List Step) PathFault
after before (Ok steps) = Ok (before ++ steps)
after before (Err fault) = Err fault

pub after_none : (r : Result (List Step) PathFault) → after [] r ≡ r
after_none (Ok steps) = refl
after_none (Err fault) = refl

pub after_onto : (before : List Step) (s : Step) (r : Result (List Step) PathFault) → after before (onto s r) ≡ after (before ++ s ∷ []) r
after_onto before s (Ok steps) = ap (λ x. Ok x) (sym (append_assoc before (s ∷ []) steps))
after_onto before s (Err fault) = refl
