-- What is read is spelled.
use Rattle.std.proofs.Common.{◌≡◌, ◌≢◌, ℕ, zero, suc, Bool, true, false, eqb, if◌then◌else◌, List, [], ◌∷◌, ◌++◌, length, Option, Some, None, Result, Ok, Err, refl, ap, ◌∙◌, sym, subst, append_assoc}
use Rattle.std.specs.List.{list_all}
use borrow.Author.Tests.{eqb-true}
use Rattle.jsonpath_core.specs.declared.fault.PathFault.{PathFault}
use Rattle.jsonpath_core.specs.Steps.{Step, name, index, star}
use Rattle.jsonpath_core.specs.Spelling.{is_digit, is_name_byte, is_not, is_quote, number_of, IsStep, bare, quoted, numbered, dotted_star, bracketed_star, AreSteps, none, next, IsPath}
use Rattle.jsonpath_core.specs.Reading.{Read, behind, run, past_run, closed, closed_by, quoted_by, quoted_name, index_by, name_by, bracketed, bracketed_by, dotted, dotted_by, step, step_by, onto, then_steps, steps_within, path_of, path_by}
use Rattle.jsonpath_core.proofs.Fronts.{run_passes, run_stops}
use Rattle.jsonpath_core.proofs.Complete.{Stops, bare_read, quoted_read, numbered_read, dotted_star_read, bracketed_star_read}

-- A step was read of these bytes:
pub record Split (bs : List ℕ) (s : Step) (rest : List ℕ) : Type 0 where
  -- it is spelled by those at the front,
  pub front : List ℕ
  pub whole : bs ≡ front ++ rest
  pub is : IsStep front s
  -- and is read so before all bytes that end a name where these do
  pub again : (m : ℕ) (other : List ℕ) → (Stops is_name_byte rest → Stops is_name_byte other) → step m (front ++ other) ≡ Ok (s, other)

abbrev pub Sound : List ℕ → Read → Type 0
Sound bs (Ok p) = Split bs p.0 p.1
Sound bs (Err e) = Unit {0}

pub behind_is : (c : ℕ) (bs rest : List ℕ) → behind c bs ≡ Some rest → bs ≡ c ∷ rest
behind_is c [] rest e = absurd (cc)
behind_is c (b ∷ bs) rest e = by_test (eqb b c) refl e
  where
    by_test : (t : Bool) → eqb b c ≡ t → (if t then Some bs else None) ≡ Some rest → b ∷ bs ≡ c ∷ rest
    by_test true h e = let same : bs ≡ rest = cc in let byte = eqb-true b c h in cc
    by_test false h e = absurd (cc)

pub run_whole : (p : ℕ → Bool) (bs : List ℕ) → bs ≡ run p bs ++ past_run p bs
run_whole p [] = refl
run_whole p (b ∷ bs) = by_test (p b) (run_whole p bs)
  where
    by_test : (t : Bool) → bs ≡ run p bs ++ past_run p bs → b ∷ bs ≡ (if t then b ∷ run p bs else []) ++ (if t then past_run p bs else b ∷ bs)
    by_test true ih = ap (λ xs. b ∷ xs) ih
    by_test false ih = refl

pub past_stops : (p : ℕ → Bool) (bs : List ℕ) → Stops p (past_run p bs)
past_stops p bs = by_rest (past_run p bs) refl
  where
    by_rest : (rest : List ℕ) → past_run p bs ≡ rest → Stops p rest
    by_rest [] e = tt
    by_rest (c ∷ rest) e = run_stops p bs c rest e

-- what is read up to a closing bracket, which stands behind the front
closed_sound : (n : ℕ) (s : Step) (front bs : List ℕ) → IsStep (front ++ 93 ∷ []) s → ((m : ℕ) (other : List ℕ) → step m ((front ++ 93 ∷ []) ++ other) ≡ Ok (s, other)) → Sound (front ++ bs) (closed n s bs)
closed_sound n s front bs is again = by_rest (behind 93 bs) refl
  where
    by_rest : (o : Option (List ℕ)) → behind 93 bs ≡ o → Sound (front ++ bs) (closed_by n s bs o)
    by_rest None e = tt
    by_rest (Some rest) e = record {
      front = front ++ 93 ∷ [];
      whole = ap (λ x. front ++ x) (behind_is 93 bs rest e) ∙ sym (append_assoc front (93 ∷ []) rest);
      is = is;
      again = λ m other h. again m other;
    }

quoted_sound : (n q : ℕ) (bs : List ℕ) → is_quote q ≡ true → Sound (91 ∷ q ∷ bs) (quoted_name n q bs)
quoted_sound n q bs quote = by_rest (behind q (past_run (is_not q) bs)) refl
  where
    by_rest : (o : Option (List ℕ)) → behind q (past_run (is_not q) bs) ≡ o → Sound (91 ∷ q ∷ bs) (quoted_by n (run (is_not q) bs) o)
    by_rest None e = tt
    by_rest (Some rest) e =
        let xs = run (is_not q) bs in
        let all = run_passes (is_not q) bs in
        let ends : 91 ∷ q ∷ (xs ++ q ∷ 93 ∷ []) ≡ 91 ∷ q ∷ ((xs ++ q ∷ []) ++ 93 ∷ []) = ap (λ x. 91 ∷ q ∷ x) (sym (append_assoc xs (q ∷ []) (93 ∷ []))) in
        let whole : 91 ∷ q ∷ ((xs ++ q ∷ []) ++ rest) ≡ 91 ∷ q ∷ bs = ap (λ x. 91 ∷ q ∷ x) (append_assoc xs (q ∷ []) rest ∙ ap (λ x. xs ++ x) (sym (behind_is q (past_run (is_not q) bs) rest e)) ∙ sym (run_whole (is_not q) bs)) in
        subst (λ x. Sound x (closed n (name xs) rest)) whole
        (closed_sound n (name xs) (91 ∷ q ∷ (xs ++ q ∷ [])) rest
        (subst (λ x. IsStep x (name xs)) ends (quoted q xs quote all))
        (λ m other. ap (λ x. step m (x ++ other)) (sym ends) ∙ quoted_read m q xs other quote all))

some_bytes : (d : ℕ) (ds : List ℕ) → d ∷ ds ≢ []
some_bytes d ds = λ e. cc

index_sound : (n : ℕ) (bs : List ℕ) → Sound (91 ∷ bs) (index_by n (run is_digit bs) (past_run is_digit bs))
index_sound n bs = by_digits (run is_digit bs) refl
  where
    by_digits : (ds : List ℕ) → run is_digit bs ≡ ds → Sound (91 ∷ bs) (index_by n ds (past_run is_digit bs))
    by_digits [] e = tt
    by_digits (d ∷ ds) e =
        let all : list_all is_digit (d ∷ ds) ≡ true = ap (list_all is_digit) (sym e) ∙ run_passes is_digit bs in
        let whole : 91 ∷ ((d ∷ ds) ++ past_run is_digit bs) ≡ 91 ∷ bs = ap (λ x. 91 ∷ (x ++ past_run is_digit bs)) (sym e) ∙ ap (λ x. 91 ∷ x) (sym (run_whole is_digit bs)) in
        subst (λ x. Sound x (closed n (index (number_of (d ∷ ds))) (past_run is_digit bs))) whole
        (closed_sound n (index (number_of (d ∷ ds))) (91 ∷ d ∷ ds) (past_run is_digit bs) (numbered (d ∷ ds) (some_bytes d ds) all) (λ m other. numbered_read m (d ∷ ds) other (some_bytes d ds) all))

name_sound : (n : ℕ) (bs : List ℕ) → Sound (46 ∷ bs) (name_by n (run is_name_byte bs) (past_run is_name_byte bs))
name_sound n bs = by_bytes (run is_name_byte bs) refl
  where
    by_bytes : (cs : List ℕ) → run is_name_byte bs ≡ cs → Sound (46 ∷ bs) (name_by n cs (past_run is_name_byte bs))
    by_bytes [] e = tt
    by_bytes (c ∷ cs) e =
        let all : list_all is_name_byte (c ∷ cs) ≡ true = ap (list_all is_name_byte) (sym e) ∙ run_passes is_name_byte bs in
        record {
          front = 46 ∷ c ∷ cs;
          whole = ap (λ x. 46 ∷ x) (run_whole is_name_byte bs) ∙ ap (λ x. 46 ∷ (x ++ past_run is_name_byte bs)) e;
          is = bare (c ∷ cs) (some_bytes c cs) all;
          again = λ m other h. bare_read m (c ∷ cs) other (some_bytes c cs) all (h (past_stops is_name_byte bs));
        }

dotted_sound : (n : ℕ) (bs : List ℕ) → Sound (46 ∷ bs) (dotted n bs)
dotted_sound n bs = by_star (behind 42 bs) refl
  where
    by_star : (o : Option (List ℕ)) → behind 42 bs ≡ o → Sound (46 ∷ bs) (dotted_by n bs o)
    by_star None e = name_sound n bs
    by_star (Some rest) e = record {
      front = 46 ∷ 42 ∷ [];
      whole = ap (λ x. 46 ∷ x) (behind_is 42 bs rest e);
      is = dotted_star;
      again = λ m other h. dotted_star_read m other;
    }

bracketed_sound : (n : ℕ) (bs : List ℕ) → Sound (91 ∷ bs) (bracketed n bs)
bracketed_sound n bs = by_rest (behind 42 bs) (behind 39 bs) (behind 34 bs) refl refl refl
  where
    by_rest : (a b c : Option (List ℕ)) → behind 42 bs ≡ a → behind 39 bs ≡ b → behind 34 bs ≡ c → Sound (91 ∷ bs) (bracketed_by n bs a b c)
    by_rest (Some rest) b c e f g = subst (λ x. Sound (91 ∷ x) (closed n star rest)) (sym (behind_is 42 bs rest e)) (closed_sound n star (91 ∷ 42 ∷ []) rest bracketed_star bracketed_star_read)
    by_rest None (Some rest) c e f g = subst (λ x. Sound (91 ∷ x) (quoted_name n 39 rest)) (sym (behind_is 39 bs rest f)) (quoted_sound n 39 rest refl)
    by_rest None None (Some rest) e f g = subst (λ x. Sound (91 ∷ x) (quoted_name n 34 rest)) (sym (behind_is 34 bs rest g)) (quoted_sound n 34 rest refl)
    by_rest None None None e f g = index_sound n bs

pub step_sound : (n : ℕ) (bs : List ℕ) → Sound bs (step n bs)
unfolding step
step_sound n bs = by_rest (behind 46 bs) (behind 91 bs) refl refl
  where
    by_rest : (a b : Option (List ℕ)) → behind 46 bs ≡ a → behind 91 bs ≡ b → Sound bs (step_by n bs a b)
    by_rest (Some rest) b e f = subst (λ x. Sound x (dotted n rest)) (sym (behind_is 46 bs rest e)) (dotted_sound n rest)
    by_rest None (Some rest) e f = subst (λ x. Sound x (bracketed n rest)) (sym (behind_is 91 bs rest f)) (bracketed_sound n rest)
    by_rest None None e f = tt

abbrev pub AllSound : List ℕ → Result (List Step) PathFault → Type 0
AllSound bs (Ok steps) = AreSteps bs steps
AllSound bs (Err e) = Unit {0}

pub steps_sound : (n f : ℕ) (bs : List ℕ) → AllSound bs (steps_within n f bs)
steps_sound n f [] = none
steps_sound n zero (b ∷ bs) = tt
steps_sound n (suc f) (b ∷ bs) = by_step (steps_sound n f) (step n (b ∷ bs)) (step_sound n (b ∷ bs))
  where
    by_more : (s : Step) (rest : List ℕ) → Split (b ∷ bs) s rest → (r : Result (List Step) PathFault) → AllSound rest r → AllSound (b ∷ bs) (onto s r)
    by_more s rest p (Err e) h = tt
    by_more s rest p (Ok steps) h = subst (λ x. AreSteps x (s ∷ steps)) (sym p.whole) (next p.front s p.is h)

    by_step : ((rest : List ℕ) → AllSound rest (steps_within n f rest)) → (r : Read) → Sound (b ∷ bs) r → AllSound (b ∷ bs) (then_steps r (steps_within n f))
    by_step ih (Err e) h = tt
    by_step ih (Ok p) h = by_more p.0 p.1 h (steps_within n f p.1) (ih p.1)

-- what a path is read as, it is spelled with
pub path_sound : (text : List ℕ) (steps : List Step) → path_of text ≡ Ok steps → IsPath text steps
unfolding path_of
path_sound text steps e = by_rest (behind 36 text) refl e
  where
    by_rest : (o : Option (List ℕ)) → behind 36 text ≡ o → path_by (length text) o ≡ Ok steps → IsPath text steps
    by_rest None h e = absurd (cc)
    by_rest (Some rest) h e = record {
      rest = rest;
      root = behind_is 36 text rest h;
      each = subst (AllSound rest) e (steps_sound (length text) (length rest) rest);
    }
