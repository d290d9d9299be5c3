-- Where reading stops.
use Rattle.std.proofs.Common.{◌≡◌, ◌≢◌, ℕ, zero, suc, ◌+◌, ◌-◌, ◌<◌, ◌≤◌, Bool, true, false, eqb, ltb, if◌then◌else◌, List, [], ◌∷◌, ◌++◌, length, take, drop, Option, Some, None, Result, Ok, Err, refl, ap, ◌∙◌, sym, subst, arith, append_assoc, length-append}
use Rattle.std.proofs.lemmas.List.{append-nil, take-append-drop}
use Rattle.std.proofs.Math.Nat.{sub-zero}
use Rattle.std.proofs.Math.Seq.{take-append_seam}
use Rattle.std.proofs.lemmas.Bool.Decides.{nat_tests}
use Rattle.std.specs.List.{list_all}
use borrow.Author.Tests.{ltb-true, ltb-false}
use Rattle.jsonpath_core.specs.declared.fault.PathFault.{PathFault}
use Rattle.jsonpath_core.specs.declared.fault.PathFault.TheVariants.{BadPath, Memory}
use Rattle.jsonpath_core.specs.Faults.{BeginsPath, IsBadAt}
use Rattle.jsonpath_core.specs.Steps.{Step, name, index, star}
use Rattle.jsonpath_core.specs.Spelling.{is_digit, is_name_byte, is_not, is_quote, number_of, IsStep, quoted, numbered, dotted_star, bracketed_star, AreSteps, none, next, IsPath}
use Rattle.jsonpath_core.specs.Reading.{Read, place, behind, run, past_run, closed, closed_by, quoted_by, quoted_name, index_by, name_by, bracketed, bracketed_by, dotted, dotted_by, step, step_by, onto, then_steps, steps_within, steps_of, path_of, path_by}
use Rattle.jsonpath_core.proofs.Fronts.{run_passes, run_stops}
use Rattle.jsonpath_core.proofs.Complete.{Stops, opens_name, quoted_all, index_all, steps_read, path_read}
use Rattle.jsonpath_core.proofs.Sound.{Split, Sound, behind_is, run_whole, step_sound, path_sound}
use Rattle.jsonpath_core.proofs.Turns.{turn, turn_fails, step_within, Within}

abbrev IsErr : Read → Type 0
IsErr (Ok p) = ⊥
IsErr (Err e) = Unit {0}

-- Behind some bytes a part of a step is read, and it stops:
record Stuck (before bs : List ℕ) (reads : ℕ → List ℕ → Read) (n at : ℕ) : Type 0 where
  -- behind bytes at the front,
  front : List ℕ
  left : List ℕ
  whole : bs ≡ front ++ left
  place : at ≡ n - length left
  -- with which a step goes on,
  more : List ℕ
  s : Step
  goes_on : IsStep (before ++ (front ++ more)) s
  -- and at a byte with which none does.
  stops : (m b : ℕ) (rest other : List ℕ) → left ≡ b ∷ rest → IsErr (reads m (front ++ b ∷ other))

abbrev StuckIf : List ℕ → List ℕ → (ℕ → List ℕ → Read) → ℕ → Read → Type 0
StuckIf before bs reads n (Ok p) = Unit {0}
StuckIf before bs reads n (Err (BadPath at)) = Stuck before bs reads n at
StuckIf before bs reads n (Err Memory) = ⊥

other_byte : (c b : ℕ) (bs rest : List ℕ) → behind c bs ≡ None → bs ≡ b ∷ rest → eqb b c ≡ false
other_byte c b bs rest e h = by_test (eqb b c) refl (ap (behind c) (sym h) ∙ e)
  where
    by_test : (t : Bool) → eqb b c ≡ t → (if t then Some rest else None) ≡ None → eqb b c ≡ false
    by_test true f g = absurd (cc)
    by_test false f g = f

closed_err : (m b : ℕ) (s : Step) (other : List ℕ) → eqb b 93 ≡ false → IsErr (closed m s (b ∷ other))
closed_err m b s other e = rw e tt

-- what has to close its bracket here
closed_stuck : (n : ℕ) (s : Step) (before front bs : List ℕ) (reads : ℕ → List ℕ → Read) → IsStep (before ++ (front ++ 93 ∷ [])) s → ((m b : ℕ) (rest other : List ℕ) → bs ≡ b ∷ rest → reads m (front ++ b ∷ other) ≡ closed m s (b ∷ other)) → StuckIf before (front ++ bs) reads n (closed n s bs)
closed_stuck n s before front bs reads is same = by_rest (behind 93 bs) refl
  where
    by_rest : (o : Option (List ℕ)) → behind 93 bs ≡ o → StuckIf before (front ++ bs) reads n (closed_by n s bs o)
    by_rest (Some rest) e = tt
    by_rest None e = record {
      front = front;
      left = bs;
      whole = refl;
      place = refl;
      more = 93 ∷ [];
      s = s;
      goes_on = is;
      stops = λ m b rest other h. subst IsErr (sym (same m b rest other h)) (closed_err m b s other (other_byte 93 b bs rest e h));
    }

no_quote : (q : ℕ) (bs : List ℕ) → behind q (past_run (is_not q) bs) ≡ None → past_run (is_not q) bs ≡ []
no_quote q bs e = by_rest (past_run (is_not q) bs) refl
  where
    it_is : (q c : ℕ) → is_not q c ≡ false → eqb c q ≡ true
    it_is q c h = grind (arith, nat_tests)

    by_rest : (rest : List ℕ) → past_run (is_not q) bs ≡ rest → past_run (is_not q) bs ≡ []
    by_rest [] h = h
    by_rest (c ∷ rest) h =
        let stops = other_byte q c (past_run (is_not q) bs) rest e h in
        let is = it_is q c (run_stops (is_not q) bs c rest h) in absurd (cc)

quoted_stuck : (n q : ℕ) (bs : List ℕ) → is_quote q ≡ true → StuckIf (91 ∷ []) (q ∷ bs) bracketed n (quoted_name n q bs)
quoted_stuck n q bs quote = by_rest (behind q (past_run (is_not q) bs)) refl
  where
    by_rest : (o : Option (List ℕ)) → behind q (past_run (is_not q) bs) ≡ o → StuckIf (91 ∷ []) (q ∷ bs) bracketed n (quoted_by n (run (is_not q) bs) o)
    by_rest None e =
        let all_of_it : bs ≡ run (is_not q) bs = run_whole (is_not q) bs ∙ ap (λ x. run (is_not q) bs ++ x) (no_quote q bs e) ∙ append-nil (run (is_not q) bs) in
        let all : list_all (is_not q) bs ≡ true = ap (list_all (is_not q)) all_of_it ∙ run_passes (is_not q) bs in
        record {
          front = q ∷ bs;
          left = [];
          whole = sym (append-nil (q ∷ bs));
          place = sym (sub-zero n);
          more = q ∷ 93 ∷ [];
          s = name bs;
          goes_on = quoted q bs quote all;
          stops = λ m b rest other h. absurd (cc);
        }
    by_rest (Some rest) e =
        let xs = run (is_not q) bs in
        let all = run_passes (is_not q) bs in
        let ends : 91 ∷ q ∷ (xs ++ q ∷ 93 ∷ []) ≡ 91 ∷ q ∷ ((xs ++ q ∷ []) ++ 93 ∷ []) = ap (λ x. 91 ∷ q ∷ x) (sym (append_assoc xs (q ∷ []) (93 ∷ []))) in
        let whole : q ∷ ((xs ++ q ∷ []) ++ rest) ≡ q ∷ bs = ap (λ x. q ∷ x) (append_assoc xs (q ∷ []) rest ∙ ap (λ x. xs ++ x) (sym (behind_is q (past_run (is_not q) bs) rest e)) ∙ sym (run_whole (is_not q) bs)) in
        subst (λ x. StuckIf (91 ∷ []) x bracketed n (closed n (name xs) rest)) whole
        (closed_stuck n (name xs) (91 ∷ []) (q ∷ (xs ++ q ∷ [])) rest bracketed
        (subst (λ x. IsStep x (name xs)) ends (quoted q xs quote all))
        (λ m b more other h. opens_name m q ((xs ++ q ∷ []) ++ b ∷ other) quote ∙ ap (quoted_name m q) (append_assoc xs (q ∷ []) (b ∷ other)) ∙ quoted_all m q xs (b ∷ other) all))

some_bytes : (d : ℕ) (ds : List ℕ) → d ∷ ds ≢ []
some_bytes d ds = λ e. cc

no_digit : (b : ℕ) (bs rest : List ℕ) → run is_digit bs ≡ [] → bs ≡ b ∷ rest → is_digit b ≡ false
no_digit b bs rest e h = by_test (is_digit b) refl (ap (run is_digit) (sym h) ∙ e)
  where
    by_test : (t : Bool) → is_digit b ≡ t → (if t then b ∷ run is_digit rest else []) ≡ [] → is_digit b ≡ false
    by_test true f g = absurd (cc)
    by_test false f g = f

bracketed_err : (m b : ℕ) (other : List ℕ) → eqb b 42 ≡ false → eqb b 39 ≡ false → eqb b 34 ≡ false → is_digit b ≡ false → IsErr (bracketed m (b ∷ other))
bracketed_err m b other e f g h =
    let bs = b ∷ other in
    let as_index : bracketed m bs ≡ index_by m (run is_digit bs) (past_run is_digit bs) =
    ap (λ t. bracketed_by m bs (if t then Some other else None) (behind 39 bs) (behind 34 bs)) e
    ∙ ap (λ t. bracketed_by m bs None (if t then Some other else None) (behind 34 bs)) f
    ∙ ap (λ t. bracketed_by m bs None None (if t then Some other else None)) g in
    let none : run is_digit bs ≡ [] = ap (λ t. if t then b ∷ run is_digit other else []) h in
    subst IsErr (sym (as_index ∙ ap (λ ds. index_by m ds (past_run is_digit bs)) none)) tt

index_stuck : (n : ℕ) (bs : List ℕ) → behind 42 bs ≡ None → behind 39 bs ≡ None → behind 34 bs ≡ None → StuckIf (91 ∷ []) bs bracketed n (index_by n (run is_digit bs) (past_run is_digit bs))
index_stuck n bs e f g = by_digits (run is_digit bs) refl
  where
    by_digits : (ds : List ℕ) → run is_digit bs ≡ ds → StuckIf (91 ∷ []) bs bracketed n (index_by n ds (past_run is_digit bs))
    by_digits [] h = record {
      front = [];
      left = bs;
      whole = refl;
      place = ap (λ x. n - length x) (sym (run_whole is_digit bs ∙ ap (λ x. x ++ past_run is_digit bs) h));
      more = 42 ∷ 93 ∷ [];
      s = star;
      goes_on = bracketed_star;
      stops = λ m b rest other i. bracketed_err m b other (other_byte 42 b bs rest e i) (other_byte 39 b bs rest f i) (other_byte 34 b bs rest g i) (no_digit b bs rest h i);
    }
    by_digits (d ∷ ds) h =
        let all : list_all is_digit (d ∷ ds) ≡ true = ap (list_all is_digit) (sym h) ∙ run_passes is_digit bs in
        let whole : (d ∷ ds) ++ past_run is_digit bs ≡ bs = ap (λ x. x ++ past_run is_digit bs) (sym h) ∙ sym (run_whole is_digit bs) in
        subst (λ x. StuckIf (91 ∷ []) x bracketed n (closed n (index (number_of (d ∷ ds))) (past_run is_digit bs))) whole
        (closed_stuck n (index (number_of (d ∷ ds))) (91 ∷ []) (d ∷ ds) (past_run is_digit bs) bracketed (numbered (d ∷ ds) (some_bytes d ds) all)
        (λ m b rest other i. index_all m (d ∷ ds) (b ∷ other) (some_bytes d ds) all (run_stops is_digit bs b rest i)))

bracketed_stuck : (n : ℕ) (bs : List ℕ) → StuckIf (91 ∷ []) bs bracketed n (bracketed n bs)
bracketed_stuck n bs = by_rest (behind 42 bs) (behind 39 bs) (behind 34 bs) refl refl refl
  where
    by_rest : (a b c : Option (List ℕ)) → behind 42 bs ≡ a → behind 39 bs ≡ b → behind 34 bs ≡ c → StuckIf (91 ∷ []) bs bracketed n (bracketed_by n bs a b c)
    by_rest (Some rest) b c e f g = subst (λ x. StuckIf (91 ∷ []) x bracketed n (closed n star rest)) (sym (behind_is 42 bs rest e)) (closed_stuck n star (91 ∷ []) (42 ∷ []) rest bracketed bracketed_star (λ m b more other h. refl))
    by_rest None (Some rest) c e f g = subst (λ x. StuckIf (91 ∷ []) x bracketed n (quoted_name n 39 rest)) (sym (behind_is 39 bs rest f)) (quoted_stuck n 39 rest refl)
    by_rest None None (Some rest) e f g = subst (λ x. StuckIf (91 ∷ []) x bracketed n (quoted_name n 34 rest)) (sym (behind_is 34 bs rest g)) (quoted_stuck n 34 rest refl)
    by_rest None None None e f g = index_stuck n bs e f g

no_name : (b : ℕ) (bs rest : List ℕ) → run is_name_byte bs ≡ [] → bs ≡ b ∷ rest → is_name_byte b ≡ false
no_name b bs rest e h = by_test (is_name_byte b) refl (ap (run is_name_byte) (sym h) ∙ e)
  where
    by_test : (t : Bool) → is_name_byte b ≡ t → (if t then b ∷ run is_name_byte rest else []) ≡ [] → is_name_byte b ≡ false
    by_test true f g = absurd (cc)
    by_test false f g = f

dotted_err : (m b : ℕ) (other : List ℕ) → eqb b 42 ≡ false → is_name_byte b ≡ false → IsErr (dotted m (b ∷ other))
dotted_err m b other e h =
    let bs = b ∷ other in
    let as_name : dotted m bs ≡ name_by m (run is_name_byte bs) (past_run is_name_byte bs) = ap (λ t. dotted_by m bs (if t then Some other else None)) e in
    let none : run is_name_byte bs ≡ [] = ap (λ t. if t then b ∷ run is_name_byte other else []) h in
    subst IsErr (sym (as_name ∙ ap (λ cs. name_by m cs (past_run is_name_byte bs)) none)) tt

dotted_stuck : (n : ℕ) (bs : List ℕ) → StuckIf (46 ∷ []) bs dotted n (dotted n bs)
dotted_stuck n bs = by_star (behind 42 bs) refl
  where
    by_bytes : (cs : List ℕ) → run is_name_byte bs ≡ cs → behind 42 bs ≡ None → StuckIf (46 ∷ []) bs dotted n (name_by n cs (past_run is_name_byte bs))
    by_bytes (c ∷ cs) h e = tt
    by_bytes [] h e = record {
      front = [];
      left = bs;
      whole = refl;
      place = ap (λ x. n - length x) (sym (run_whole is_name_byte bs ∙ ap (λ x. x ++ past_run is_name_byte bs) h));
      more = 42 ∷ [];
      s = star;
      goes_on = dotted_star;
      stops = λ m b rest other i. dotted_err m b other (other_byte 42 b bs rest e i) (no_name b bs rest h i);
    }

    by_star : (o : Option (List ℕ)) → behind 42 bs ≡ o → StuckIf (46 ∷ []) bs dotted n (dotted_by n bs o)
    by_star (Some rest) e = tt
    by_star None e = by_bytes (run is_name_byte bs) refl e

step_err : (m b : ℕ) (other : List ℕ) → eqb b 46 ≡ false → eqb b 91 ≡ false → IsErr (step m (b ∷ other))
unfolding step
step_err m b other e f = subst IsErr (sym (ap (λ t. step_by m (b ∷ other) (if t then Some other else None) (behind 91 (b ∷ other))) e ∙ ap (λ t. step_by m (b ∷ other) None (if t then Some other else None)) f)) tt

-- a part that stops behind a byte, as a step that does
behind_byte : (c : ℕ) (bs : List ℕ) (reads : ℕ → List ℕ → Read) (n : ℕ) (r : Read) → ((m : ℕ) (x : List ℕ) → step m (c ∷ x) ≡ reads m x) → StuckIf (c ∷ []) bs reads n r → StuckIf [] (c ∷ bs) step n r
behind_byte c bs reads n (Ok p) same h = tt
behind_byte c bs reads n (Err Memory) same h = h
behind_byte c bs reads n (Err (BadPath at)) same h = record {
  front = c ∷ h.front;
  left = h.left;
  whole = ap (λ x. c ∷ x) h.whole;
  place = h.place;
  more = h.more;
  s = h.s;
  goes_on = h.goes_on;
  stops = λ m b rest other i. subst IsErr (sym (same m (h.front ++ b ∷ other))) (h.stops m b rest other i);
}

behind_dot : (m : ℕ) (x : List ℕ) → step m (46 ∷ x) ≡ dotted m x
unfolding step
behind_dot m x = refl

behind_bracket : (m : ℕ) (x : List ℕ) → step m (91 ∷ x) ≡ bracketed m x
unfolding step
behind_bracket m x = refl

step_opened : (n : ℕ) (bs : List ℕ) → step n bs ≡ step_by n bs (behind 46 bs) (behind 91 bs)
unfolding step
step_opened n bs = refl

step_stuck : (n : ℕ) (bs : List ℕ) → StuckIf [] bs step n (step n bs)
step_stuck n bs = by_rest (behind 46 bs) (behind 91 bs) refl refl
  where
    by_rest : (a b : Option (List ℕ)) → behind 46 bs ≡ a → behind 91 bs ≡ b → StuckIf [] bs step n (step n bs)
    by_rest (Some rest) b e f = subst (λ x. StuckIf [] x step n (step n x)) (sym (behind_is 46 bs rest e)) (subst (λ r. StuckIf [] (46 ∷ rest) step n r) (sym (behind_dot n rest)) (behind_byte 46 rest dotted n (dotted n rest) behind_dot (dotted_stuck n rest)))
    by_rest None (Some rest) e f = subst (λ x. StuckIf [] x step n (step n x)) (sym (behind_is 91 bs rest f)) (subst (λ r. StuckIf [] (91 ∷ rest) step n r) (sym (behind_bracket n rest)) (behind_byte 91 rest bracketed n (bracketed n rest) behind_bracket (bracketed_stuck n rest)))
    by_rest None None e f =
        let err : step n bs ≡ Err (BadPath (place n bs)) = step_opened n bs ∙ ap (λ a. step_by n bs a (behind 91 bs)) e ∙ ap (λ b. step_by n bs None b) f in
        subst (λ r. StuckIf [] bs step n r) (sym err) (record {
          front = [];
          left = bs;
          whole = refl;
          place = refl;
          more = 46 ∷ 42 ∷ [];
          s = star;
          goes_on = dotted_star;
          stops = λ m b rest other i. step_err m b other (other_byte 46 b bs rest e i) (other_byte 91 b bs rest f i);
        })

-- Reading steps stops:
record AllStuck (bs : List ℕ) (n at : ℕ) : Type 0 where
  front : List ℕ
  left : List ℕ
  whole : bs ≡ front ++ left
  place : at ≡ n - length left
  more : List ℕ
  steps : List Step
  goes_on : AreSteps (front ++ more) steps
  stops : (m b : ℕ) (rest other : List ℕ) (ss : List Step) → left ≡ b ∷ rest → steps_of m (front ++ b ∷ other) ≡ Ok ss → ⊥

abbrev AllStuckIf : List ℕ → ℕ → Result (List Step) PathFault → Type 0
AllStuckIf bs n (Ok steps) = Unit {0}
AllStuckIf bs n (Err (BadPath at)) = AllStuck bs n at
AllStuckIf bs n (Err Memory) = ⊥

not_empty : (front other : List ℕ) (b : ℕ) → length (front ++ b ∷ other) ≢ 0
not_empty [] other b e = omega (arith, e)
not_empty (c ∷ front) other b e = omega (arith, e)

fails_step : (m b : ℕ) (front other : List ℕ) (ss : List Step) → IsErr (step m (front ++ b ∷ other)) → steps_of m (front ++ b ∷ other) ≡ Ok ss → ⊥
fails_step m b front other ss h e = by_step (step m (front ++ b ∷ other)) refl h
  where
    by_step : (r : Read) → step m (front ++ b ∷ other) ≡ r → IsErr r → ⊥
    by_step (Ok p) g h = h
    by_step (Err fault) g h = let no = turn_fails m (front ++ b ∷ other) fault (not_empty front other b) g in cc

alike : (front rest other : List ℕ) (b : ℕ) → Stops is_name_byte (front ++ b ∷ rest) → Stops is_name_byte (front ++ b ∷ other)
alike [] rest other b h = h
alike (c ∷ front) rest other b h = h

onto_ok : (s : Step) (r : Result (List Step) PathFault) (ss : List Step) → onto s r ≡ Ok ss → (xs : List Step) × (r ≡ Ok xs)
onto_ok s (Ok xs) ss e = (xs, refl)
onto_ok s (Err fault) ss e = absurd (cc)

steps_stuck : (n f : ℕ) (bs : List ℕ) → length bs ≤ f → AllStuckIf bs n (steps_within n f bs)
steps_stuck n f [] le = tt
steps_stuck n zero (b ∷ bs) le = absurd (omega (arith, le))
steps_stuck n (suc f) (c ∷ bs) le = by_step (steps_stuck n f) (step n (c ∷ bs)) (step_sound n (c ∷ bs)) (step_stuck n (c ∷ bs)) (step_within n (c ∷ bs))
  where
    by_more : (s : Step) (behind : List ℕ) → Split (c ∷ bs) s behind → (r : Result (List Step) PathFault) → AllStuckIf behind n r → AllStuckIf (c ∷ bs) n (onto s r)
    by_more s behind p (Ok steps) h = tt
    by_more s behind p (Err Memory) h = h
    by_more s behind p (Err (BadPath at)) h = record {
      front = p.front ++ h.front;
      left = h.left;
      whole = p.whole ∙ ap (λ x. p.front ++ x) h.whole ∙ sym (append_assoc p.front h.front h.left);
      place = h.place;
      more = h.more;
      steps = s ∷ h.steps;
      goes_on = subst (λ x. AreSteps x (s ∷ h.steps)) (sym (append_assoc p.front h.front h.more)) (next p.front s p.is h.goes_on);
      stops = λ m b rest other ss i e.
          let tail = h.front ++ b ∷ other in
          let read : step m (p.front ++ tail) ≡ Ok (s, tail) = p.again m tail (λ g. alike h.front rest other b (subst (Stops is_name_byte) (h.whole ∙ ap (λ x. h.front ++ x) i) g)) in
          let whole : (p.front ++ h.front) ++ b ∷ other ≡ p.front ++ tail = append_assoc p.front h.front (b ∷ other) in
          let all : onto s (steps_of m tail) ≡ Ok ss = sym (turn m (p.front ++ tail) tail s (λ g. not_empty (p.front ++ h.front) other b (ap length whole ∙ g)) read) ∙ ap (steps_of m) (sym whole) ∙ e in
          let rest_read = onto_ok s (steps_of m tail) ss all in
          h.stops m b rest other rest_read.0 i rest_read.1;
    }

    by_step : ((rest : List ℕ) → length rest ≤ f → AllStuckIf rest n (steps_within n f rest)) → (r : Read) → Sound (c ∷ bs) r → StuckIf [] (c ∷ bs) step n r → Within (length (c ∷ bs) - 1) r → AllStuckIf (c ∷ bs) n (then_steps r (steps_within n f))
    by_step ih (Ok p) split stuck short = by_more p.0 p.1 split (steps_within n f p.1) (ih p.1 (omega (arith, le, short)))
    by_step ih (Err Memory) split stuck short = stuck
    by_step ih (Err (BadPath at)) split stuck short = record {
      front = stuck.front;
      left = stuck.left;
      whole = stuck.whole;
      place = stuck.place;
      more = stuck.more;
      steps = stuck.s ∷ [];
      goes_on = subst (λ x. AreSteps x (stuck.s ∷ [])) (append-nil (stuck.front ++ stuck.more)) (next (stuck.front ++ stuck.more) stuck.s stuck.goes_on none);
      stops = λ m b rest other ss i e. fails_step m b stuck.front other ss (stuck.stops m b rest other i) e;
    }

-- a text whose steps stop is bad there
bad_steps : (text rest : List ℕ) (at : ℕ) → text ≡ 36 ∷ rest → path_of text ≡ Err (BadPath at) → AllStuck rest (length text) at → IsBadAt text at
bad_steps text rest at e err h =
    let split : text ≡ (36 ∷ h.front) ++ h.left = e ∙ ap (λ x. 36 ∷ x) h.whole in
    let long : length text ≡ length (36 ∷ h.front) + length h.left = ap length split ∙ length-append (36 ∷ h.front) h.left in
    let here : at ≡ length (36 ∷ h.front) = omega (arith, h.place, long) in
    let taken : take at text ≡ 36 ∷ h.front = ap (take at) split ∙ ap (λ k. take k ((36 ∷ h.front) ++ h.left)) here ∙ take-append_seam (36 ∷ h.front) h.left in
    record {
      within = omega (arith, here, long);
      none = λ steps p. let read = path_read text steps p in cc;
      goes_on = record {
        more = h.more;
        steps = h.steps;
        path = record {
          rest = h.front ++ h.more;
          root = ap (λ x. x ++ h.more) taken;
          each = h.goes_on;
        };
      };
      stops = λ less begins. by_left h.left refl less begins long here split;
    }
  where
    by_left : (left : List ℕ) → h.left ≡ left → at < length text → BeginsPath (take (suc at) text) → length text ≡ length (36 ∷ h.front) + length h.left → at ≡ length (36 ∷ h.front) → text ≡ (36 ∷ h.front) ++ h.left → ⊥
    by_left [] i less begins long here split = let none : length h.left ≡ 0 = ap length i in omega (arith, less, long, here, none)
    by_left (b ∷ rest) i less begins long here split =
        let front = 36 ∷ h.front in
        let whole : text ≡ (front ++ b ∷ []) ++ rest = split ∙ ap (λ x. front ++ x) i ∙ sym (append_assoc front (b ∷ []) rest) in
        let end : suc at ≡ length (front ++ b ∷ []) = omega (arith, here, length-append front (b ∷ [])) in
        let taken : take (suc at) text ≡ front ++ b ∷ [] = ap (take (suc at)) whole ∙ ap (λ k. take k ((front ++ b ∷ []) ++ rest)) end ∙ take-append_seam (front ++ b ∷ []) rest in
        let spelled : 36 ∷ (h.front ++ b ∷ begins.more) ≡ 36 ∷ begins.path.rest = sym (ap (λ x. x ++ begins.more) taken ∙ append_assoc front (b ∷ []) begins.more) ∙ begins.path.root in
        let tail : h.front ++ b ∷ begins.more ≡ begins.path.rest = ap (drop 1) spelled in
        h.stops 0 b rest begins.more begins.steps i (ap (steps_of 0) tail ∙ steps_read 0 begins.path.rest begins.steps begins.path.each)

no_root : (text : List ℕ) → behind 36 text ≡ None → path_of text ≡ Err (BadPath 0) → IsBadAt text 0
no_root text e err = record {
  within = omega arith;
  none = λ steps p. let read = path_read text steps p in cc;
  goes_on = record {
    more = 36 ∷ [];
    steps = [];
    path = record { rest = []; root = refl; each = none };
  };
  stops = λ less begins. by_text text e less begins;
}
  where
    by_text : (text : List ℕ) → behind 36 text ≡ None → 0 < length text → BeginsPath (take 1 text) → ⊥
    by_text [] e less begins = omega (arith, less)
    by_text (b ∷ rest) e less begins =
        let other = other_byte 36 b (b ∷ rest) rest e refl in
        let first : behind 36 (b ∷ begins.more) ≡ behind 36 (36 ∷ begins.path.rest) = ap (behind 36) begins.path.root in
        let none : behind 36 (b ∷ begins.more) ≡ None = ap (λ t. if t then Some begins.more else None) other in cc

path_opened : (text : List ℕ) → path_of text ≡ path_by (length text) (behind 36 text)
unfolding path_of
path_opened text = refl

-- a text is refused where it is bad
pub path_stuck : (text : List ℕ) (at : ℕ) → path_of text ≡ Err (BadPath at) → IsBadAt text at
path_stuck text at e = by_rest (behind 36 text) refl
  where
    by_rest : (o : Option (List ℕ)) → behind 36 text ≡ o → IsBadAt text at
    by_rest None h =
        let zero_place : path_of text ≡ Err (BadPath 0) = path_opened text ∙ ap (path_by (length text)) h in
        let same : at ≡ 0 = cc in
        subst (IsBadAt text) (sym same) (no_root text h zero_place)
    by_rest (Some rest) h =
        let whole = behind_is 36 text rest h in
        let err : steps_of (length text) rest ≡ Err (BadPath at) = sym (path_opened text ∙ ap (path_by (length text)) h) ∙ e in
        bad_steps text rest at whole e (subst (AllStuckIf rest (length text)) err (steps_stuck (length text) (length rest) rest (omega arith)))

never_memory : (text : List ℕ) → path_of text ≡ Err Memory → ⊥
never_memory text e = by_rest (behind 36 text) refl
  where
    by_rest : (o : Option (List ℕ)) → behind 36 text ≡ o → ⊥
    by_rest None h = let zero_place : path_of text ≡ Err (BadPath 0) = path_opened text ∙ ap (path_by (length text)) h in cc
    by_rest (Some rest) h =
        let err : steps_of (length text) rest ≡ Err Memory = sym (path_opened text ∙ ap (path_by (length text)) h) ∙ e in
        subst (AllStuckIf rest (length text)) err (steps_stuck (length text) (length rest) rest (omega arith))

take_take : (j k : ℕ) (xs : List ℕ) → j ≤ k → take j (take k xs) ≡ take j xs
take_take zero k xs le = refl
take_take (suc j) zero xs le = absurd (omega (arith, le))
take_take (suc j) (suc k) [] le = refl
take_take (suc j) (suc k) (x ∷ xs) le = ap (λ ys. x ∷ ys) (take_take j k xs (omega (arith, le)))

-- a shorter front of what begins a path begins one
shorter : (text : List ℕ) (j k : ℕ) → j ≤ k → BeginsPath (take k text) → BeginsPath (take j text)
shorter text j k le begins = record {
  more = drop j (take k text) ++ begins.more;
  steps = begins.steps;
  path = subst (λ x. IsPath x begins.steps) (sym whole) begins.path;
}
  where
    taken : take j (take k text) ≡ take j text
    taken = take_take j k text le

    whole : take j text ++ (drop j (take k text) ++ begins.more) ≡ take k text ++ begins.more
    whole = sym (append_assoc (take j text) (drop j (take k text)) begins.more) ∙ ap (λ x. (x ++ drop j (take k text)) ++ begins.more) (sym taken) ∙ ap (λ x. x ++ begins.more) (take-append-drop j (take k text))

one_place : (text : List ℕ) (j k : ℕ) → IsBadAt text j → IsBadAt text k → j < k → ⊥
one_place text j k a b less = a.stops (omega (arith, less, b.within)) (shorter text (suc j) k (omega (arith, less)) b.goes_on)

same_place : (text : List ℕ) (j k : ℕ) → IsBadAt text j → IsBadAt text k → j ≡ k
same_place text j k a b = by_test (ltb j k) (ltb k j) refl refl
  where
    by_test : (s t : Bool) → ltb j k ≡ s → ltb k j ≡ t → j ≡ k
    by_test true t e f = absurd (one_place text j k a b (ltb-true j k e))
    by_test false true e f = absurd (one_place text k j b a (ltb-true k j f))
    by_test false false e f = omega (arith, ltb-false j k e, ltb-false k j f)

-- and bad where it is refused
pub path_refused : (text : List ℕ) (at : ℕ) → IsBadAt text at → path_of text ≡ Err (BadPath at)
path_refused text at bad = by_result (path_of text) refl
  where
    by_result : (r : Result (List Step) PathFault) → path_of text ≡ r → path_of text ≡ Err (BadPath at)
    by_result (Ok steps) e = absurd (bad.none steps (path_sound text steps e))
    by_result (Err Memory) e = absurd (never_memory text e)
    by_result (Err (BadPath k)) e = e ∙ ap (λ j. Err (BadPath j)) (same_place text k at (path_stuck text k e) bad)
