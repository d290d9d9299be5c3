-- Reading a string is local.
use Rattle.std.proofs.Common.{◌≡◌, ℕ, zero, suc, ◌+◌, ◌<◌, ◌≤◌, List, [], ◌∷◌, ◌++◌, length, Bool, true, false, Option, Some, None, refl, ap, subst, arith}
use Rattle.std.specs.Prelude.{Ok, Err, Result, if◌then◌else◌, ◌==◌, nat_le, ◌&&◌, IfOk}
use Rattle.std.specs.Char.{encode_utf8}
use Rattle.json_subset.specs.declared.fault.JsonFault.{JsonFault}
use Rattle.json_subset.specs.declared.fault.JsonFault.TheVariants.{Syntax}
use Rattle.json_subset.specs.Scan.{◌>>=◌, Read, place}
use Rattle.json_subset.specs.Strings.{is_plain, run, past_run, hex, hex_as, hex_digit, four, unit_end, first_unit, low_unit, is_high, pair_char, Step, closed, adds, second_half, unicode, short, escape_as, escape, at_stop, on_step, text_from, string}
use Rattle.json_subset.proofs.Choices.{ok_map, ok_if}
use Rattle.json_subset.proofs.Lexical.{text_read}
use Rattle.json_subset.proofs.Rests.{text_less}
use Rattle.json_subset.proofs.Local.{Fork, Front, apart, along, View, Late, Alike, same, fault, late, late_then, Good, Tail, tail_good, from_tails, tail_syntax, tail_if, good_if, reads, rest_then, read_then, gives, word_good}

hex_good : (low high : ℕ) → Good reads (λ n xs. hex_digit n low high xs)
hex_good low high = from_tails reads (λ n xs. hex_digit n low high xs) (λ c. omega arith) (λ n. tt) (λ b. go b (hex b))
  where
    go : (b : ℕ) (o : Option ℕ) → Tail reads b (λ n xs. hex_as n low high b xs o)
    go b None = tail_syntax reads b
    go b (Some v) = tail_if (nat_le low v && nat_le v high) (tail_good b (gives v)) (tail_syntax reads b)

end_good : (a b : ℕ) → Good reads (λ n xs. unit_end n a b xs)
end_good a b = read_then (hex_good 0 15) (λ c. read_then (hex_good 0 15) (λ d. gives (four a b c d)))

first_good : Good reads first_unit
first_good = read_then (hex_good 0 15) (λ a. read_then (hex_good 0 (if a == 13 then 11 else 15)) (λ b. end_good a b))

low_good : Good reads low_unit
low_good = read_then (hex_good 13 13) (λ a. read_then (hex_good 12 15) (λ b. end_good a b))

abbrev step_rest : Step → List ℕ
step_rest (closed r) = r
step_rest (adds t r) = r

abbrev step_text : Step → Option (List ℕ)
step_text (closed r) = None
step_text (adds t r) = Some t

abbrev steps : View Step (Option (List ℕ))
steps = record { rest = step_rest; given = step_text }

adds_good : (t : List ℕ) → Good steps (λ n xs. Ok (adds t xs))
adds_good t = record { local = λ c xs ys f. same (adds t xs) (adds t ys) refl f; late = λ c xs h. h; less = λ n xs. omega arith }

closed_good : Good steps (λ n xs. Ok (closed xs))
closed_good = record { local = λ c xs ys f. same (closed xs) (closed ys) refl f; late = λ c xs h. h; less = λ n xs. omega arith }

second_good : (u : ℕ) → Good steps (λ n xs. second_half n u xs)
second_good u = rest_then (word_good (92 ∷ 117 ∷ [])) (read_then low_good (λ v. adds_good (encode_utf8 (pair_char u v))))

unicode_good : Good steps unicode
unicode_good = read_then first_good (λ u. good_if (is_high u) (second_good u) (adds_good (encode_utf8 u)))

escape_good : Good steps escape
escape_good = from_tails steps escape (λ c. omega arith) (λ n. tt) (λ b. tail_if (b == 117) (tail_good b unicode_good) (go b (short b)))
  where
    go : (b : ℕ) (o : Option ℕ) → Tail steps b (λ n xs. escape_as n b xs o)
    go b None = tail_syntax steps b
    go b (Some c) = tail_good b (adds_good (c ∷ []))

stop_good : Good steps at_stop
stop_good = from_tails steps at_stop (λ c. omega arith) (λ n. tt) (λ b. tail_if (b == 34) (tail_good b closed_good) (tail_if (b == 92) (tail_good b escape_good) (tail_syntax steps b)))

stop_less : (n : ℕ) (xs : List ℕ) → IfOk (at_stop n xs) (λ s. length (step_rest s) < length xs)
stop_less n [] = tt
stop_less n (b ∷ xs) =
    let P : Step → Type 0 = λ s. length (step_rest s) < length (b ∷ xs) in
    ok_if P (b == 34) (Ok (closed xs)) (if b == 92 then escape n xs else Err (Syntax (place n (b ∷ xs)))) (λ e. omega arith)
    (λ e. ok_if P (b == 92) (escape n xs) (Err (Syntax (place n (b ∷ xs)))) (λ k. ok_map (λ s. length (step_rest s) ≤ length xs) P (escape n xs) (escape_good.less n xs) (λ s h. omega (arith, h))) (λ k. tt))

-- plain bytes, and what follows them
past_less : (xs : List ℕ) → length (past_run xs) ≤ length xs
past_less [] = omega arith
past_less (b ∷ xs) = go (past_less xs) (is_plain b)
  where
    go : length (past_run xs) ≤ length xs → (v : Bool) → length (if v then past_run xs else b ∷ xs) ≤ suc (length xs)
    go h true = omega (arith, h)
    go h false = omega arith

abbrev split : List ℕ → Read (List ℕ)
split xs = Ok (run xs, past_run xs)

split_good : Good reads (λ n xs. split xs)
split_good = record { local = λ c xs ys f. go c f; late = λ c xs h. (let k = past_less xs in omega (arith, h, k)); less = λ n xs. past_less xs }
  where
    go : (c : Fork) {xs ys : List ℕ} → Front c xs ys → Alike c reads (split xs) (split ys)
    go c (apart xs ys h k) = late (split xs) (split ys) (let i = past_less xs in omega (arith, h, i))
    go c (along b xs ys l f) = inner (is_plain b) (go c f)
      where
        inner : (v : Bool) → Alike c reads (split xs) (split ys) → Alike c reads (Ok (if v then b ∷ run xs else [], if v then past_run xs else b ∷ xs)) (Ok (if v then b ∷ run ys else [], if v then past_run ys else b ∷ ys))
        inner true (same x y e t) = same (b ∷ run xs, past_run xs) (b ∷ run ys, past_run ys) (ap (λ z. b ∷ z) e) t
        inner true (late x y h) = late (Ok (b ∷ run xs, past_run xs)) (Ok (b ∷ run ys, past_run ys)) h
        inner false h = same ([], b ∷ xs) ([], b ∷ ys) refl (along b xs ys l f)

split_less : (n : ℕ) (xs : List ℕ) → IfOk (at_stop n (past_run xs)) (λ s. length (step_rest s) < length xs)
split_less n xs = ok_map (λ s. length (step_rest s) < length (past_run xs)) (λ s. length (step_rest s) < length xs) (at_stop n (past_run xs)) (stop_less n (past_run xs)) (λ s h. let k = past_less xs in omega (arith, h, k))

abbrev onto : ℕ → ℕ → List ℕ → Step → Read (List ℕ)
onto n f before s = on_step (λ t rest. text_from n t f rest) before s

text_late : (c : Fork) (before : List ℕ) (f : ℕ) (xs : List ℕ) → length xs ≤ c.u → Late c reads (text_from (c.k + c.u) before f xs)
unfolding text_from
text_late c before zero xs h = omega (arith, h)
text_late c before (suc f) xs h =
    late_then c steps reads (at_stop (c.k + c.u) (past_run xs)) (onto (c.k + c.u) f (before ++ run xs)) (stop_good.late c (past_run xs) (let k = past_less xs in omega (arith, h, k))) (go (λ t rest i. text_late c t f rest i))
  where
    go : ((t rest : List ℕ) → length rest ≤ c.u → Late c reads (text_from (c.k + c.u) t f rest)) → (s : Step) → length (step_rest s) ≤ c.u → Late c reads (onto (c.k + c.u) f (before ++ run xs) s)
    go others (closed r) i = i
    go others (adds t r) i = others ((before ++ run xs) ++ t) r i

-- two strings, with enough steps for both
module _ (c : Fork) (f g : ℕ) (others : (t xs ys : List ℕ) → Front c xs ys → length xs < f → length ys < g → Alike c reads (text_from (c.k + c.u) t f xs) (text_from (c.k + c.v) t g ys)) where
  abbrev Below : ℕ → Result Step JsonFault → Type 0
  Below m r = IfOk r (λ s. length (step_rest s) < m)

  after_step : (t : List ℕ) {r s : Result Step JsonFault} → Alike c steps r s → Below f r → Below g s → Alike c reads (r >>= onto (c.k + c.u) f t) (s >>= onto (c.k + c.v) g t)
  after_step t (same (closed x) (closed y) e i) h k = same (t, x) (t, y) refl i
  after_step t (same (closed x) (adds b y) e i) h k = cc
  after_step t (same (adds a x) (closed y) e i) h k = cc
  after_step t (same (adds a x) (adds b y) e i) h k =
      let q : a ≡ b = cc in
      subst (λ z. Alike c reads (text_from (c.k + c.u) (t ++ a) f x) (text_from (c.k + c.v) (t ++ z) g y)) q (others (t ++ a) x y i (omega (arith, h)) (omega (arith, k)))
  after_step t (fault e) h k = fault e
  after_step t (late (Ok (closed x)) s i) h k = late (Ok (t, x)) (s >>= onto (c.k + c.v) g t) i
  after_step t (late (Ok (adds a x)) s i) h k = late (text_from (c.k + c.u) (t ++ a) f x) (s >>= onto (c.k + c.v) g t) (text_late c (t ++ a) f x i)
  after_step t (late (Err e) s i) h k = late (Err e) (s >>= onto (c.k + c.v) g t) i

  after_run : (t xs ys : List ℕ) → Alike c reads (split xs) (split ys) → length xs < suc f → length ys < suc g → Alike c reads (at_stop (c.k + c.u) (past_run xs) >>= onto (c.k + c.u) f (t ++ run xs)) (at_stop (c.k + c.v) (past_run ys) >>= onto (c.k + c.v) g (t ++ run ys))
  after_run t xs ys (same p q e i) h k =
      subst (λ z. Alike c reads (at_stop (c.k + c.u) (past_run xs) >>= onto (c.k + c.u) f (t ++ run xs)) (at_stop (c.k + c.v) (past_run ys) >>= onto (c.k + c.v) g (t ++ z))) e
      (after_step (t ++ run xs) (stop_good.local c (past_run xs) (past_run ys) i)
      (ok_map (λ s. length (step_rest s) < length xs) (λ s. length (step_rest s) < f) (at_stop (c.k + c.u) (past_run xs)) (split_less (c.k + c.u) xs) (λ s j. omega (arith, h, j)))
      (ok_map (λ s. length (step_rest s) < length ys) (λ s. length (step_rest s) < g) (at_stop (c.k + c.v) (past_run ys)) (split_less (c.k + c.v) ys) (λ s j. omega (arith, k, j))))
  after_run t xs ys (late p q i) h k =
      late (at_stop (c.k + c.u) (past_run xs) >>= onto (c.k + c.u) f (t ++ run xs)) (at_stop (c.k + c.v) (past_run ys) >>= onto (c.k + c.v) g (t ++ run ys))
      (late_then c steps reads (at_stop (c.k + c.u) (past_run xs)) (onto (c.k + c.u) f (t ++ run xs)) (stop_good.late c (past_run xs) i) (λ s j. after s j))
    where
      after : (s : Step) → length (step_rest s) ≤ c.u → Late c reads (onto (c.k + c.u) f (t ++ run xs) s)
      after (closed r) j = j
      after (adds a r) j = text_late c ((t ++ run xs) ++ a) f r j

text_alike : (c : Fork) (f g : ℕ) (t xs ys : List ℕ) → Front c xs ys → length xs < f → length ys < g → Alike c reads (text_from (c.k + c.u) t f xs) (text_from (c.k + c.v) t g ys)
unfolding text_from
text_alike c zero g t xs ys i h k = absurd (omega (arith, h))
text_alike c (suc f) zero t xs ys i h k = absurd (omega (arith, k))
text_alike c (suc f) (suc g) t xs ys i h k = after_run c f g (λ a b d j l m. text_alike c f g a b d j l m) t xs ys (split_good.local c xs ys i) h k

pub string_good : Good reads string
string_good = record {
  local = λ c xs ys i. text_alike c (length xs + 1) (length ys + 1) [] xs ys i (omega arith) (omega arith);
  late = λ c xs h. text_late c [] (length xs + 1) xs h;
  less = λ n xs. ok_map _ (λ p. length p.1 ≤ length xs) (string n xs) (text_read n [] (length xs + 1) xs) (λ p k. let h = text_less k.2 in omega (arith, h));
}
