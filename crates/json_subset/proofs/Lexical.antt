-- What is read of a number or a string is of the grammar.
use Rattle.std.proofs.Common.{◌≡◌, ℕ, zero, suc, ◌<◌, ◌≤◌, List, [], ◌∷◌, ◌++◌, Bool, true, false, refl, sym, ap, ◌∙◌, subst, arith, Option, Some, None, append_assoc, append-nil}
use Rattle.std.specs.Prelude.{Ok, Err, if◌then◌else◌, ◌==◌, nat_le, ◌&&◌, IfOk}
use Rattle.std.specs.Char.{encode_utf8}
use Rattle.std.proofs.lemmas.Bool.Decides.{nat_tests}
use Rattle.json_subset.specs.declared.fault.JsonFault.TheVariants.{Syntax}
use Rattle.json_subset.specs.Scan.{◌>>=◌, is_digit, place, word, after_digits, some_digits, whole_part, fraction, unsigned_exponent, exponent, after_number}
use Rattle.json_subset.specs.Strings.{is_plain, run, past_run, hex, hex_as, hex_digit, four, unit_end, first_unit, low_unit, is_high, pair_char, Step, closed, adds, second_half, unicode, short, escape_as, escape, at_stop, on_step, text_from}
use Rattle.json_subset.specs.Grammar as g
use Rattle.json_subset.specs.Grammar.{begins, Digits, last_digit, one_digit, Whole, zero_alone, not_from_zero, is_point, Fraction, no_fraction, is_e, is_sign, Exponent, no_exponent, signed_exponent, Numeral, positive, negative, Unit16, four_digits, IsSurrogate, IsHigh, IsLow, Text, text_end, text_plain, text_short, text_unit, text_pair}
use Rattle.json_subset.proofs.Leads.{Lead, one, ◌then◌}
use Rattle.json_subset.proofs.Moved.{unit_moved}
use Rattle.json_subset.proofs.Choices.{ok_then, ok_map, ok_if, byte_is, byte_is_not, hex_ascii, short_ascii}
use Rattle.json_subset.proofs.Rests.{Ahead, here, past_byte, ahead_more, unit_ahead}

-- digits, from the first on
digits_read : (b : ℕ) (bs : List ℕ) → is_digit b ≡ true → Digits (b ∷ bs) (after_digits bs)
digits_read b [] h = last_digit b [] h refl
digits_read b (c ∷ bs) h = go (digits_read c bs) (is_digit c) refl
  where
    go : (is_digit c ≡ true → Digits (c ∷ bs) (after_digits bs)) → (v : Bool) → is_digit c ≡ v → Digits (b ∷ c ∷ bs) (if v then after_digits bs else c ∷ bs)
    go more true e = one_digit b (c ∷ bs) (after_digits bs) h (more e)
    go more false e = last_digit b (c ∷ bs) h e

some_read : (n : ℕ) (bs : List ℕ) → IfOk (some_digits n bs) (λ rest. Digits bs rest)
some_read n [] = tt
some_read n (b ∷ bs) = ok_if (λ rest. Digits (b ∷ bs) rest) (is_digit b) (Ok (after_digits bs)) (Err (Syntax (place n (b ∷ bs)))) (λ h. digits_read b bs h) (λ h. tt)

at_byte : (P : ℕ → Type 0) (b c : ℕ) → (b == c) ≡ true → P c → P b
at_byte P b c e h = subst P (sym (byte_is b c e)) h

pub whole_read : (n : ℕ) (bs : List ℕ) → IfOk (whole_part n bs) (λ rest. Whole bs rest)
whole_read n [] = tt
whole_read n (b ∷ bs) =
    ok_if (λ rest. Whole (b ∷ bs) rest) (b == 48) (Ok bs) (some_digits n (b ∷ bs))
    (λ h. at_byte (λ z. Whole (z ∷ bs) bs) b 48 h (zero_alone bs))
    (λ h. ok_map (λ rest. Digits (b ∷ bs) rest) (λ rest. Whole (b ∷ bs) rest) (some_digits n (b ∷ bs)) (some_read n (b ∷ bs)) (λ rest d. not_from_zero b bs rest (byte_is_not b 48 h) d))

pub fraction_read : (n : ℕ) (bs : List ℕ) → IfOk (fraction n bs) (λ rest. Fraction bs rest)
fraction_read n [] = no_fraction [] refl
fraction_read n (b ∷ bs) =
    ok_if (λ rest. Fraction (b ∷ bs) rest) (b == 46) (some_digits n bs) (Ok (b ∷ bs))
    (λ h. ok_map (λ rest. Digits bs rest) (λ rest. Fraction (b ∷ bs) rest) (some_digits n bs) (some_read n bs) (λ rest d. at_byte (λ z. Fraction (z ∷ bs) rest) b 46 h (g.fraction bs rest d)))
    (λ h. no_fraction (b ∷ bs) h)

signed_read : (n e : ℕ) (bs : List ℕ) → is_e e ≡ true → IfOk (some_digits n (unsigned_exponent bs)) (λ rest. Exponent (e ∷ bs) rest)
signed_read n e [] h = tt
signed_read n e (s ∷ bs) h = go (is_sign s) refl
  where
    go : (v : Bool) → is_sign s ≡ v → IfOk (some_digits n (if v then bs else s ∷ bs)) (λ rest. Exponent (e ∷ s ∷ bs) rest)
    go true k = ok_map (λ rest. Digits bs rest) (λ rest. Exponent (e ∷ s ∷ bs) rest) (some_digits n bs) (some_read n bs) (λ rest d. signed_exponent e s bs rest h k d)
    go false k = ok_map (λ rest. Digits (s ∷ bs) rest) (λ rest. Exponent (e ∷ s ∷ bs) rest) (some_digits n (s ∷ bs)) (some_read n (s ∷ bs)) (λ rest d. g.exponent e (s ∷ bs) rest h d)

pub exponent_read : (n : ℕ) (bs : List ℕ) → IfOk (exponent n bs) (λ rest. Exponent bs rest)
exponent_read n [] = no_exponent [] refl
exponent_read n (b ∷ bs) =
    ok_if (λ rest. Exponent (b ∷ bs) rest) (is_e b) (some_digits n (unsigned_exponent bs)) (Ok (b ∷ bs)) (signed_read n b bs) (λ h. no_exponent (b ∷ bs) h)

parts_read : (n : ℕ) (bs all : List ℕ) → ((whole part rest : List ℕ) → Whole bs whole → Fraction whole part → Exponent part rest → Numeral all rest) → IfOk (whole_part n bs >>= λ w. fraction n w >>= λ f. exponent n f) (λ rest. Numeral all rest)
parts_read n bs all join =
    ok_then (λ w. Whole bs w) (λ rest. Numeral all rest) (whole_part n bs) (λ w. fraction n w >>= λ f. exponent n f) (whole_read n bs)
    (λ w hw. ok_then (λ f. Fraction w f) (λ rest. Numeral all rest) (fraction n w) (λ f. exponent n f) (fraction_read n w)
    (λ f hf. ok_map (λ rest. Exponent f rest) (λ rest. Numeral all rest) (exponent n f) (exponent_read n f) (λ rest he. join w f rest hw hf he)))

pub number_read : (n : ℕ) (bs : List ℕ) → IfOk (after_number n bs) (λ rest. Numeral bs rest)
number_read n [] = tt
number_read n (b ∷ bs) = go (b == 45) refl
  where
    go : (v : Bool) → (b == 45) ≡ v → IfOk (whole_part n (if v then bs else b ∷ bs) >>= λ w. fraction n w >>= λ f. exponent n f) (λ rest. Numeral (b ∷ bs) rest)
    go true h = parts_read n bs (b ∷ bs) (λ w f rest hw hf he. at_byte (λ z. Numeral (z ∷ bs) rest) b 45 h (negative bs w f rest hw hf he))
    go false h = parts_read n (b ∷ bs) (b ∷ bs) (λ w f rest hw hf he. positive (b ∷ bs) w f rest hw hf he)

-- a hexadecimal digit: what stood there
abbrev pub Hex : ℕ → ℕ → List ℕ → ℕ × List ℕ → Type 0
Hex low high bs p = (b : ℕ) × (bs ≡ b ∷ p.1) × (hex b ≡ Some p.0) × (low ≤ p.0) × (p.0 ≤ high)

pub hex_read : (n low high : ℕ) (bs : List ℕ) → IfOk (hex_digit n low high bs) (Hex low high bs)
hex_read n low high [] = tt
hex_read n low high (b ∷ bs) = go (hex b) refl
  where
    within : (v : ℕ) → (nat_le low v && nat_le v high) ≡ true → (low ≤ v) × (v ≤ high)
    within v h = grind (arith, nat_tests)

    go : (o : Option ℕ) → hex b ≡ o → IfOk (hex_as n low high b bs o) (Hex low high (b ∷ bs))
    go None e = tt
    go (Some v) e = ok_if (Hex low high (b ∷ bs)) (nat_le low v && nat_le v high) (Ok (v, bs)) (Err (Syntax (place n (b ∷ bs)))) (λ h. (b, refl, e, (within v h).0, (within v h).1)) (λ h. tt)

-- the last two digits of four
abbrev End : ℕ → ℕ → List ℕ → ℕ × List ℕ → Type 0
End a b bs p = (c d y z : ℕ) × (bs ≡ c ∷ d ∷ p.1) × (hex c ≡ Some y) × (hex d ≡ Some z) × (p.0 ≡ four a b y z)

end_read : (n a b : ℕ) (bs : List ℕ) → IfOk (unit_end n a b bs) (End a b bs)
end_read n a b bs =
    ok_then (Hex 0 15 bs) (End a b bs) (hex_digit n 0 15 bs) (λ c. hex_digit n 0 15 c.1 >>= λ d. Ok (four a b c.0 d.0, d.1)) (hex_read n 0 15 bs)
    (λ c hc. ok_then (Hex 0 15 c.1) (End a b bs) (hex_digit n 0 15 c.1) (λ d. Ok (four a b c.0 d.0, d.1)) (hex_read n 0 15 c.1)
    (λ d hd. (hc.0, hd.0, c.0, d.0, hc.1 ∙ ap (λ z. hc.0 ∷ z) hd.1, hc.2, hd.2, refl)))

abbrev pub IsUnit : (ℕ → Type 0) → List ℕ → ℕ × List ℕ → Type 0
IsUnit P bs p = Unit16 bs p.0 p.1 × P p.0

unit_from : (P : ℕ → Type 0) (w x : ℕ) (a b : ℕ) (bs cs : List ℕ) (p : ℕ × List ℕ) → bs ≡ a ∷ b ∷ cs → hex a ≡ Some w → hex b ≡ Some x → End w x cs p → ((y z : ℕ) → y < 16 → z < 16 → P (four w x y z)) → IsUnit P bs p
unit_from P w x a b bs cs p e ha hb k within =
    let Q : List ℕ → Type 0 = λ z. Unit16 z (four w x k.2 k.3) p.1 in
    let all : bs ≡ a ∷ b ∷ k.0 ∷ k.1 ∷ p.1 = e ∙ ap (λ z. a ∷ b ∷ z) k.4 in
    let R : ℕ → Type 0 = λ v. IsUnit P bs (v, p.1) in
    subst R (sym k.7) (subst Q (sym all) (four_digits a b k.0 k.1 w x k.2 k.3 p.1 ha hb k.5 k.6), within k.2 k.3 (hex_ascii k.0 k.2 k.5).1 (hex_ascii k.1 k.3 k.6).1)

-- the unit is a high surrogate, or no surrogate at all
abbrev pub First : ℕ → Type 0
First u = (is_high u ≡ true → IsHigh u) × (is_high u ≡ false → IsSurrogate u → ⊥)

pub first_within : (w x y z : ℕ) → w ≤ 15 → x ≤ (if w == 13 then 11 else 15) → y < 16 → z < 16 → First (four w x y z)
first_within w x y z h i j k = (high, other)
  where
    high : is_high (four w x y z) ≡ true → IsHigh (four w x y z)
    high e = grind (arith, nat_tests)

    other : is_high (four w x y z) ≡ false → IsSurrogate (four w x y z) → ⊥
    other e s = grind (arith, nat_tests)

pub first_read : (n : ℕ) (bs : List ℕ) → IfOk (first_unit n bs) (IsUnit First bs)
first_read n bs =
    ok_then (Hex 0 15 bs) (IsUnit First bs) (hex_digit n 0 15 bs) (λ a. hex_digit n 0 (if a.0 == 13 then 11 else 15) a.1 >>= λ b. unit_end n a.0 b.0 b.1) (hex_read n 0 15 bs)
    (λ a ha. ok_then (Hex 0 (if a.0 == 13 then 11 else 15) a.1) (IsUnit First bs) (hex_digit n 0 (if a.0 == 13 then 11 else 15) a.1) (λ b. unit_end n a.0 b.0 b.1) (hex_read n 0 (if a.0 == 13 then 11 else 15) a.1)
    (λ b hb. ok_map (End a.0 b.0 b.1) (IsUnit First bs) (unit_end n a.0 b.0 b.1) (end_read n a.0 b.0 b.1)
    (λ p k. unit_from First a.0 b.0 ha.0 hb.0 bs b.1 p (ha.1 ∙ ap (λ z. ha.0 ∷ z) hb.1) ha.2 hb.2 k (λ y z i j. first_within a.0 b.0 y z ha.4 hb.4 i j))))

pub low_within : (w x y z : ℕ) → 13 ≤ w → w ≤ 13 → 12 ≤ x → x ≤ 15 → y < 16 → z < 16 → IsLow (four w x y z)
low_within w x y z a b c d i j = (omega arith, omega arith)

pub low_read : (n : ℕ) (bs : List ℕ) → IfOk (low_unit n bs) (IsUnit IsLow bs)
low_read n bs =
    ok_then (Hex 13 13 bs) (IsUnit IsLow bs) (hex_digit n 13 13 bs) (λ a. hex_digit n 12 15 a.1 >>= λ b. unit_end n a.0 b.0 b.1) (hex_read n 13 13 bs)
    (λ a ha. ok_then (Hex 12 15 a.1) (IsUnit IsLow bs) (hex_digit n 12 15 a.1) (λ b. unit_end n a.0 b.0 b.1) (hex_read n 12 15 a.1)
    (λ b hb. ok_map (End a.0 b.0 b.1) (IsUnit IsLow bs) (unit_end n a.0 b.0 b.1) (end_read n a.0 b.0 b.1)
    (λ p k. unit_from IsLow a.0 b.0 ha.0 hb.0 bs b.1 p (ha.1 ∙ ap (λ z. ha.0 ∷ z) hb.1) ha.2 hb.2 k (λ y z i j. low_within a.0 b.0 y z ha.3 ha.4 hb.3 hb.4 i j))))

-- what a step adds goes before the text of what follows, whatever follows
abbrev pub Adds : List ℕ → Step → Type 0
Adds all (closed rest) = ⊥
Adds all (adds u rest) = (lead : Lead) × (all ≡ lead.put rest) × Ahead all rest × ((r t end : List ℕ) → Text r t end → Text (lead.put r) (u ++ t) end)

behind_u : (bs rest : List ℕ) → Ahead bs rest → Ahead (92 ∷ 117 ∷ bs) rest
behind_u bs rest p = past_byte 92 (117 ∷ bs) rest (omega arith) (past_byte 117 bs rest (omega arith) p)

pub word_u : (n : ℕ) (bs : List ℕ) → IfOk (word n (92 ∷ 117 ∷ []) bs) (λ rest. bs ≡ 92 ∷ 117 ∷ rest)
word_u n [] = tt
word_u n (b ∷ bs) = ok_if (λ rest. b ∷ bs ≡ 92 ∷ 117 ∷ rest) (b == 92) (word n (117 ∷ []) bs) (Err (Syntax (place n (b ∷ bs)))) (λ h. inner bs (byte_is b 92 h)) (λ h. tt)
  where
    inner : (cs : List ℕ) → b ≡ 92 → IfOk (word n (117 ∷ []) cs) (λ rest. b ∷ cs ≡ 92 ∷ 117 ∷ rest)
    inner [] e = tt
    inner (c ∷ cs) e = ok_if (λ rest. b ∷ c ∷ cs ≡ 92 ∷ 117 ∷ rest) (c == 117) (Ok cs) (Err (Syntax (place n (c ∷ cs)))) (λ h. (let k = byte_is c 117 h in cc)) (λ h. tt)

second_read : (n u : ℕ) (bs more : List ℕ) → Unit16 bs u more → IsHigh u → IfOk (second_half n u more) (Adds (92 ∷ 117 ∷ bs))
second_read n u bs more d high =
    ok_then (λ k. more ≡ 92 ∷ 117 ∷ k) (Adds (92 ∷ 117 ∷ bs)) (word n (92 ∷ 117 ∷ []) more) (λ k. low_unit n k >>= λ v. Ok (adds (encode_utf8 (pair_char u v.0)) v.1)) (word_u n more)
    (λ k e. ok_then (IsUnit IsLow k) (Adds (92 ∷ 117 ∷ bs)) (low_unit n k) (λ v. Ok (adds (encode_utf8 (pair_char u v.0)) v.1)) (low_read n k)
    (λ v hv.
    let P : List ℕ → Type 0 = λ z. Unit16 bs u z in
    let p = unit_moved (subst P e d) in
    let q = unit_moved hv.0 in (
      one 92 then one 117 then p.lead then one 92 then one 117 then q.lead,
      ap (λ z. 92 ∷ 117 ∷ z) (p.joined ∙ ap (λ z. p.lead.put (92 ∷ 117 ∷ z)) q.joined),
      behind_u bs v.1 (ahead_more (unit_ahead (subst P e d)) (behind_u k v.1 (unit_ahead hv.0))),
      λ r t end rest. text_pair u v.0 (p.lead.put (92 ∷ 117 ∷ q.lead.put r)) (q.lead.put r) r t end (p.moved (92 ∷ 117 ∷ q.lead.put r)) high (q.moved r) hv.1 rest,
    )))

unicode_read : (n : ℕ) (bs : List ℕ) → IfOk (unicode n bs) (Adds (92 ∷ 117 ∷ bs))
unicode_read n bs =
    ok_then (IsUnit First bs) (Adds (92 ∷ 117 ∷ bs)) (first_unit n bs) (λ u. if is_high u.0 then second_half n u.0 u.1 else Ok (adds (encode_utf8 u.0) u.1)) (first_read n bs)
    (λ u hu. ok_if (Adds (92 ∷ 117 ∷ bs)) (is_high u.0) (second_half n u.0 u.1) (Ok (adds (encode_utf8 u.0) u.1))
    (λ h. second_read n u.0 bs u.1 hu.0 (hu.1.0 h))
    (λ h. let p = unit_moved hu.0 in (one 92 then one 117 then p.lead, ap (λ z. 92 ∷ 117 ∷ z) p.joined, behind_u bs u.1 (unit_ahead hu.0), λ r t end d. text_unit u.0 (p.lead.put r) r t end (p.moved r) (hu.1.1 h) d)))

escape_read : (n : ℕ) (bs : List ℕ) → IfOk (escape n bs) (Adds (92 ∷ bs))
escape_read n [] = tt
escape_read n (b ∷ bs) =
    ok_if (Adds (92 ∷ b ∷ bs)) (b == 117) (unicode n bs) (escape_as n b bs (short b))
    (λ h. at_byte (λ z. IfOk (unicode n bs) (Adds (92 ∷ z ∷ bs))) b 117 h (unicode_read n bs))
    (λ h. go (short b) refl)
  where
    go : (o : Option ℕ) → short b ≡ o → IfOk (escape_as n b bs o) (Adds (92 ∷ b ∷ bs))
    go None e = tt
    go (Some c) e = (one 92 then one b, refl, past_byte 92 (b ∷ bs) bs (omega arith) (past_byte b bs bs (short_ascii b c e).0 (here bs)), λ r t end d. text_short b c r t end e d)

-- behind plain bytes
abbrev pub Stops : List ℕ → Step → Type 0
Stops bs (closed rest) = bs ≡ 34 ∷ rest
Stops bs (adds u rest) = (lead : Lead) × (bs ≡ lead.put rest) × Ahead bs rest × ((r t end : List ℕ) → Text r t end → Text (lead.put r) (u ++ t) end)

stops_from_adds : (bs : List ℕ) (s : Step) → Adds bs s → Stops bs s
stops_from_adds bs (closed rest) h = absurd h
stops_from_adds bs (adds u rest) h = h

pub stop_read : (n : ℕ) (bs : List ℕ) → IfOk (at_stop n bs) (Stops bs)
stop_read n [] = tt
stop_read n (b ∷ bs) =
    ok_if (Stops (b ∷ bs)) (b == 34) (Ok (closed bs)) (if b == 92 then escape n bs else Err (Syntax (place n (b ∷ bs))))
    (λ h. ap (λ z. z ∷ bs) (byte_is b 34 h))
    (λ h. ok_if (Stops (b ∷ bs)) (b == 92) (escape n bs) (Err (Syntax (place n (b ∷ bs))))
    (λ k. at_byte (λ z. IfOk (escape n bs) (Stops (z ∷ bs))) b 92 k (ok_map (Adds (92 ∷ bs)) (Stops (92 ∷ bs)) (escape n bs) (escape_read n bs) (stops_from_adds (92 ∷ bs))))
    (λ k. tt))

-- plain bytes go before a text
plain_before : (bs t rest : List ℕ) → Text (past_run bs) t rest → Text bs (run bs ++ t) rest
plain_before [] t rest d = d
plain_before (b ∷ bs) t rest d = go (plain_before bs t rest) (is_plain b) refl d
  where
    go : (Text (past_run bs) t rest → Text bs (run bs ++ t) rest) → (v : Bool) → is_plain b ≡ v → Text (if v then past_run bs else b ∷ bs) t rest → Text (b ∷ bs) ((if v then b ∷ run bs else []) ++ t) rest
    go more true e k = text_plain b bs (run bs ++ t) rest e (more k)
    go more false e k = k

abbrev ReadText : List ℕ → List ℕ → List ℕ × List ℕ → Type 0
ReadText before bs p = (t : List ℕ) × (p.0 ≡ before ++ t) × Text bs t p.1

pub text_read : (n : ℕ) (before : List ℕ) (f : ℕ) (bs : List ℕ) → IfOk (text_from n before f bs) (ReadText before bs)
unfolding text_from
text_read n before zero bs = tt
text_read n before (suc f) bs =
    ok_then (Stops (past_run bs)) (ReadText before bs) (at_stop n (past_run bs)) (λ s. on_step (λ t rest. text_from n t f rest) (before ++ run bs) s) (stop_read n (past_run bs)) (go (λ u cs. text_read n u f cs))
  where
    go : ((u cs : List ℕ) → IfOk (text_from n u f cs) (ReadText u cs)) → (s : Step) → Stops (past_run bs) s → IfOk (on_step (λ t rest. text_from n t f rest) (before ++ run bs) s) (ReadText before bs)
    go more (closed rest) h =
        let P : List ℕ → Type 0 = λ z. Text z [] rest in
        (run bs ++ [], ap (λ z. before ++ z) (sym (append-nil (run bs))), plain_before bs [] rest (subst P (sym h) (text_end rest)))
    go more (adds u rest) h =
        ok_map (ReadText ((before ++ run bs) ++ u) rest) (ReadText before bs) (text_from n ((before ++ run bs) ++ u) f rest) (more ((before ++ run bs) ++ u) rest)
        (λ p k. (run bs ++ (u ++ k.0), k.1 ∙ append_assoc (before ++ run bs) u k.0 ∙ append_assoc before (run bs) (u ++ k.0), plain_before bs (u ++ k.0) p.1 (let P : List ℕ → Type 0 = λ z. Text z (u ++ k.0) p.1 in subst P (sym h.1) (h.3 rest k.0 p.1 k.2))))
