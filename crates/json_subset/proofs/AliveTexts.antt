-- What was read of a string before a fault can be completed.
use Rattle.std.proofs.Common.{◌≡◌, ℕ, zero, suc, ◌+◌, ◌<◌, ◌≤◌, List, [], ◌∷◌, ◌++◌, length, Bool, true, false, Option, Some, None, refl, sym, ap, subst, arith}
use Rattle.std.specs.Prelude.{Ok, if◌then◌else◌, ◌==◌, nat_le, ◌&&◌}
use Rattle.std.specs.Char.{encode_utf8}
use Rattle.std.specs.Str.{IsUtf8}
use Rattle.std.proofs.lemmas.Str.{IsUtf8-append, IsUtf8-nil}
use Rattle.std.proofs.lemmas.Bool.Decides.{nat_tests}
use Rattle.json_subset.specs.Scan.{◌>>=◌}
use Rattle.json_subset.specs.Strings.{is_plain, run, past_run, hex, hex_as, hex_digit, four, unit_end, first_unit, low_unit, is_high, pair_char, Step, closed, adds, second_half, unicode, short, escape_as, escape, at_stop, on_step, text_from, string}
use Rattle.json_subset.specs.Compact.{in_string, compact_from}
use Rattle.json_subset.specs.Grammar.{Unit16, four_digits, IsHigh, IsLow, Text, text_end, text_plain, text_short, text_unit, text_pair}
use Rattle.json_subset.proofs.Choices.{byte_is, hex_ascii}
use Rattle.json_subset.proofs.Cut.{utf8_tail, utf8_back}
use Rattle.json_subset.proofs.Endings.{ascii, Alive, read, alive_then, alive_if, alive_more, alive_with, ends_here, ends_at_end, word_alive}
use Rattle.json_subset.proofs.Ways.{Way, way_then, way_byte}
use Rattle.json_subset.proofs.Leads.{one, ◌then◌, put_front}
use Rattle.json_subset.proofs.Lexical.{Hex, hex_read, IsUnit, First, first_read, low_read, first_within, low_within, Stops, stop_read, word_u}
use Rattle.json_subset.proofs.Moved.{Calm, Inner, unit_moved}
use Rattle.json_subset.proofs.Rests.{one_utf8, unit_ahead, ahead_utf8}

-- some text up to its closing quote
abbrev pub SomeText : List ℕ → List ℕ → Type 0
SomeText z r = (t : List ℕ) × Text z t r

-- these bytes and no others
abbrev Only : List ℕ → List ℕ → List ℕ → Type 0
Only x z r = z ≡ x ++ r

-- a hexadecimal digit that is missing
hex_alive : {G : List ℕ → List ℕ → Type 0} (n low high : ℕ) (bs x : List ℕ) → ascii x ≡ true → ((r : List ℕ) → Calm r → G (x ++ r) r) → Alive n bs G (hex_digit n low high bs)
hex_alive n low high [] x u h = ends_at_end n x u h
hex_alive {G = G} n low high (b ∷ bs) x u h = go (hex b)
  where
    go : (o : Option ℕ) → Alive n (b ∷ bs) G (hex_as n low high b bs o)
    go None = ends_here n (b ∷ bs) x u h
    go (Some v) = alive_if (nat_le low v && nat_le v high) (λ e. read (v, bs)) (λ e. ends_here n (b ∷ bs) x u h)

abbrev hex_way : {low high : ℕ} {bs : List ℕ} {p : ℕ × List ℕ} → Hex low high bs p → Way bs p.1
hex_way {bs = bs} {p = p} h = record { lead = one h.0; joined = h.1; utf8 = λ u. utf8_tail h.0 p.1 (hex_ascii h.0 p.0 h.2).0 (subst IsUtf8 h.1 u) }

-- what may follow these bytes so that a text stands
pub record Finish (G : List ℕ → List ℕ → Type 0) (front : List ℕ) : Type 0 where
  pub rest : List ℕ
  pub plain : ascii rest ≡ true
  pub whole : (r : List ℕ) → Calm r → G (front ++ (rest ++ r)) r

end_alive : {G : List ℕ → List ℕ → Type 0} (n a b : ℕ) (bs : List ℕ) → ((c d y z : ℕ) → hex c ≡ Some y → hex d ≡ Some z → Finish G (c ∷ d ∷ [])) → Alive n bs G (unit_end n a b bs)
end_alive {G = G} n a b bs finish =
    let p = finish 48 48 0 0 refl refl in
    alive_then (Hex 0 15 bs) (λ c. hex_digit n 0 15 c.1 >>= λ d. Ok (four a b c.0 d.0, d.1)) (hex_read n 0 15 bs) (hex_alive n 0 15 bs (48 ∷ 48 ∷ p.rest) p.plain p.whole)
    (λ c h.
    let q = finish h.0 48 c.0 0 h.2 refl in
    alive_then (Hex 0 15 c.1) (λ d. Ok (four a b c.0 d.0, d.1)) (hex_read n 0 15 c.1)
    (alive_more (hex_way h) (hex_alive {G = λ z r. G (h.0 ∷ z) r} n 0 15 c.1 (48 ∷ q.rest) q.plain q.whole) (λ z r k g. g))
    (λ d i. read (four a b c.0 d.0, d.1)))

first_alive : {G : List ℕ → List ℕ → Type 0} (n : ℕ) (bs : List ℕ) → ((a b c d w x y z : ℕ) → hex a ≡ Some w → hex b ≡ Some x → hex c ≡ Some y → hex d ≡ Some z → First (four w x y z) → Finish G (a ∷ b ∷ c ∷ d ∷ [])) → Alive n bs G (first_unit n bs)
first_alive {G = G} n bs finish =
    let p = finish 48 48 48 48 0 0 0 0 refl refl refl refl (first_within 0 0 0 0 (omega arith) (omega arith) (omega arith) (omega arith)) in
    alive_then (Hex 0 15 bs) (λ a. hex_digit n 0 (if a.0 == 13 then 11 else 15) a.1 >>= λ b. unit_end n a.0 b.0 b.1) (hex_read n 0 15 bs) (hex_alive n 0 15 bs (48 ∷ 48 ∷ 48 ∷ 48 ∷ p.rest) p.plain p.whole)
    (λ a h.
    let q = finish h.0 48 48 48 a.0 0 0 0 h.2 refl refl refl (first_within a.0 0 0 0 h.4 (zero_within (a.0 == 13)) (omega arith) (omega arith)) in
    alive_then (Hex 0 (if a.0 == 13 then 11 else 15) a.1) (λ b. unit_end n a.0 b.0 b.1) (hex_read n 0 (if a.0 == 13 then 11 else 15) a.1)
    (alive_more (hex_way h) (hex_alive {G = λ z r. G (h.0 ∷ z) r} n 0 (if a.0 == 13 then 11 else 15) a.1 (48 ∷ 48 ∷ 48 ∷ q.rest) q.plain q.whole) (λ z r k g. g))
    (λ b i. alive_more (way_then (hex_way h) (hex_way i))
    (end_alive {G = λ z r. G (h.0 ∷ i.0 ∷ z) r} n a.0 b.0 b.1
    (λ c d y z j l. let f = finish h.0 i.0 c d a.0 b.0 y z h.2 i.2 j l (first_within a.0 b.0 y z h.4 i.4 (hex_ascii c y j).1 (hex_ascii d z l).1) in record { rest = f.rest; plain = f.plain; whole = f.whole }))
    (λ z r k g. g)))
  where
    zero_within : (v : Bool) → 0 ≤ (if v then 11 else 15)
    zero_within v = omega arith

-- the other half of a pair, and some text behind it
abbrev LowText : List ℕ → List ℕ → Type 0
LowText z r = (v : ℕ) × (behind t : List ℕ) × Unit16 z v behind × IsLow v × Text behind t r

low_finish : (a b c d w x y z : ℕ) (r : List ℕ) → hex a ≡ Some w → hex b ≡ Some x → hex c ≡ Some y → hex d ≡ Some z → IsLow (four w x y z) → LowText (a ∷ b ∷ c ∷ d ∷ 34 ∷ r) r
low_finish a b c d w x y z r i j k l h = (four w x y z, 34 ∷ r, [], four_digits a b c d w x y z (34 ∷ r) i j k l, h, text_end r)

low_alive : (n : ℕ) (bs : List ℕ) → Alive n bs LowText (low_unit n bs)
low_alive n bs =
    alive_then (Hex 13 13 bs) (λ a. hex_digit n 12 15 a.1 >>= λ b. unit_end n a.0 b.0 b.1) (hex_read n 13 13 bs)
    (hex_alive n 13 13 bs (100 ∷ 99 ∷ 48 ∷ 48 ∷ 34 ∷ []) refl (λ r k. low_finish 100 99 48 48 13 12 0 0 r refl refl refl refl (omega arith, omega arith)))
    (λ a h. alive_then (Hex 12 15 a.1) (λ b. unit_end n a.0 b.0 b.1) (hex_read n 12 15 a.1)
    (alive_more (hex_way h) (hex_alive {G = λ z r. LowText (h.0 ∷ z) r} n 12 15 a.1 (99 ∷ 48 ∷ 48 ∷ 34 ∷ []) refl (λ r k. low_finish h.0 99 48 48 a.0 12 0 0 r h.2 refl refl refl (low_within a.0 12 0 0 h.3 h.4 (omega arith) (omega arith) (omega arith) (omega arith)))) (λ z r k g. g))
    (λ b i. alive_more (way_then (hex_way h) (hex_way i))
    (end_alive {G = λ z r. LowText (h.0 ∷ i.0 ∷ z) r} n a.0 b.0 b.1
    (λ c d y z j l. record { rest = 34 ∷ []; plain = refl; whole = λ r k. low_finish h.0 i.0 c d a.0 b.0 y z r h.2 i.2 j l (low_within a.0 b.0 y z h.3 h.4 i.3 i.4 (hex_ascii c y j).1 (hex_ascii d z l).1) }))
    (λ z r k g. g)))

abbrev PairText : List ℕ → List ℕ → Type 0
PairText z r = (k : List ℕ) × (z ≡ 92 ∷ 117 ∷ k) × LowText k r

abbrev u_way : (bs k : List ℕ) → bs ≡ 92 ∷ 117 ∷ k → Way bs k
u_way bs k e = record { lead = one 92 then one 117; joined = e; utf8 = λ u. utf8_tail 117 k (omega arith) (utf8_tail 92 (117 ∷ k) (omega arith) (subst IsUtf8 e u)) }

second_alive : (n u : ℕ) (bs : List ℕ) → Alive n bs PairText (second_half n u bs)
second_alive n u bs =
    alive_then (λ k. bs ≡ 92 ∷ 117 ∷ k) (λ k. low_unit n k >>= λ v. Ok (adds (encode_utf8 (pair_char u v.0)) v.1)) (word_u n bs)
    (alive_with (100 ∷ 99 ∷ 48 ∷ 48 ∷ 34 ∷ []) refl (λ r k. record { digit = refl; point = refl; e = refl }) (word_alive n (92 ∷ 117 ∷ []) bs refl)
    (λ z r k e. (100 ∷ 99 ∷ 48 ∷ 48 ∷ 34 ∷ r, e, low_finish 100 99 48 48 13 12 0 0 r refl refl refl refl (omega arith, omega arith))))
    (λ k e. alive_then (IsUnit IsLow k) (λ v. Ok (adds (encode_utf8 (pair_char u v.0)) v.1)) (low_read n k)
    (alive_more (u_way bs k e) (low_alive n k) (λ z r i g. (z, refl, g)))
    (λ v h. read (adds (encode_utf8 (pair_char u v.0)) v.1)))

unit_finish : (a b c d w x y z : ℕ) → hex a ≡ Some w → hex b ≡ Some x → hex c ≡ Some y → hex d ≡ Some z → First (four w x y z) → (v : Bool) → is_high (four w x y z) ≡ v → Finish (λ s r. SomeText (92 ∷ 117 ∷ s) r) (a ∷ b ∷ c ∷ d ∷ [])
unit_finish a b c d w x y z i j k l h true e = record {
  rest = 92 ∷ 117 ∷ 100 ∷ 99 ∷ 48 ∷ 48 ∷ 34 ∷ [];
  plain = refl;
  whole = λ r m. (encode_utf8 (pair_char (four w x y z) (four 13 12 0 0)) ++ [], text_pair (four w x y z) (four 13 12 0 0) (a ∷ b ∷ c ∷ d ∷ 92 ∷ 117 ∷ 100 ∷ 99 ∷ 48 ∷ 48 ∷ 34 ∷ r) (100 ∷ 99 ∷ 48 ∷ 48 ∷ 34 ∷ r) (34 ∷ r) [] r (four_digits a b c d w x y z (92 ∷ 117 ∷ 100 ∷ 99 ∷ 48 ∷ 48 ∷ 34 ∷ r) i j k l) (h.0 e) (four_digits 100 99 48 48 13 12 0 0 (34 ∷ r) refl refl refl refl) (omega arith, omega arith) (text_end r));
}
unit_finish a b c d w x y z i j k l h false e = record {
  rest = 34 ∷ [];
  plain = refl;
  whole = λ r m. (encode_utf8 (four w x y z) ++ [], text_unit (four w x y z) (a ∷ b ∷ c ∷ d ∷ 34 ∷ r) (34 ∷ r) [] r (four_digits a b c d w x y z (34 ∷ r) i j k l) (h.1 e) (text_end r));
}

unicode_alive : (n : ℕ) (bs : List ℕ) → Alive n bs (λ z r. SomeText (92 ∷ 117 ∷ z) r) (unicode n bs)
unicode_alive n bs =
    alive_then (IsUnit First bs) (λ u. if is_high u.0 then second_half n u.0 u.1 else Ok (adds (encode_utf8 u.0) u.1)) (first_read n bs)
    (first_alive n bs (λ a b c d w x y z i j k l h. unit_finish a b c d w x y z i j k l h (is_high (four w x y z)) refl))
    (λ u h. alive_if (is_high u.0)
    (λ e. let p = unit_moved h.0 in
    alive_more (record { lead = p.lead; joined = p.joined; utf8 = λ v. ahead_utf8 (unit_ahead h.0) v }) (second_alive n u.0 u.1) (λ z r k g. pair_of u.0 z r p (h.1.0 e) g))
    (λ e. read (adds (encode_utf8 u.0) u.1)))
  where
    pair_of : {bs rest : List ℕ} (u : ℕ) (z r : List ℕ) (p : Inner (λ s t. Unit16 s u t) (compact_from in_string) bs rest) → IsHigh u → PairText z r → SomeText (92 ∷ 117 ∷ p.lead.put z) r
    pair_of u z r p h g =
        let m = g.2 in
        (encode_utf8 (pair_char u m.0) ++ m.2, subst (λ s. Text (92 ∷ 117 ∷ p.lead.put s) (encode_utf8 (pair_char u m.0) ++ m.2) r) (sym g.1) (text_pair u m.0 (p.lead.put (92 ∷ 117 ∷ g.0)) g.0 m.1 m.2 r (p.moved (92 ∷ 117 ∷ g.0)) h m.3 m.4 m.5))

escape_alive : (n : ℕ) (bs : List ℕ) → Alive n bs (λ z r. SomeText (92 ∷ z) r) (escape n bs)
escape_alive n [] = ends_at_end n (110 ∷ 34 ∷ []) refl (λ r k. (10 ∷ [], text_short 110 10 (34 ∷ r) [] r refl (text_end r)))
escape_alive n (b ∷ bs) =
    alive_if (b == 117)
    (λ e. subst (λ c. Alive n (c ∷ bs) (λ z r. SomeText (92 ∷ z) r) (unicode n bs)) (sym (byte_is b 117 e)) (alive_more (way_byte 117 bs (omega arith)) (unicode_alive n bs) (λ z r k g. g)))
    (λ e. go (short b))
  where
    go : (o : Option ℕ) → Alive n (b ∷ bs) (λ z r. SomeText (92 ∷ z) r) (escape_as n b bs o)
    go None = ends_here n (b ∷ bs) (110 ∷ 34 ∷ []) refl (λ r k. (10 ∷ [], text_short 110 10 (34 ∷ r) [] r refl (text_end r)))
    go (Some c) = read (adds (c ∷ []) bs)

stop_alive : (n : ℕ) (bs : List ℕ) → Alive n bs SomeText (at_stop n bs)
stop_alive n [] = ends_at_end n (34 ∷ []) refl (λ r k. ([], text_end r))
stop_alive n (b ∷ bs) =
    alive_if (b == 34) (λ e. read (closed bs))
    (λ e. alive_if (b == 92)
    (λ i. subst (λ c. Alive n (c ∷ bs) SomeText (escape n bs)) (sym (byte_is b 92 i)) (alive_more (way_byte 92 bs (omega arith)) (escape_alive n bs) (λ z r k g. g)))
    (λ i. ends_here n (b ∷ bs) (34 ∷ []) refl (λ r k. ([], text_end r))))

-- plain bytes
run_joined : (bs : List ℕ) → bs ≡ run bs ++ past_run bs
run_joined [] = refl
run_joined (b ∷ bs) = go (run_joined bs) (is_plain b)
  where
    go : bs ≡ run bs ++ past_run bs → (v : Bool) → b ∷ bs ≡ (if v then b ∷ run bs else []) ++ (if v then past_run bs else b ∷ bs)
    go h true = ap (λ z. b ∷ z) h
    go h false = refl

-- the end, or an ASCII byte
abbrev IfStop : List ℕ → Type 0
IfStop [] = Unit {0}
IfStop (b ∷ bs) = b < 128

run_stops : (bs : List ℕ) → IfStop (past_run bs)
run_stops [] = tt
run_stops (b ∷ bs) = go (run_stops bs) (is_plain b) refl
  where
    small : (b : ℕ) → is_plain b ≡ false → b < 128
    small b e = grind (arith, nat_tests)

    go : IfStop (past_run bs) → (v : Bool) → is_plain b ≡ v → IfStop (if v then past_run bs else b ∷ bs)
    go h true e = h
    go h false e = small b e

run_utf8 : (front rest : List ℕ) → IfStop rest → IsUtf8 (front ++ rest) → IsUtf8 rest
run_utf8 front [] h u = IsUtf8-nil
run_utf8 front (b ∷ rest) h u = IsUtf8-append (b ∷ []) rest (one_utf8 b h) (utf8_back front b rest h u)

abbrev run_way : (bs : List ℕ) → Way bs (past_run bs)
run_way bs = record { lead = put_front (run bs); joined = run_joined bs; utf8 = λ u. run_utf8 (run bs) (past_run bs) (run_stops bs) (subst IsUtf8 (run_joined bs) u) }

run_text : (bs z t r : List ℕ) → Text z t r → Text (run bs ++ z) (run bs ++ t) r
run_text [] z t r d = d
run_text (b ∷ bs) z t r d = go (run_text bs z t r d) (is_plain b) refl
  where
    go : Text (run bs ++ z) (run bs ++ t) r → (v : Bool) → is_plain b ≡ v → Text ((if v then b ∷ run bs else []) ++ z) ((if v then b ∷ run bs else []) ++ t) r
    go h true e = text_plain b (run bs ++ z) (run bs ++ t) r e h
    go h false e = d

text_alive : (n : ℕ) (before : List ℕ) (f : ℕ) (bs : List ℕ) → Alive n bs SomeText (text_from n before f bs)
unfolding text_from
text_alive n before zero bs = ends_here n bs (34 ∷ []) refl (λ r k. ([], text_end r))
text_alive n before (suc f) bs =
    alive_then (Stops (past_run bs)) (λ s. on_step (λ t rest. text_from n t f rest) (before ++ run bs) s) (stop_read n (past_run bs))
    (alive_more (run_way bs) (stop_alive n (past_run bs)) (λ z r k g. (run bs ++ g.0, run_text bs z g.0 r g.1)))
    (go (λ t rest. text_alive n t f rest))
  where
    go : ((t rest : List ℕ) → Alive n rest SomeText (text_from n t f rest)) → (s : Step) → Stops (past_run bs) s → Alive n bs SomeText (on_step (λ t rest. text_from n t f rest) (before ++ run bs) s)
    go others (closed rest) h = read (before ++ run bs, rest)
    go others (adds u rest) h =
        alive_more (way_then (run_way bs) (record { lead = h.0; joined = h.1; utf8 = λ v. ahead_utf8 h.2 v })) (others ((before ++ run bs) ++ u) rest)
        (λ z r k g. (run bs ++ (u ++ g.0), run_text bs (h.0.put z) (u ++ g.0) r (h.3 z g.0 r g.1)))

pub string_alive : (n : ℕ) (bs : List ℕ) → Alive n bs SomeText (string n bs)
string_alive n bs = text_alive n [] (length bs + 1) bs
