-- What was read before a fault can be completed.
use Rattle.std.proofs.Common.{◌≡◌, ℕ, ◌<◌, ◌≤◌, List, [], ◌∷◌, ◌++◌, Bool, true, false, refl, sym, ap, ◌∙◌, subst, arith}
use Rattle.std.specs.Prelude.{Ok, Err, Result, if◌then◌else◌, ◌==◌, IfOk, nat_lt, ◌&&◌}
use Rattle.std.specs.Str.{IsUtf8}
use Rattle.std.proofs.lemmas.Str.{IsUtf8-append, IsUtf8-nil}
use Rattle.std.proofs.lemmas.Bool.Decides.{nat_tests}
use Rattle.json_subset.specs.declared.fault.JsonFault.{JsonFault}
use Rattle.json_subset.specs.declared.fault.JsonFault.TheVariants.{Syntax, Depth, Repeated, NotUtf8, Memory}
use Rattle.json_subset.specs.Scan.{◌>>=◌, place, is_digit, after_digits, some_digits, whole_part, fraction, unsigned_exponent, exponent, after_number, word}
use Rattle.json_subset.specs.Grammar as g
use Rattle.json_subset.specs.Grammar.{begins, Digits, last_digit, Whole, zero_alone, is_point, Fraction, no_fraction, is_e, is_sign, Exponent, no_exponent, signed_exponent, Numeral, positive, negative}
use Rattle.json_subset.proofs.Choices.{byte_is}
use Rattle.json_subset.proofs.Leads.{Lead, none, ◌then◌, put_front}
use Rattle.json_subset.proofs.Ways.{Way, way_then, way_byte}
use Rattle.json_subset.proofs.Lexical.{whole_read, fraction_read}
use Rattle.json_subset.proofs.Moved.{Calm, Piece, whole_moved, fraction_moved}
use Rattle.json_subset.proofs.Rests.{ahead_utf8, one_utf8, whole_ahead, fraction_ahead}

-- these bytes are ASCII
abbrev pub ascii : List ℕ → Bool
ascii [] = true
ascii (b ∷ bs) = nat_lt b 128 && ascii bs

both_true : (a b : Bool) → (a && b) ≡ true → (a ≡ true) × (b ≡ true)
both_true true b e = (refl, e)
both_true false b e = cc

small_byte : (b : ℕ) → nat_lt b 128 ≡ true → b < 128
small_byte b e = grind (arith, nat_tests)

pub ascii_utf8 : (x : List ℕ) → ascii x ≡ true → IsUtf8 x
ascii_utf8 [] e = IsUtf8-nil
ascii_utf8 (b ∷ x) e = let k = both_true (nat_lt b 128) (ascii x) e in IsUtf8-append (b ∷ []) x (one_utf8 b (small_byte b k.0)) (ascii_utf8 x k.1)

-- the fault was met behind so many bytes, or later
abbrev pub IsWithin : ℕ → JsonFault → Type 0
IsWithin m (Syntax p) = p ≤ m
IsWithin m (Depth p) = p < m
IsWithin m (Repeated p) = p < m
IsWithin m (NotUtf8 p) = ⊥
IsWithin m Memory = ⊥

-- what is before the fault, and what follows it in some text of the grammar
pub record Completed (n : ℕ) (bs : List ℕ) (e : JsonFault) (G : List ℕ → List ℕ → Type 0) : Type 0 where
  pub tail : List ℕ
  pub way : Way bs tail
  pub reached : IsWithin (place n tail) e
  pub ending : Lead
  pub utf8 : (x : List ℕ) → IsUtf8 x → IsUtf8 (ending.put x)
  pub whole : (r : List ℕ) → Calm r → G (way.lead.put (ending.put r)) r

pub complete_here : {G : List ℕ → List ℕ → Type 0} (n : ℕ) (bs : List ℕ) (e : JsonFault) (x : List ℕ) → IsWithin (place n bs) e → IsUtf8 x → ((r : List ℕ) → Calm r → G (x ++ r) r) → Completed n bs e G
complete_here n bs e x h u w = record { tail = bs; way = record { lead = none; joined = refl; utf8 = λ v. v }; reached = h; ending = put_front x; utf8 = λ y v. IsUtf8-append x y u v; whole = w }

pub complete_more : {G H : List ℕ → List ℕ → Type 0} {n : ℕ} {bs rest : List ℕ} {e : JsonFault} (p : Way bs rest) → Completed n rest e G → ((z r : List ℕ) → Calm r → G z r → H (p.lead.put z) r) → Completed n bs e H
complete_more p c go = record { tail = c.tail; way = way_then p c.way; reached = c.reached; ending = c.ending; utf8 = c.utf8; whole = λ r k. go (c.way.lead.put (c.ending.put r)) r k (c.whole r k) }

pub complete_with : {G H : List ℕ → List ℕ → Type 0} {n : ℕ} {bs : List ℕ} {e : JsonFault} (x : List ℕ) → ascii x ≡ true → ((r : List ℕ) → Calm r → Calm (x ++ r)) → Completed n bs e G → ((z r : List ℕ) → Calm r → G z (x ++ r) → H z r) → Completed n bs e H
complete_with x u calm c go = record {
  tail = c.tail;
  way = c.way;
  reached = c.reached;
  ending = c.ending then put_front x;
  utf8 = λ y v. c.utf8 (x ++ y) (IsUtf8-append x y (ascii_utf8 x u) v);
  whole = λ r k. go (c.way.lead.put (c.ending.put (x ++ r))) r k (c.whole (x ++ r) (calm r k));
}

pub complete_as : {G H : List ℕ → List ℕ → Type 0} {n : ℕ} {bs : List ℕ} {e : JsonFault} → Completed n bs e G → ((z r : List ℕ) → Calm r → G z r → H z r) → Completed n bs e H
complete_as c go = record { tail = c.tail; way = c.way; reached = c.reached; ending = c.ending; utf8 = c.utf8; whole = λ r k. go (c.way.lead.put (c.ending.put r)) r k (c.whole r k) }

-- where a reading ends in a fault, what was read can be completed
pub data Alive (n : ℕ) (bs : List ℕ) (G : List ℕ → List ℕ → Type 0) {X : Type 0} : Result X JsonFault → Type 0 where
  read : (x : X) → Alive n bs G (Ok x)
  ends : (e : JsonFault) → Completed n bs e G → Alive n bs G (Err e)

pub alive_then : {X Y : Type 0} {n : ℕ} {bs : List ℕ} {G : List ℕ → List ℕ → Type 0} (P : X → Type 0) {r : Result X JsonFault} (f : X → Result Y JsonFault) → IfOk r P → Alive n bs G r → ((x : X) → P x → Alive n bs G (f x)) → Alive n bs G (r >>= f)
alive_then P f h (read x) go = go x h
alive_then P f h (ends e c) go = ends e c

pub alive_if : {X : Type 0} {n : ℕ} {bs : List ℕ} {G : List ℕ → List ℕ → Type 0} (b : Bool) {r s : Result X JsonFault} → (b ≡ true → Alive n bs G r) → (b ≡ false → Alive n bs G s) → Alive n bs G (if b then r else s)
alive_if true when unless = when refl
alive_if false when unless = unless refl

pub alive_more : {X : Type 0} {n : ℕ} {bs rest : List ℕ} {G H : List ℕ → List ℕ → Type 0} {r : Result X JsonFault} (p : Way bs rest) → Alive n rest G r → ((z x : List ℕ) → Calm x → G z x → H (p.lead.put z) x) → Alive n bs H r
alive_more p (read x) go = read x
alive_more p (ends e c) go = ends e (complete_more p c go)

pub alive_with : {X : Type 0} {n : ℕ} {bs : List ℕ} {G H : List ℕ → List ℕ → Type 0} {r : Result X JsonFault} (x : List ℕ) → ascii x ≡ true → ((y : List ℕ) → Calm y → Calm (x ++ y)) → Alive n bs G r → ((z y : List ℕ) → Calm y → G z (x ++ y) → H z y) → Alive n bs H r
alive_with x u calm (read y) go = read y
alive_with x u calm (ends e c) go = ends e (complete_with x u calm c go)

pub alive_as : {X : Type 0} {n : ℕ} {bs : List ℕ} {G H : List ℕ → List ℕ → Type 0} {r : Result X JsonFault} → Alive n bs G r → ((z x : List ℕ) → Calm x → G z x → H z x) → Alive n bs H r
alive_as (read x) go = read x
alive_as (ends e c) go = ends e (complete_as c go)

-- another reading with the same faults
pub alive_map : {X Y : Type 0} {n : ℕ} {bs : List ℕ} {G : List ℕ → List ℕ → Type 0} {r : Result X JsonFault} (j : X → Y) (h : Result X JsonFault → Result Y JsonFault) → ((x : X) → h (Ok x) ≡ Ok (j x)) → ((e : JsonFault) → h (Err e) ≡ Err e) → Alive n bs G r → Alive n bs G (h r)
alive_map {n = n} {bs = bs} {G = G} j h ok err (read x) = subst (λ r. Alive n bs G r) (sym (ok x)) (read (j x))
alive_map {n = n} {bs = bs} {G = G} j h ok err (ends e c) = subst (λ r. Alive n bs G r) (sym (err e)) (ends e c)

-- the fault is at the front
pub ends_here : {X : Type 0} {G : List ℕ → List ℕ → Type 0} (n : ℕ) (bs x : List ℕ) → ascii x ≡ true → ((r : List ℕ) → Calm r → G (x ++ r) r) → Alive n bs G {X = X} (Err (Syntax (place n bs)))
ends_here n bs x u w = ends (Syntax (place n bs)) (complete_here n bs (Syntax (place n bs)) x (omega arith) (ascii_utf8 x u) w)

pub ends_at_end : {X : Type 0} {G : List ℕ → List ℕ → Type 0} (n : ℕ) (x : List ℕ) → ascii x ≡ true → ((r : List ℕ) → Calm r → G (x ++ r) r) → Alive n [] G {X = X} (Err (Syntax n))
ends_at_end n x u w = ends (Syntax n) (complete_here n [] (Syntax n) x (omega arith) (ascii_utf8 x u) w)

-- words
pub word_alive : (n : ℕ) (w bs : List ℕ) → ascii w ≡ true → Alive n bs (λ z r. z ≡ w ++ r) (word n w bs)
word_alive n [] bs u = read bs
word_alive n (c ∷ w) [] u = ends_at_end n (c ∷ w) u (λ r k. refl)
word_alive n (c ∷ w) (b ∷ bs) u =
    alive_if (b == c)
    (λ e. let k = byte_is b c e in let i = both_true (nat_lt c 128) (ascii w) u in let j = small_byte c i.0 in alive_more (way_byte b bs (omega (arith, k, j))) (word_alive n w bs i.1) (λ z r i h. ap (λ y. b ∷ y) h ∙ ap (λ y. y ∷ (w ++ r)) k))
    (λ e. ends_here n (b ∷ bs) (c ∷ w) u (λ r k. refl))

-- numbers
digits_alive : {G : List ℕ → List ℕ → Type 0} (n : ℕ) (bs : List ℕ) → ((r : List ℕ) → Calm r → G (48 ∷ r) r) → Alive n bs G (some_digits n bs)
digits_alive n [] h = ends_at_end n (48 ∷ []) refl h
digits_alive n (b ∷ bs) h = alive_if (is_digit b) (λ e. read (after_digits bs)) (λ e. ends_here n (b ∷ bs) (48 ∷ []) refl h)

zero_digits : (r : List ℕ) → Calm r → Digits (48 ∷ r) r
zero_digits r k = last_digit 48 r refl k.digit

whole_alive : (n : ℕ) (bs : List ℕ) → Alive n bs Whole (whole_part n bs)
whole_alive n [] = ends_at_end n (48 ∷ []) refl (λ r k. zero_alone r)
whole_alive n (b ∷ bs) = alive_if (b == 48) (λ e. read bs) (λ e. digits_alive n (b ∷ bs) (λ r k. zero_alone r))

-- a fraction, before which a whole part may stand
Part : List ℕ → List ℕ → Type 0
Part z r = Fraction z r × (begins is_digit z ≡ false)

fraction_alive : (n : ℕ) (bs : List ℕ) → Alive n bs Part (fraction n bs)
unfolding Part
fraction_alive n [] = read []
fraction_alive n (b ∷ bs) =
    alive_if (b == 46)
    (λ e. subst (λ c. Alive n (c ∷ bs) Part (some_digits n bs)) (sym (byte_is b 46 e)) (alive_more (way_byte 46 bs (omega arith)) (digits_alive {G = Digits} n bs zero_digits) (λ z r k d. (g.fraction z r d, refl))))
    (λ e. read (b ∷ bs))

Power : List ℕ → List ℕ → Type 0
Power z r = Exponent z r × (begins is_digit z ≡ false) × (begins is_point z ≡ false)

e_byte : (b : ℕ) → is_e b ≡ true → (b < 128) × (is_digit b ≡ false) × (is_point b ≡ false)
e_byte b h = (small b h, digit b h, point b h)
  where
    small : (b : ℕ) → is_e b ≡ true → b < 128
    small b h = grind (arith, nat_tests)

    digit : (b : ℕ) → is_e b ≡ true → is_digit b ≡ false
    digit b h = grind (arith, nat_tests)

    point : (b : ℕ) → is_e b ≡ true → is_point b ≡ false
    point b h = grind (arith, nat_tests)

sign_small : (b : ℕ) → is_sign b ≡ true → b < 128
sign_small b h = grind (arith, nat_tests)

power_alive : (n e : ℕ) (bs : List ℕ) → is_e e ≡ true → Alive n bs (λ z r. Exponent (e ∷ z) r) (some_digits n (unsigned_exponent bs))
power_alive n e [] h = digits_alive n [] (λ r k. g.exponent e (48 ∷ r) r h (zero_digits r k))
power_alive n e (s ∷ bs) h = go (is_sign s) refl
  where
    go : (v : Bool) → is_sign s ≡ v → Alive n (s ∷ bs) (λ z r. Exponent (e ∷ z) r) (some_digits n (if v then bs else s ∷ bs))
    go true i = alive_more (way_byte s bs (sign_small s i)) (digits_alive {G = Digits} n bs zero_digits) (λ z r k d. signed_exponent e s z r h i d)
    go false i = digits_alive n (s ∷ bs) (λ r k. g.exponent e (48 ∷ r) r h (zero_digits r k))

exponent_alive : (n : ℕ) (bs : List ℕ) → Alive n bs Power (exponent n bs)
unfolding Power
exponent_alive n [] = read []
exponent_alive n (b ∷ bs) =
    alive_if (is_e b)
    (λ e. let i = e_byte b e in alive_more (way_byte b bs i.0) (power_alive n b bs e) (λ z r k d. (d, i.1, i.2)))
    (λ e. read (b ∷ bs))

abbrev piece_way : {G : List ℕ → List ℕ → Type 0} {E : List ℕ → Type 0} {bs rest : List ℕ} (p : Piece G E bs rest) → (IsUtf8 bs → IsUtf8 rest) → Way bs rest
piece_way p u = record { lead = put_front p.front; joined = p.joined; utf8 = u }

parts_alive : (G : List ℕ → List ℕ → Type 0) (n : ℕ) (bs : List ℕ) → ((a b c d : List ℕ) → Whole a b → Fraction b c → Exponent c d → G a d) → Alive n bs G (whole_part n bs >>= λ w. fraction n w >>= λ f. exponent n f)
unfolding Part Power
parts_alive G n bs join =
    alive_then (λ w. Whole bs w) (λ w. fraction n w >>= λ f. exponent n f) (whole_read n bs) (alive_as (whole_alive n bs) (λ z r k w. join z r r r w (no_fraction r k.point) (no_exponent r k.e)))
    (λ w hw.
    let p = whole_moved hw in
    let a = piece_way p (λ u. ahead_utf8 (whole_ahead hw) u) in
    alive_then (λ f. Fraction w f) (λ f. exponent n f) (fraction_read n w)
    (alive_more a (fraction_alive n w) (λ z r k h. join (p.front ++ z) z r r (p.moved z h.1) h.0 (no_exponent r k.e)))
    (λ f hf.
    let q = fraction_moved hf in
    alive_more (way_then a (piece_way q.0 (λ u. ahead_utf8 (fraction_ahead hf) u))) (exponent_alive n f)
    (λ z r k h. join (p.front ++ (q.0.front ++ z)) (q.0.front ++ z) z r (p.moved (q.0.front ++ z) (q.1 z h.1)) (q.0.moved z (h.1, h.2)) h.0)))

pub number_alive : (n : ℕ) (bs : List ℕ) → Alive n bs Numeral (after_number n bs)
number_alive n [] = parts_alive Numeral n [] (λ a b c d i j k. positive a b c d i j k)
number_alive n (b ∷ bs) = go (b == 45) refl
  where
    go : (v : Bool) → (b == 45) ≡ v → Alive n (b ∷ bs) Numeral (whole_part n (if v then bs else b ∷ bs) >>= λ w. fraction n w >>= λ f. exponent n f)
    go true e = alive_more (way_byte b bs (let k = byte_is b 45 e in omega (arith, k))) (parts_alive (λ z r. Numeral (45 ∷ z) r) n bs (λ a b c d i j k. negative a b c d i j k)) (λ z r k h. subst (λ c. Numeral (c ∷ z) r) (sym (byte_is b 45 e)) h)
    go false e = parts_alive Numeral n (b ∷ bs) (λ a b c d i j k. positive a b c d i j k)
