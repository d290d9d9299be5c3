-- What is of the grammar stands also before another rest, with its white space or without.
use Rattle.std.proofs.Common.{◌≡◌, ◌≢◌, ℕ, ◌<◌, List, [], ◌∷◌, ◌++◌, length, Bool, true, false, refl, sym, ap, ◌∙◌, subst, arith, Some, append_assoc}
use Rattle.std.specs.Prelude.{if◌then◌else◌, ◌==◌}
use Rattle.std.proofs.lemmas.Bool.Decides.{nat_tests}
use Rattle.json_subset.specs.Scan.{is_white, after_white, is_digit}
use Rattle.json_subset.specs.Strings.{hex}
use Rattle.json_subset.specs.Compact.{outside, in_string, behind_backslash, compact_from}
use Rattle.json_subset.specs.Grammar as g
use Rattle.json_subset.specs.Grammar.{begins, Digits, last_digit, one_digit, Whole, zero_alone, not_from_zero, is_point, Fraction, no_fraction, is_e, is_sign, Exponent, no_exponent, signed_exponent, Numeral, positive, negative, Unit16, four_digits, Text, text_end, text_plain, text_short, text_unit, text_pair, Value, a_value, Shape, the_null, the_true, the_false, some_number, some_text, empty_list, some_list, empty_object, some_object, Items, last_item, one_item, Pairs, last_pair, one_pair}
use Rattle.json_subset.proofs.Choices.{plain_byte, is_byte}
use Rattle.json_subset.proofs.Leads.{Lead, none, one, ◌then◌}

-- bytes that neither are white space nor open a string
abbrev pub IsSolid : ℕ → Type 0
IsSolid b = (is_white b ≡ false) × ((b == 34) ≡ false)

-- the bytes that are kept: all of them, or those of the compact text
abbrev pub seen : Bool → List ℕ → List ℕ
seen true bs = bs
seen false bs = compact_from outside bs

-- what may stand behind a number
pub record Calm (r : List ℕ) : Type 0 where
  pub digit : begins is_digit r ≡ false
  pub point : begins is_point r ≡ false
  pub e : begins is_e r ≡ false

-- solid bytes before what follows them
abbrev pub AllSolid : List ℕ → Type 0
AllSolid [] = Unit {0}
AllSolid (b ∷ bs) = IsSolid b × AllSolid bs

pub seen_byte : (m : Bool) (b : ℕ) (bs : List ℕ) → IsSolid b → seen m (b ∷ bs) ≡ b ∷ seen m bs
seen_byte true b bs h = refl
seen_byte false b bs h =
    ap (λ v. if v then compact_from outside bs else b ∷ compact_from (if b == 34 then in_string else outside) bs) h.0
    ∙ ap (λ v. b ∷ compact_from (if v then in_string else outside) bs) h.1

pub seen_solid : (m : Bool) (c bs : List ℕ) → AllSolid c → seen m (c ++ bs) ≡ c ++ seen m bs
seen_solid m [] bs h = refl
seen_solid m (b ∷ c) bs h = seen_byte m b (c ++ bs) h.0 ∙ ap (λ z. b ∷ z) (seen_solid m c bs h.1)

solid_append : (a b : List ℕ) → AllSolid a → AllSolid b → AllSolid (a ++ b)
solid_append [] b h k = k
solid_append (x ∷ a) b h k = (h.0, solid_append a b h.1 k)

-- solid bytes that stand as well before another rest, where what follows is as it should be
pub record Piece (G : List ℕ → List ℕ → Type 0) (Ends : List ℕ → Type 0) (bs rest : List ℕ) : Type 0 where
  pub front : List ℕ
  pub joined : bs ≡ front ++ rest
  pub solid : AllSolid front
  pub moved : (r : List ℕ) → Ends r → G (front ++ r) r

-- numbers
digit_solid : (b : ℕ) → is_digit b ≡ true → IsSolid b
digit_solid b h = (white b h, quote b h)
  where
    white : (b : ℕ) → is_digit b ≡ true → is_white b ≡ false
    white b h = grind (arith, nat_tests)

    quote : (b : ℕ) → is_digit b ≡ true → (b == 34) ≡ false
    quote b h = grind (arith, nat_tests)

e_solid : (b : ℕ) → is_e b ≡ true → IsSolid b
e_solid b h = (white b h, quote b h)
  where
    white : (b : ℕ) → is_e b ≡ true → is_white b ≡ false
    white b h = grind (arith, nat_tests)

    quote : (b : ℕ) → is_e b ≡ true → (b == 34) ≡ false
    quote b h = grind (arith, nat_tests)

sign_solid : (b : ℕ) → is_sign b ≡ true → IsSolid b
sign_solid b h = (white b h, quote b h)
  where
    white : (b : ℕ) → is_sign b ≡ true → is_white b ≡ false
    white b h = grind (arith, nat_tests)

    quote : (b : ℕ) → is_sign b ≡ true → (b == 34) ≡ false
    quote b h = grind (arith, nat_tests)

e_no_digit : (b : ℕ) → is_e b ≡ true → is_digit b ≡ false
e_no_digit b h = grind (arith, nat_tests)

e_no_point : (b : ℕ) → is_e b ≡ true → is_point b ≡ false
e_no_point b h = grind (arith, nat_tests)

abbrev pub NoDigit : List ℕ → Type 0
NoDigit r = begins is_digit r ≡ false

pub digits_moved : {bs rest : List ℕ} → Digits bs rest → Piece Digits NoDigit bs rest
digits_moved (last_digit b rest h k) = record { front = b ∷ []; joined = refl; solid = (digit_solid b h, tt); moved = λ r e. last_digit b r h e }
digits_moved (one_digit b bs rest h d) =
    let p = digits_moved d in
    record { front = b ∷ p.front; joined = ap (λ z. b ∷ z) p.joined; solid = (digit_solid b h, p.solid); moved = λ r e. one_digit b (p.front ++ r) r h (p.moved r e) }

digits_less : {bs rest : List ℕ} → Digits bs rest → length rest < length bs
digits_less (last_digit b rest h k) = omega arith
digits_less (one_digit b bs rest h d) = omega (arith, digits_less d)

pub whole_moved : {bs rest : List ℕ} → Whole bs rest → Piece Whole NoDigit bs rest
whole_moved (zero_alone rest) = record { front = 48 ∷ []; joined = refl; solid = ((refl, refl), tt); moved = λ r e. zero_alone r }
whole_moved (not_from_zero b bs rest h d) = let p = digits_moved d in go p.front p.joined p.solid p.moved
  where
    go : (c : List ℕ) → b ∷ bs ≡ c ++ rest → AllSolid c → ((r : List ℕ) → NoDigit r → Digits (c ++ r) r) → Piece Whole NoDigit (b ∷ bs) rest
    go [] e s k = let i = ap length e in absurd (omega (arith, i, digits_less d))
    go (x ∷ c) e s k = record { front = x ∷ c; joined = e; solid = s; moved = λ r i. not_from_zero x (c ++ r) r (λ j. h (other j)) (k r i) }
      where
        other : x ≡ 48 → b ≡ 48
        other j = cc

-- what a part that may be left out puts before the rest
pub record Calmer (front : List ℕ) : Type 0 where
  pub digit : (r : List ℕ) → begins is_digit r ≡ false → begins is_digit (front ++ r) ≡ false
  pub point : (r : List ℕ) → begins is_point r ≡ false → begins is_point (front ++ r) ≡ false

abbrev pub NoPart : List ℕ → Type 0
NoPart r = (begins is_digit r ≡ false) × (begins is_point r ≡ false)

abbrev pub NoPower : List ℕ → Type 0
NoPower r = (begins is_digit r ≡ false) × (begins is_e r ≡ false)

pub fraction_moved : {bs rest : List ℕ} → Fraction bs rest → (p : Piece Fraction NoPart bs rest) × ((r : List ℕ) → begins is_digit r ≡ false → begins is_digit (p.front ++ r) ≡ false)
fraction_moved (no_fraction bs h) = (record { front = []; joined = refl; solid = tt; moved = λ r e. no_fraction r e.1 }, λ r e. e)
fraction_moved (g.fraction bs rest d) =
    let p = digits_moved d in
    (record { front = 46 ∷ p.front; joined = ap (λ z. 46 ∷ z) p.joined; solid = ((refl, refl), p.solid); moved = λ r e. g.fraction (p.front ++ r) r (p.moved r e.0) }, λ r e. refl)

pub exponent_moved : {bs rest : List ℕ} → Exponent bs rest → (p : Piece Exponent NoPower bs rest) × Calmer p.front
exponent_moved (no_exponent bs h) = (record { front = []; joined = refl; solid = tt; moved = λ r e. no_exponent r e.1 }, record { digit = λ r e. e; point = λ r e. e })
exponent_moved (g.exponent e bs rest h d) =
    let p = digits_moved d in (
      record { front = e ∷ p.front; joined = ap (λ z. e ∷ z) p.joined; solid = (e_solid e h, p.solid); moved = λ r i. g.exponent e (p.front ++ r) r h (p.moved r i.0) },
      record { digit = λ r i. e_no_digit e h; point = λ r i. e_no_point e h },
    )
exponent_moved (signed_exponent e s bs rest h k d) =
    let p = digits_moved d in (
      record { front = e ∷ s ∷ p.front; joined = ap (λ z. e ∷ s ∷ z) p.joined; solid = (e_solid e h, (sign_solid s k, p.solid)); moved = λ r i. signed_exponent e s (p.front ++ r) r h k (p.moved r i.0) },
      record { digit = λ r i. e_no_digit e h; point = λ r i. e_no_point e h },
    )

parts_moved : (G : List ℕ → List ℕ → Type 0) {bs w f rest : List ℕ} → ((a b c d : List ℕ) → Whole a b → Fraction b c → Exponent c d → G a d) → Whole bs w → Fraction w f → Exponent f rest → Piece G Calm bs rest
parts_moved G {rest = rest} join a b c =
    let p = whole_moved a in
    let q = fraction_moved b in
    let s = exponent_moved c in
    let P : List ℕ → List ℕ → Type 0 = λ r z. G z r in
    record {
      front = p.front ++ (q.0.front ++ s.0.front);
      joined = p.joined ∙ ap (λ z. p.front ++ z) (q.0.joined ∙ ap (λ z. q.0.front ++ z) s.0.joined ∙ sym (append_assoc q.0.front s.0.front rest)) ∙ sym (append_assoc p.front (q.0.front ++ s.0.front) rest);
      solid = solid_append p.front (q.0.front ++ s.0.front) p.solid (solid_append q.0.front s.0.front q.0.solid s.0.solid);
      moved = λ r k. subst (P r) (ap (λ z. p.front ++ z) (sym (append_assoc q.0.front s.0.front r)) ∙ sym (append_assoc p.front (q.0.front ++ s.0.front) r))
          (join (p.front ++ (q.0.front ++ (s.0.front ++ r))) (q.0.front ++ (s.0.front ++ r)) (s.0.front ++ r) r
          (p.moved (q.0.front ++ (s.0.front ++ r)) (q.1 (s.0.front ++ r) (s.1.digit r k.digit)))
          (q.0.moved (s.0.front ++ r) (s.1.digit r k.digit, s.1.point r k.point))
          (s.0.moved r (k.digit, k.e)));
    }

pub number_moved : {bs rest : List ℕ} → Numeral bs rest → Piece Numeral Calm bs rest
number_moved (positive bs w f rest a b c) = parts_moved Numeral (λ a b c d i j k. positive a b c d i j k) a b c
number_moved (negative bs w f rest a b c) =
    let p = parts_moved (λ z r. Numeral (45 ∷ z) r) (λ a b c d i j k. negative a b c d i j k) a b c in
    record { front = 45 ∷ p.front; joined = ap (λ z. 45 ∷ z) p.joined; solid = ((refl, refl), p.solid); moved = λ r k. p.moved r k }

-- strings
in_text : (b : ℕ) (bs : List ℕ) → b ≢ 34 → b ≢ 92 → compact_from in_string (b ∷ bs) ≡ b ∷ compact_from in_string bs
in_text b bs h k =
    ap (λ v. b ∷ compact_from (if v then outside else if b == 92 then behind_backslash else in_string) bs) (is_byte b 34 h)
    ∙ ap (λ v. b ∷ compact_from (if v then behind_backslash else in_string) bs) (is_byte b 92 k)

hex_byte : (b v : ℕ) → hex b ≡ Some v → (b ≢ 34) × (b ≢ 92)
hex_byte b v e = (quote b v e, slash b v e)
  where
    quote : (b v : ℕ) → hex b ≡ Some v → b ≢ 34
    quote b v e = grind (arith, nat_tests)

    slash : (b v : ℕ) → hex b ≡ Some v → b ≢ 92
    slash b v e = grind (arith, nat_tests)

-- a part of a string
pub record Inner (G : List ℕ → List ℕ → Type 0) (after : List ℕ → List ℕ) (bs rest : List ℕ) : Type 0 where
  pub lead : Lead
  pub joined : bs ≡ lead.put rest
  pub kept : compact_from in_string bs ≡ lead.put (after rest)
  pub moved : (r : List ℕ) → G (lead.put r) r

pub unit_moved : {bs rest : List ℕ} {u : ℕ} → Unit16 bs u rest → Inner (λ z r. Unit16 z u r) (compact_from in_string) bs rest
unit_moved (four_digits a b c d w x y z rest i j k l) =
    record {
      lead = one a then one b then one c then one d;
      joined = refl;
      kept = in_text a (b ∷ c ∷ d ∷ rest) (hex_byte a w i).0 (hex_byte a w i).1
          ∙ ap (λ t. a ∷ t) (in_text b (c ∷ d ∷ rest) (hex_byte b x j).0 (hex_byte b x j).1)
          ∙ ap (λ t. a ∷ b ∷ t) (in_text c (d ∷ rest) (hex_byte c y k).0 (hex_byte c y k).1)
          ∙ ap (λ t. a ∷ b ∷ c ∷ t) (in_text d rest (hex_byte d z l).0 (hex_byte d z l).1);
      moved = λ r. four_digits a b c d w x y z r i j k l;
    }

pub text_moved : {bs t rest : List ℕ} → Text bs t rest → Inner (λ z r. Text z t r) (compact_from outside) bs rest
text_moved (text_end rest) = record { lead = one 34; joined = refl; kept = refl; moved = λ r. text_end r }
text_moved (text_plain b bs t rest h d) =
    let p = text_moved d in
    let k = plain_byte b h in
    record { lead = one b then p.lead; joined = ap (λ z. b ∷ z) p.joined; kept = in_text b bs k.1 k.2 ∙ ap (λ z. b ∷ z) p.kept; moved = λ r. text_plain b (p.lead.put r) t r h (p.moved r) }
text_moved (text_short b c bs t rest e d) =
    let p = text_moved d in
    record { lead = one 92 then one b then p.lead; joined = ap (λ z. 92 ∷ b ∷ z) p.joined; kept = ap (λ z. 92 ∷ b ∷ z) p.kept; moved = λ r. text_short b c (p.lead.put r) t r e (p.moved r) }
text_moved (text_unit u bs later t rest e k d) =
    let p = unit_moved e in
    let q = text_moved d in
    record {
      lead = one 92 then one 117 then p.lead then q.lead;
      joined = ap (λ z. 92 ∷ 117 ∷ z) (p.joined ∙ ap p.lead.put q.joined);
      kept = ap (λ z. 92 ∷ 117 ∷ z) (p.kept ∙ ap p.lead.put q.kept);
      moved = λ r. text_unit u (p.lead.put (q.lead.put r)) (q.lead.put r) t r (p.moved (q.lead.put r)) k (q.moved r);
    }
text_moved (text_pair u v bs more later t rest e h i l d) =
    let p = unit_moved e in
    let s = unit_moved i in
    let q = text_moved d in
    record {
      lead = one 92 then one 117 then p.lead then one 92 then one 117 then s.lead then q.lead;
      joined = ap (λ z. 92 ∷ 117 ∷ z) (p.joined ∙ ap (λ z. p.lead.put (92 ∷ 117 ∷ z)) (s.joined ∙ ap s.lead.put q.joined));
      kept = ap (λ z. 92 ∷ 117 ∷ z) (p.kept ∙ ap (λ z. p.lead.put (92 ∷ 117 ∷ z)) (s.kept ∙ ap s.lead.put q.kept));
      moved = λ r. text_pair u v (p.lead.put (92 ∷ 117 ∷ s.lead.put (q.lead.put r))) (s.lead.put (q.lead.put r)) (q.lead.put r) t r (p.moved (92 ∷ 117 ∷ s.lead.put (q.lead.put r))) h (s.moved (q.lead.put r)) l (q.moved r);
    }

-- white space
pub record White (m : Bool) (bs : List ℕ) : Type 0 where
  pub lead : Lead
  pub cut : seen m bs ≡ lead.put (seen m (after_white bs))
  pub back : (x : List ℕ) → begins is_white x ≡ false → after_white (lead.put x) ≡ x
  pub calm : (x : List ℕ) → Calm x → Calm (lead.put x)

pub no_white : (x : List ℕ) → begins is_white x ≡ false → after_white x ≡ x
no_white [] h = refl
no_white (b ∷ x) h = ap (λ v. if v then after_white x else b ∷ x) h

pub dropped : (bs : List ℕ) → compact_from outside bs ≡ compact_from outside (after_white bs)
dropped [] = refl
dropped (b ∷ bs) = go (dropped bs) (is_white b) refl
  where
    go : compact_from outside bs ≡ compact_from outside (after_white bs) → (v : Bool) → is_white b ≡ v → compact_from outside (b ∷ bs) ≡ compact_from outside (if v then after_white bs else b ∷ bs)
    go more true e = ap (λ v. if v then compact_from outside bs else b ∷ compact_from (if b == 34 then in_string else outside) bs) e ∙ more
    go more false e = refl

white_calm : (b : ℕ) (x : List ℕ) → is_white b ≡ true → Calm (b ∷ x)
white_calm b x h = record { digit = digit b h; point = point b h; e = power b h }
  where
    digit : (b : ℕ) → is_white b ≡ true → is_digit b ≡ false
    digit b h = grind (arith, nat_tests)

    point : (b : ℕ) → is_white b ≡ true → is_point b ≡ false
    point b h = grind (arith, nat_tests)

    power : (b : ℕ) → is_white b ≡ true → is_e b ≡ false
    power b h = grind (arith, nat_tests)

white_kept : (bs : List ℕ) → White true bs
white_kept [] = record { lead = none; cut = refl; back = no_white; calm = λ x k. k }
white_kept (b ∷ bs) = go (white_kept bs) (is_white b) refl
  where
    go : White true bs → (v : Bool) → is_white b ≡ v → White true (b ∷ bs)
    go w true e = record {
      lead = one b then w.lead;
      cut = ap (λ z. b ∷ z) w.cut ∙ ap (λ v. b ∷ w.lead.put (if v then after_white bs else b ∷ bs)) (sym e) ∙ refl;
      back = λ x h. ap (λ v. if v then after_white (w.lead.put x) else b ∷ w.lead.put x) e ∙ w.back x h;
      calm = λ x k. white_calm b (w.lead.put x) e;
    }
    go w false e = record { lead = none; cut = sym (no_white (b ∷ bs) e); back = no_white; calm = λ x k. k }

pub white : (m : Bool) (bs : List ℕ) → White m bs
white true bs = white_kept bs
white false bs = record { lead = none; cut = dropped bs; back = no_white; calm = λ x k. k }
