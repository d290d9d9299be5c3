-- Characters behind a `\`.
use Rattle.std.proofs.Common.{◌≡◌, ◌≢◌, ℕ, Bool, true, false, List, [], ◌∷◌, ◌++◌, length, arith, Option, Some, None, Result, Ok, Err, IfOk, IfSome, String, Global, ◌<◌, if◌then◌else◌, refl, sym, ap, ◌∙◌, eqb, eq-eqb, ne_eqb}
use Rattle.std.specs.Option.{option_map}
use Rattle.std.specs.Char.{encode_utf8}
use Rattle.std.specs.Str.{chars, encode_utf8_all}
use Rattle.std.specs.String.{string_bytes}
use Rattle.std.specs.Str.{IsUtf8}
use Rattle.gw_base.specs.declared.outside.Memory.{Memory}
use Rattle.std.proofs.lemmas.List.{append_assoc}
use Rattle.std.proofs.lemmas.Option.{none-some, same_Some}
use Rattle.std.proofs.lemmas.Str.{encodes-chars, length-le-encodes}
use Rattle.vtl_texts.specs.declared.patterns.Escapes.TheVariants.{Pattern}
use Rattle.vtl_texts.specs.declared.patterns.Escapes.{Escapes}
use Rattle.vtl_texts.specs.Patterns.{unescaped, with_front, is_escapable, is_refused}

-- these bytes, and then the characters of the rest
abbrev pub behind_made : List ℕ → Option (List ℕ) → Option (List ℕ)
behind_made made rest = option_map (λ cs. made ++ encode_utf8_all cs) rest

-- one more character is made
pub behind_front : (made : List ℕ) (c : ℕ) (rest : Option (List ℕ)) → behind_made (made ++ encode_utf8 c) rest ≡ behind_made made (with_front c rest)
behind_front made c None = refl
behind_front made c (Some cs) = ap (λ (bs : List ℕ). Some bs) (append_assoc made (encode_utf8 c) (encode_utf8_all cs))

-- one more character is read
pub at_escaped : (e : Escapes) (c : ℕ) (cs : List ℕ) → true ≡ is_escapable e c → unescaped e true (c ∷ cs) ≡ with_front c (unescaped e false cs)
at_escaped e c cs h = rw (← h)

pub at_bad : (e : Escapes) (c : ℕ) (cs : List ℕ) → false ≡ is_escapable e c → unescaped e true (c ∷ cs) ≡ None
at_bad e c cs h = rw (← h)

pub at_escape : (e : Escapes) (c : ℕ) (cs : List ℕ) → c ≡ 92 → unescaped e false (c ∷ cs) ≡ unescaped e true cs
at_escape e c cs h = rw (eq-eqb c 92 h)

pub at_refused : (e : Escapes) (c : ℕ) (cs : List ℕ) → c ≢ 92 → true ≡ is_refused e c → unescaped e false (c ∷ cs) ≡ None
at_refused e c cs n h = rw (ne_eqb c 92 n, ← h)

pub at_plain : (e : Escapes) (c : ℕ) (cs : List ℕ) → c ≢ 92 → false ≡ is_refused e c → unescaped e false (c ∷ cs) ≡ with_front c (unescaped e false cs)
at_plain e c cs n h = rw (ne_eqb c 92 n, ← h)

behind_nil : (rest : Option (List ℕ)) → behind_made [] rest ≡ option_map encode_utf8_all rest
behind_nil None = refl
behind_nil (Some cs) = refl

nil_of : (xs : List ℕ) → length xs ≡ 0 → xs ≡ []
nil_of [] e = refl
nil_of (x ∷ xs) e = absurd (omega arith)

-- nothing is made yet
pub begun : (e : Escapes) (made left t : List ℕ) → made ≡ [] → left ≡ t → behind_made made (unescaped e false (chars left)) ≡ option_map encode_utf8_all (unescaped e false (chars t))
begun e made left t m l = rw (m, l) (behind_nil (unescaped e false (chars t)))

-- one more character, behind a `\` and without one, and a `\`
module _ (e : Escapes) (made rest next : List ℕ) (c : ℕ) (escaped : Bool) (all : Option (List ℕ)) (same : behind_made made (unescaped e escaped rest) ≡ all) (first : rest ≡ c ∷ next) where
  pub escaped_more : (new : List ℕ) → escaped ≡ true → true ≡ is_escapable e c → new ≡ made ++ encode_utf8 c → behind_made new (unescaped e false next) ≡ all
  escaped_more new is may put =
      let now = rw (first, is, at_escaped e c next may) at same in
      rw put (behind_front made c (unescaped e false next) ∙ now)

  pub escape_more : escaped ≡ false → c ≡ 92 → behind_made made (unescaped e true next) ≡ all
  escape_more is back = rw (first, is, at_escape e c next back) at same

  pub plain_more : (new : List ℕ) → escaped ≡ false → c ≢ 92 → false ≡ is_refused e c → new ≡ made ++ encode_utf8 c → behind_made new (unescaped e escaped next) ≡ all
  plain_more new is other may put =
      let now = rw (first, is, at_plain e c next other may) at same in
      rw (is, put) (behind_front made c (unescaped e false next) ∙ now)

-- what stands for something is not empty
front_some : (b : Bool) (c : ℕ) (rest : Option (List ℕ)) (xs : List ℕ) → (if b then with_front c rest else None) ≡ Some xs → 0 < length xs
front_some true c None xs h = absurd (none-some xs h)
front_some true c (Some ys) xs h = omega (arith, ap length (same_Some (c ∷ ys) xs h))
front_some false c rest xs h = absurd (none-some xs h)

escaped_some : (e : Escapes) (cs xs : List ℕ) → unescaped e true cs ≡ Some xs → 0 < length xs
escaped_some e [] xs h = absurd (none-some xs h)
escaped_some e (c ∷ cs) xs h = front_some (is_escapable e c) c (unescaped e false cs) xs h

other_some : (b r : Bool) (c : ℕ) (escaped rest : Option (List ℕ)) (xs : List ℕ) → ((ys : List ℕ) → escaped ≡ Some ys → 0 < length ys) → (if b then escaped else if r then None else with_front c rest) ≡ Some xs → 0 < length xs
other_some true r c escaped rest xs inner h = inner xs h
other_some false true c escaped rest xs inner h = absurd (none-some xs h)
other_some false false c escaped rest xs inner h = front_some true c rest xs h

plain_some : (e : Escapes) (cs xs : List ℕ) → 0 < length cs → unescaped e false cs ≡ Some xs → 0 < length xs
plain_some e [] xs some h = absurd (omega arith)
plain_some e (c ∷ cs) xs some h = other_some (eqb c 92) (is_refused e c) c (unescaped e true cs) (unescaped e false cs) xs (escaped_some e cs) h

encoded_some : (o : Option (List ℕ)) (bs : List ℕ) → ((xs : List ℕ) → o ≡ Some xs → 0 < length xs) → option_map encode_utf8_all o ≡ Some bs → 0 < length bs
encoded_some None bs inner h = absurd (none-some bs h)
encoded_some (Some xs) bs inner h = omega (arith, inner xs refl, length-le-encodes xs, ap length (same_Some (encode_utf8_all xs) bs h))

nonempty : (cs : List ℕ) → 0 < length (encode_utf8_all cs) → 0 < length cs
nonempty [] h = h
nonempty (c ∷ cs) h = omega arith

pub literal_some : (p bs : List ℕ) → IsUtf8 p → 0 < length p → option_map encode_utf8_all (unescaped Pattern false (chars p)) ≡ Some bs → 0 < length bs
literal_some p bs utf8 some h =
    let chars_some : 0 < length (chars p) = nonempty (chars p) (omega (arith, some, ap length (encodes-chars p utf8))) in
    encoded_some (unescaped Pattern false (chars p)) bs (λ xs. plain_some Pattern (chars p) xs chars_some) h

pub each_some : (r : Result (Option (String Global)) Memory) (o : Option (List ℕ)) → ((bs : List ℕ) → o ≡ Some bs → 0 < length bs) → IfOk r (λ made. option_map string_bytes made ≡ o) → IfOk r (λ made. IfSome made (λ s. 0 < length (string_bytes s)))
each_some (Ok None) o inner h = tt
each_some (Ok (Some s)) o inner h = inner (string_bytes s) (sym h)
each_some (Err e) o inner h = tt
