-- What each step of the reader leaves behind it.
use Rattle.std.proofs.Common.{◌≡◌, ℕ, ◌+◌, ◌-◌, ◌<◌, List, [], ◌∷◌, ◌++◌, length, Bool, true, false, refl, sym, subst, arith, Option, Some, None}
use Rattle.std.specs.Prelude.{Ok, Err, Result, if◌then◌else◌, ◌==◌, IfOk}
use Rattle.std.specs.Str.{IsUtf8}
use Rattle.json_subset.specs.declared.fault.JsonFault.{JsonFault}
use Rattle.json_subset.specs.declared.fault.JsonFault.TheVariants.{Syntax, Depth}
use Rattle.json_subset.specs.Tree.{Tree, Form, null, bool}
use Rattle.json_subset.specs.Scan.{◌>>=◌, Read, place, after_white, behind, word, after_number, Next, done, more, next_front, next, colon_front, colon}
use Rattle.json_subset.specs.Strings.{string}
use Rattle.json_subset.specs.Reading.{square, curly, word_form, number_form, text_form, scalar, unlike, quoted_name, name, label}
use Rattle.json_subset.specs.Turns.{Inside, in_list, in_object, Turn, goes, whole, leaf, first_item, with_label, first_member, opens, begun, next_item, next_member, onward}
use Rattle.json_subset.specs.Grammar.{Numeral}
use Rattle.json_subset.specs.Places.{IsRest}
use Rattle.json_subset.proofs.Choices.{ok_then, ok_map, ok_if, byte_is}
use Rattle.json_subset.proofs.Cut.{utf8_tail}
use Rattle.json_subset.proofs.Lexical.{number_read, text_read}
use Rattle.json_subset.proofs.Rests.{Ahead, here, past_byte, ahead_more, ahead_le, ahead_utf8, rest_ahead, rest_more, white_ahead, number_ahead, number_less, text_less}
use Rattle.json_subset.proofs.Spans.{text_rest, known}
use Rattle.json_subset.proofs.Places.{rest_le}

-- a shorter rest
pub record Behind (bs cs : List ℕ) : Type 0 where
  pub rest : IsRest bs cs
  pub less : length cs < length bs

pub behind_ahead : (b : ℕ) (bs rest : List ℕ) → b < 128 → Ahead bs rest → IsUtf8 (b ∷ bs) → Behind (b ∷ bs) rest
behind_ahead b bs rest h p u = record { rest = rest_ahead u (past_byte b bs rest h p); less = omega (arith, ahead_le p) }

pub behind_byte : (b : ℕ) (bs rest : List ℕ) → b < 128 → IsUtf8 (b ∷ bs) → Behind bs rest → Behind (b ∷ bs) rest
behind_byte b bs rest h u p = let less = p.less in record { rest = rest_more (rest_ahead u (past_byte b bs bs h (here bs))) p.rest; less = omega (arith, less) }

pub behind_more : (a b c : List ℕ) → Behind a b → Ahead b c → Behind a c
behind_more a b c p q = let less = p.less in record { rest = rest_more p.rest (rest_ahead p.rest.utf8 q); less = omega (arith, less, ahead_le q) }

ascii : (b c : ℕ) → (b == c) ≡ true → c < 128 → b < 128
ascii b c e h = let k = byte_is b c e in omega (arith, k, h)

-- a word of ASCII bytes
abbrev IsAsciiWord : List ℕ → Type 0
IsAsciiWord [] = Unit {0}
IsAsciiWord (c ∷ cs) = (c < 128) × IsAsciiWord cs

pub word_ahead : (n : ℕ) (w bs : List ℕ) → IsAsciiWord w → IfOk (word n w bs) (λ rest. Ahead bs rest)
word_ahead n [] bs h = here bs
word_ahead n (c ∷ cs) [] h = tt
word_ahead n (c ∷ cs) (b ∷ bs) h =
    ok_if (λ rest. Ahead (b ∷ bs) rest) (b == c) (word n cs bs) (Err (Syntax (place n (b ∷ bs))))
    (λ e. ok_map (λ rest. Ahead bs rest) (λ rest. Ahead (b ∷ bs) rest) (word n cs bs) (word_ahead n cs bs h.1) (λ rest p. past_byte b bs rest (ascii b c e h.0) p))
    (λ e. tt)

abbrev pub NextAhead : List ℕ → Next → Type 0
NextAhead bs (done rest) = Ahead bs rest × (length rest < length bs)
NextAhead bs (more rest) = Ahead bs rest × (length rest < length bs)

front_ahead : (n close : ℕ) (bs : List ℕ) → close < 128 → IfOk (next_front n close bs) (NextAhead bs)
front_ahead n close [] h = tt
front_ahead n close (b ∷ bs) h =
    ok_if (NextAhead (b ∷ bs)) (b == close) (Ok (done bs)) (if b == 44 then Ok (more (after_white bs)) else Err (Syntax (place n (b ∷ bs))))
    (λ e. (past_byte b bs bs (ascii b close e h) (here bs), omega arith))
    (λ e. ok_if (NextAhead (b ∷ bs)) (b == 44) (Ok (more (after_white bs))) (Err (Syntax (place n (b ∷ bs))))
    (λ k. (past_byte b bs (after_white bs) (ascii b 44 k (omega arith)) (white_ahead bs), omega (arith, ahead_le (white_ahead bs))))
    (λ k. tt))

next_more : (bs cs : List ℕ) (s : Next) → Ahead bs cs → NextAhead cs s → NextAhead bs s
next_more bs cs (done rest) p q = (ahead_more p q.0, let h = q.1 in omega (arith, ahead_le p, h))
next_more bs cs (more rest) p q = (ahead_more p q.0, let h = q.1 in omega (arith, ahead_le p, h))

pub next_ahead : (n close : ℕ) (bs : List ℕ) → close < 128 → IfOk (next n close bs) (NextAhead bs)
next_ahead n close bs h = ok_map (NextAhead (after_white bs)) (NextAhead bs) (next n close bs) (front_ahead n close (after_white bs) h) (λ s q. next_more bs (after_white bs) s (white_ahead bs) q)

colon_front_ahead : (n : ℕ) (bs : List ℕ) → IfOk (colon_front n bs) (λ rest. Ahead bs rest)
colon_front_ahead n [] = tt
colon_front_ahead n (b ∷ bs) =
    ok_if (λ rest. Ahead (b ∷ bs) rest) (b == 58) (Ok (after_white bs)) (Err (Syntax (place n (b ∷ bs))))
    (λ e. past_byte b bs (after_white bs) (ascii b 58 e (omega arith)) (white_ahead bs))
    (λ e. tt)

pub colon_ahead : (n : ℕ) (bs : List ℕ) → IfOk (colon n bs) (λ rest. Ahead bs rest)
colon_ahead n bs = ok_map (λ rest. Ahead (after_white bs) rest) (λ rest. Ahead bs rest) (colon n bs) (colon_front_ahead n (after_white bs)) (λ rest p. ahead_more (white_ahead bs) p)

pub string_behind : (n : ℕ) (bs : List ℕ) → IsUtf8 bs → IfOk (string n bs) (λ p. Behind bs p.1)
string_behind n bs u = ok_map _ (λ p. Behind bs p.1) (string n bs) (text_read n [] (length bs + 1) bs) (λ p k. record { rest = text_rest k.2 u; less = text_less k.2 })

words_behind : (n b : ℕ) (w bs : List ℕ) (f : Form) → b < 128 → IsAsciiWord w → IsUtf8 (b ∷ bs) → IfOk (word_form f (word n w bs)) (λ p. Behind (b ∷ bs) p.1)
words_behind n b w bs f h a u = go (word n w bs) (word_ahead n w bs a)
  where
    go : (r : Result (List ℕ) JsonFault) → IfOk r (λ rest. Ahead bs rest) → IfOk (word_form f r) (λ p. Behind (b ∷ bs) p.1)
    go (Ok rest) p = behind_ahead b bs rest h p u
    go (Err e) p = tt

text_behind : (b : ℕ) (bs : List ℕ) (r : Read (List ℕ)) → b < 128 → IsUtf8 (b ∷ bs) → IfOk r (λ p. Behind bs p.1) → IfOk (text_form r) (λ p. Behind (b ∷ bs) p.1)
text_behind b bs (Ok p) h u k = behind_byte b bs p.1 h u k
text_behind b bs (Err e) h u k = tt

number_behind : (bs : List ℕ) (r : Result (List ℕ) JsonFault) → IsUtf8 bs → IfOk r (λ rest. Numeral bs rest) → IfOk (number_form bs r) (λ p. Behind bs p.1)
number_behind bs (Ok rest) u k = record { rest = rest_ahead u (number_ahead k); less = number_less k }
number_behind bs (Err e) u k = tt

pub scalar_behind : (n : ℕ) (bs : List ℕ) → IsUtf8 bs → IfOk (scalar n bs) (λ p. Behind bs p.1)
scalar_behind n [] u = tt
scalar_behind n (b ∷ bs) u =
    let P : Form × List ℕ → Type 0 = λ p. Behind (b ∷ bs) p.1 in
    ok_if P (b == 34) (text_form (string n bs)) _
    (λ e. text_behind b bs (string n bs) (ascii b 34 e (omega arith)) u (string_behind n bs (utf8_tail b bs (ascii b 34 e (omega arith)) u)))
    (λ e. ok_if P (b == 110) (word_form null (word n (117 ∷ 108 ∷ 108 ∷ []) bs)) _
    (λ k. words_behind n b (117 ∷ 108 ∷ 108 ∷ []) bs null (ascii b 110 k (omega arith)) (omega arith, (omega arith, (omega arith, tt))) u)
    (λ k. ok_if P (b == 116) (word_form (bool true) (word n (114 ∷ 117 ∷ 101 ∷ []) bs)) _
    (λ j. words_behind n b (114 ∷ 117 ∷ 101 ∷ []) bs (bool true) (ascii b 116 j (omega arith)) (omega arith, (omega arith, (omega arith, tt))) u)
    (λ j. ok_if P (b == 102) (word_form (bool false) (word n (97 ∷ 108 ∷ 115 ∷ 101 ∷ []) bs)) (number_form (b ∷ bs) (after_number n (b ∷ bs)))
    (λ i. words_behind n b (97 ∷ 108 ∷ 115 ∷ 101 ∷ []) bs (bool false) (ascii b 102 i (omega arith)) (omega arith, (omega arith, (omega arith, (omega arith, tt)))) u)
    (λ i. number_behind (b ∷ bs) (after_number n (b ∷ bs)) u (number_read n (b ∷ bs))))))

any_then : {A B : Type 0} (Q : B → Type 0) (r : Result A JsonFault) (f : A → Result B JsonFault) → ((x : A) → IfOk (f x) Q) → IfOk (r >>= f) Q
any_then Q (Ok x) f go = go x
any_then Q (Err e) f go = tt

-- a member's name, and the colon
name_behind : (n : ℕ) (taken : List ℕ → Bool) (bs : List ℕ) → IsUtf8 bs → IfOk (name n taken bs) (λ p. Behind bs p.1)
name_behind n taken [] u = tt
name_behind n taken (b ∷ bs) u =
    let P : List ℕ × List ℕ → Type 0 = λ p. Behind (b ∷ bs) p.1 in
    ok_if P (b == 34) (quoted_name n (place n (b ∷ bs)) taken bs) (Err (Syntax (place n (b ∷ bs))))
    (λ e. ok_then (λ p. Behind bs p.1) P (string n bs) (λ r. unlike (place n (b ∷ bs)) taken r.0 >>= λ x. Ok (x, r.1)) (string_behind n bs (utf8_tail b bs (ascii b 34 e (omega arith)) u))
    (λ r k. any_then P (unlike (place n (b ∷ bs)) taken r.0) (λ x. Ok (x, r.1)) (λ x. behind_byte b bs r.1 (ascii b 34 e (omega arith)) u k)))
    (λ e. tt)

pub label_behind : (n : ℕ) (taken : List ℕ → Bool) (bs : List ℕ) → IsUtf8 bs → IfOk (label n taken bs) (λ p. Behind bs p.1)
label_behind n taken bs u =
    let P : List ℕ × List ℕ → Type 0 = λ p. Behind bs p.1 in
    ok_then P P (name n taken bs) (λ x. colon n x.1 >>= λ c. Ok (x.0, c)) (name_behind n taken bs u)
    (λ x k. ok_then (λ rest. Ahead x.1 rest) P (colon n x.1) (λ c. Ok (x.0, c)) (colon_ahead n x.1) (λ c p. behind_more bs x.1 c k p))

-- what a turn leaves
abbrev pub TurnBehind : List ℕ → Turn → Type 0
TurnBehind bs (goes at i rest) = Behind bs rest
TurnBehind bs (whole t rest) = Behind bs rest

leaf_behind : (n at : ℕ) (bs : List ℕ) (r : Read Form) → IfOk r (λ p. Behind bs p.1) → IfOk (leaf n at r) (TurnBehind bs)
leaf_behind n at bs (Ok p) k = k
leaf_behind n at bs (Err e) k = tt

with_label_behind : (at : ℕ) (ms : List (List ℕ × Tree)) (bs : List ℕ) (r : Read (List ℕ)) → IfOk r (λ p. Behind bs p.1) → IfOk (with_label at ms r) (TurnBehind bs)
with_label_behind at ms bs (Ok x) k = k
with_label_behind at ms bs (Err e) k = tt

abbrev SomeAhead : List ℕ → Option (List ℕ) → Type 0
SomeAhead bs (Some rest) = Ahead bs rest
SomeAhead bs None = Unit {0}

some_ahead : (c : ℕ) (bs : List ℕ) → c < 128 → SomeAhead bs (behind c bs)
some_ahead c [] h = tt
some_ahead c (b ∷ bs) h = go (b == c) refl
  where
    go : (v : Bool) → (b == c) ≡ v → SomeAhead (b ∷ bs) (if v then Some bs else None)
    go true e = past_byte b bs bs (ascii b c e h) (here bs)
    go false e = tt

first_item_behind : (n at b : ℕ) (bs : List ℕ) (o : Option (List ℕ)) → b < 128 → IsUtf8 (b ∷ bs) → SomeAhead (after_white bs) o → IfOk (first_item n at (after_white bs) o) (TurnBehind (b ∷ bs))
first_item_behind n at b bs (Some rest) h u p = behind_ahead b bs rest h (ahead_more (white_ahead bs) p) u
first_item_behind n at b bs None h u p = behind_ahead b bs (after_white bs) h (white_ahead bs) u

turn_more : (b : ℕ) (bs : List ℕ) (t : Turn) → b < 128 → IsUtf8 (b ∷ bs) → TurnBehind (after_white bs) t → TurnBehind (b ∷ bs) t
turn_more b bs (goes at i rest) h u k = behind_byte b bs rest h u (rest_further bs rest (utf8_tail b bs h u) k)
  where
    rest_further : (bs rest : List ℕ) → IsUtf8 bs → Behind (after_white bs) rest → Behind bs rest
    rest_further bs rest u k = let less = k.less in record { rest = rest_more (rest_ahead u (white_ahead bs)) k.rest; less = omega (arith, less, ahead_le (white_ahead bs)) }
turn_more b bs (whole t rest) h u k = behind_byte b bs rest h u (rest_further bs rest (utf8_tail b bs h u) k)
  where
    rest_further : (bs rest : List ℕ) → IsUtf8 bs → Behind (after_white bs) rest → Behind bs rest
    rest_further bs rest u k = let less = k.less in record { rest = rest_more (rest_ahead u (white_ahead bs)) k.rest; less = omega (arith, less, ahead_le (white_ahead bs)) }

first_member_behind : (n at b : ℕ) (bs : List ℕ) (o : Option (List ℕ)) → b < 128 → IsUtf8 (b ∷ bs) → SomeAhead (after_white bs) o → IfOk (first_member n at (after_white bs) o) (TurnBehind (b ∷ bs))
first_member_behind n at b bs (Some rest) h u p = behind_ahead b bs rest h (ahead_more (white_ahead bs) p) u
first_member_behind n at b bs None h u p =
    let taken : List ℕ → Bool = λ q. false in
    ok_map (TurnBehind (after_white bs)) (TurnBehind (b ∷ bs)) (with_label at [] (label n taken (after_white bs)))
    (with_label_behind at [] (after_white bs) (label n taken (after_white bs)) (label_behind n taken (after_white bs) (ahead_utf8 (white_ahead bs) (utf8_tail b bs h u))))
    (λ t k. turn_more b bs t h u k)

pub begun_behind : (n levels : ℕ) (bs : List ℕ) → IsUtf8 bs → IfOk (begun n levels bs) (TurnBehind bs)
begun_behind n levels [] u = tt
begun_behind n levels (b ∷ bs) u =
    let P : Turn → Type 0 = TurnBehind (b ∷ bs) in
    ok_if P (b == 91) (opens n levels (place n (b ∷ bs)) square bs) _
    (λ e. ok_if P (levels == 0) (Err (Depth (place n (b ∷ bs)))) _ (λ k. tt) (λ k. first_item_behind n (place n (b ∷ bs)) b bs (behind 93 (after_white bs)) (ascii b 91 e (omega arith)) u (some_ahead 93 (after_white bs) (omega arith))))
    (λ e. ok_if P (b == 123) (opens n levels (place n (b ∷ bs)) curly bs) (leaf n (place n (b ∷ bs)) (scalar n (b ∷ bs)))
    (λ k. ok_if P (levels == 0) (Err (Depth (place n (b ∷ bs)))) _ (λ j. tt) (λ j. first_member_behind n (place n (b ∷ bs)) b bs (behind 125 (after_white bs)) (ascii b 123 k (omega arith)) u (some_ahead 125 (after_white bs) (omega arith))))
    (λ k. leaf_behind n (place n (b ∷ bs)) (b ∷ bs) (scalar n (b ∷ bs)) (scalar_behind n (b ∷ bs) u)))

next_item_behind : (n at : ℕ) (ts : List Tree) (bs : List ℕ) (r : Result Next JsonFault) → IsUtf8 bs → IfOk r (NextAhead bs) → IfOk (next_item n at ts r) (TurnBehind bs)
next_item_behind n at ts bs (Ok (done rest)) u k = record { rest = rest_ahead u k.0; less = k.1 }
next_item_behind n at ts bs (Ok (more rest)) u k = record { rest = rest_ahead u k.0; less = k.1 }
next_item_behind n at ts bs (Err e) u k = tt

next_member_behind : (n at : ℕ) (ms : List (List ℕ × Tree)) (taken : List ℕ → Bool) (bs : List ℕ) (r : Result Next JsonFault) → IsUtf8 bs → IfOk r (NextAhead bs) → IfOk (next_member n at ms r) (TurnBehind bs)
next_member_behind n at ms taken bs (Ok (done rest)) u k = record { rest = rest_ahead u k.0; less = k.1 }
next_member_behind n at ms taken bs (Ok (more rest)) u k =
    ok_map (TurnBehind rest) (TurnBehind bs) (with_label at ms (label n _ rest)) (with_label_behind at ms rest (label n _ rest) (label_behind n _ rest (ahead_utf8 k.0 u)))
    (turn_further (rest_ahead u k.0) k.1)
  where
    turn_further : IsRest bs rest → length rest < length bs → (t : Turn) → TurnBehind rest t → TurnBehind bs t
    turn_further p h (goes at i cs) j = let less = j.less in record { rest = rest_more p j.rest; less = omega (arith, less, h) }
    turn_further p h (whole t cs) j = let less = j.less in record { rest = rest_more p j.rest; less = omega (arith, less, h) }
next_member_behind n at ms taken bs (Err e) u k = tt

pub onward_behind : (n at : ℕ) (i : Inside) (t : Tree) (bs : List ℕ) → IsUtf8 bs → IfOk (onward n at i t bs) (TurnBehind bs)
onward_behind n at (in_list ts) t bs u = next_item_behind n at (ts ++ t ∷ []) bs (next n 93 bs) u (next_ahead n 93 bs (omega arith))
onward_behind n at (in_object ms x) t bs u = next_member_behind n at (ms ++ (x, t) ∷ []) (λ q. false) bs (next n 125 bs) u (next_ahead n 125 bs (omega arith))

-- behind an opening bracket, white space and all
pub behind_bracket : (b : ℕ) (from inside bytes : List ℕ) → b < 128 → from ≡ b ∷ inside → bytes ≡ after_white inside → IsUtf8 from → Behind from bytes
behind_bracket b from inside bytes h e w u =
    let P : List ℕ → Type 0 = IsUtf8 in
    let Q : List ℕ → Type 0 = λ z. Behind z bytes in
    let R : List ℕ → Type 0 = λ z. Behind (b ∷ inside) z in
    subst Q (sym e) (subst R (sym w) (behind_ahead b inside (after_white inside) h (white_ahead inside) (subst P e u)))

-- behind the closing bracket that follows
pub behind_both : (b c : ℕ) (from inside bytes rest : List ℕ) → b < 128 → c < 128 → from ≡ b ∷ inside → bytes ≡ after_white inside → behind c bytes ≡ Some rest → IsUtf8 from → Behind from rest
behind_both b c from inside bytes rest h i e w k u =
    let P : Option (List ℕ) → Type 0 = SomeAhead bytes in
    behind_more from bytes rest (behind_bracket b from inside bytes h e w u) (subst P k (some_ahead c bytes i))

pub behind_then : (a b c : List ℕ) → Behind a b → Behind b c → Behind a c
behind_then a b c p q = let i = p.less in let j = q.less in record { rest = rest_more p.rest q.rest; less = omega (arith, i, j) }

-- there is room for a part
pub some_room : (s from rest : List ℕ) → IsRest s from → Behind from rest → 0 < length s - length rest
some_room s from rest p q = let i = q.less in omega (arith, i, rest_le p)

-- behind what follows a part
pub next_done : (n close : ℕ) (bs rest : List ℕ) → close < 128 → next n close bs ≡ Ok (done rest) → IsUtf8 bs → Behind bs rest
next_done n close bs rest h e u = let k = known (NextAhead bs) (next n close bs) (done rest) (next_ahead n close bs h) e in record { rest = rest_ahead u k.0; less = k.1 }

pub next_goes : (n close : ℕ) (bs rest : List ℕ) → close < 128 → next n close bs ≡ Ok (more rest) → IsUtf8 bs → Behind bs rest
next_goes n close bs rest h e u = let k = known (NextAhead bs) (next n close bs) (more rest) (next_ahead n close bs h) e in record { rest = rest_ahead u k.0; less = k.1 }
