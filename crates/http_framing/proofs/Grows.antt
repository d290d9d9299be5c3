-- What stands at the front of bytes stays there, whatever comes behind them.
use Rattle.std.proofs.Common.{arith, ◌≡◌, ℕ, ◌-◌, ◌≤◌, ◌⊎◌, inl, inr, List, [], ◌∷◌, ◌++◌, All, IsTrue, length, take, drop, take-append-drop, refl, sym, ap, ◌∙◌, subst, append_assoc}
use Rattle.std.proofs.lemmas.List.{take-append-le, drop-append-le, length-take, length-append}
use Rattle.std.proofs.lemmas.List.Elements.{All-head, All-tail, All-cons, All-nil}
use Rattle.std.proofs.lemmas.Str.{IsUtf8-from_ascii}
use Rattle.std.proofs.lemmas.Str.Ascii.{IsAscii-cons, IsAscii-nil}
use Rattle.httparse.specs.Grammar.{is_uri_byte, AllPass, LineEnd, lf, print_blank, print_request, print_version, RequestHead, IsRequestHead, ReadsRequest, NeverHasRequest, EndsInTarget, IsToken, IsField}
use Rattle.httparse.proofs.GrammarLemmas.{print_request-append}
use Rattle.http_framing.specs.Heads.{IsBadHead, HasHead}
use Rattle.http_framing.proofs.Fronts.{take_both}

-- of two ways to part a list, one cuts no later than the other
pub parts : (a b x y : List ℕ) → a ++ b ≡ x ++ y → ((c : List ℕ) × (x ≡ a ++ c)) ⊎ ((c : List ℕ) × (a ≡ x ++ c) × (y ≡ c ++ b))
parts [] b x y e = inl (x, refl)
parts (u ∷ us) b [] y e = inr (u ∷ us, refl, sym e)
parts (u ∷ us) b (x ∷ xs) y e = elim (parts us b xs y (ap (drop 1) e)) [
  | inl p ↦ inl (p.0, ap (λ l. x ∷ l) p.1 ∙ ap (λ l. l ++ us ++ p.0) (sym (ap (take 1) e)))
  | inr p ↦ inr (p.0, ap (λ l. u ∷ l) p.1 ∙ ap (λ l. l ++ xs ++ p.0) (ap (take 1) e), p.2)
]

never_grows : (a b : List ℕ) → NeverHasRequest a → NeverHasRequest (a ++ b)
never_grows a b n more h rest reads = n (b ++ more) h rest (reads.0, sym (append_assoc a b more) ∙ reads.1)

-- all bytes of a front pass where all bytes pass
front_passes : (test : ℕ → Type 0) (a b : List ℕ) → All test (a ++ b) → All test a
front_passes test [] b h = All-nil test
front_passes test (x ∷ a) b h = All-cons test x a (All-head test x (a ++ b) h) (front_passes test a b (All-tail test x (a ++ b) h))

-- the head with this method and the target `/`
abbrev pub shortest : List LineEnd → List ℕ → RequestHead
shortest blank method = record { blank = blank; method = method; target = 47 ∷ []; minor = 1; line_end = lf; fields = []; last = lf }

pub shortest_is : (blank : List LineEnd) (method : List ℕ) → IsToken method → IsRequestHead (shortest blank method)
shortest_is blank method token = record {
  method = token;
  target = (omega arith, All-cons (λ x. IsTrue (is_uri_byte x)) 47 [] refl (All-nil (λ x. IsTrue (is_uri_byte x))));
  target_text = IsUtf8-from_ascii (47 ∷ []) (IsAscii-cons 47 [] (omega arith) IsAscii-nil);
  minor = omega arith;
  fields = All-nil IsField;
}

abbrev tail : List ℕ
tail = 47 ∷ 32 ∷ (print_version 1 ++ (10 ∷ 10 ∷ []))

-- a front of empty lines, a method and a space goes on to a head
goes_on : (blank : List LineEnd) (method a c : List ℕ) → (print_blank blank ++ method) ++ (32 ∷ []) ≡ a ++ c → a ++ (c ++ tail) ≡ print_request (shortest blank method) ++ []
goes_on blank method a c e =
    sym (append_assoc a c tail) ∙ ap (λ l. l ++ tail) (sym e) ∙ append_assoc (print_blank blank ++ method) (32 ∷ []) tail ∙ append_assoc (print_blank blank) method (32 ∷ tail) ∙ sym (print_request-append (shortest blank method) [])

-- bytes that no head begins with, and that do not end in a target, stay so
pub bad_grows : (a b : List ℕ) → IsBadHead a → IsBadHead (a ++ b)
bad_grows a b bad = (never_grows a b bad.0, λ ends. stays ends)
  where
    stays : EndsInTarget (a ++ b) → ⊥
    stays (blank, method, target, token, uri, whole) =
        elim (parts a b ((print_blank blank ++ method) ++ (32 ∷ [])) target (whole ∙ sym (append_assoc (print_blank blank ++ method) (32 ∷ []) target))) [
          | inl p ↦ bad.0 (p.0 ++ tail) (shortest blank method) [] (shortest_is blank method token, goes_on blank method a p.0 p.1)
          | inr p ↦ bad.1 (blank, method, p.0, token, (let T : List ℕ → Type 0 = AllPass is_uri_byte in front_passes (λ x. IsTrue (is_uri_byte x)) p.0 b (subst T p.2 uri)), p.1 ∙ append_assoc (print_blank blank ++ method) (32 ∷ []) p.0)
        ]

-- of more bytes, the first 10,240 begin with the first 10,240
pub bad_front_grows : (held ys : List ℕ) → IsBadHead (take 10240 held) → IsBadHead (take 10240 (held ++ ys))
bad_front_grows held ys bad =
    let P : List ℕ → Type 0 = IsBadHead in
    subst P (sym (take_both 10240 held ys)) (bad_grows (take 10240 held) (take (10240 - length held) ys) bad)

pub long_front_grows : (held ys : List ℕ) → 10240 ≤ length held → take 10240 (held ++ ys) ≡ take 10240 held
long_front_grows held ys far = take-append-le 10240 held ys far

-- a head that was read of a front stands in all that is left
pub head_grows : (held ys : List ℕ) (h : RequestHead) (len : ℕ) → ReadsRequest (take 10240 held) h (drop len (take 10240 held)) → len ≡ length (print_request h) → HasHead (held ++ ys) h (drop len held ++ ys)
head_grows held ys h len reads is =
    let front = take 10240 held in
    let whole : front ++ drop 10240 held ≡ held = take-append-drop 10240 held in
    let short : len ≤ length front = omega (arith, ap length reads.1, length-append (print_request h) (drop len front), is) in
    let rest : drop len front ++ drop 10240 held ≡ drop len held = sym (drop-append-le len front (drop 10240 held) short) ∙ ap (drop len) whole in
    record {
      reads = (
        reads.0,
        ap (λ l. l ++ ys) (sym whole ∙ ap (λ l. l ++ drop 10240 held) reads.1 ∙ append_assoc (print_request h) (drop len front) (drop 10240 held) ∙ ap (λ l. print_request h ++ l) rest)
            ∙ append_assoc (print_request h) (drop len held) ys,
      );
      within = omega (arith, short, is, length-take 10240 held);
    }
