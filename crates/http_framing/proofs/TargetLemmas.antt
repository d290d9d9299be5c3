-- `is_in_target` computes `EndsInTarget`.
use Rattle.std.proofs.Common.{◌≡◌, ℕ, ◌<◌, ◌⊎◌, Bool, true, false, ◌&&◌, ◌==◌, List, [], ◌∷◌, ◌++◌, IsTrue, length, if◌then◌else◌, arith, refl, sym, ap, ◌∙◌, inl, inr, true≢false, append_assoc}
use Rattle.std.proofs.lemmas.Bool.{cases_Bool}
use Rattle.std.proofs.lemmas.Bool.Decides.{nat_tests}
use Rattle.std.proofs.lemmas.List.Elements.{All-head, All-tail, All-cons, All-nil}
use Rattle.std.proofs.lemmas.List.Sums.{AllPass-from_list_all, list_all-from_AllPass}
use Rattle.std.specs.List.{list_all}
use Rattle.httparse.specs.Grammar.{is_token_byte, is_uri_byte, AllPass, LineEnd, crlf, lf, print_end, print_blank, EndsInTarget}
use Rattle.http_framing.specs.Targets.{after_blank, in_method, is_in_target}

-- the bytes are empty lines and then these
abbrev Blanks : List ℕ → List ℕ → Type 0
Blanks buf rest = (blank : List LineEnd) × (buf ≡ print_blank blank ++ rest)

ten : (b : ℕ) → (b == 10) ≡ true → b ≡ 10
ten b t = grind (arith, nat_tests)

pair : (b c : ℕ) → (b == 13 && c == 10) ≡ true → (b ≡ 13) × (c ≡ 10)
pair b c t = grind (arith, nat_tests)

blanks : (buf : List ℕ) → Blanks buf (after_blank buf)
unfolding after_blank
blanks [] = ([], refl)
blanks (b ∷ []) = (elim (b == 10) as (λ y. (b == 10) ≡ y → Blanks (b ∷ []) (if y then [] else b ∷ [])) [
  | true ↦ λ t. (lf ∷ [], ap (λ x. x ∷ []) (ten b t))
  | false ↦ λ t. ([], refl)
]) refl
blanks (b ∷ c ∷ rest) = (elim (b == 10) as (λ y. (b == 10) ≡ y → Blanks (b ∷ c ∷ rest) (if y then after_blank (c ∷ rest) else if b == 13 && c == 10 then after_blank rest else b ∷ c ∷ rest)) [
  | true ↦ λ t. let later = blanks (c ∷ rest) in (lf ∷ later.0, rw (ten b t) (ap (λ xs. 10 ∷ xs) later.1))
  | false ↦ λ t. (elim (b == 13 && c == 10) as (λ y. (b == 13 && c == 10) ≡ y → Blanks (b ∷ c ∷ rest) (if y then after_blank rest else b ∷ c ∷ rest)) [
    | true ↦ λ u. let later = blanks rest in let two = pair b c u in (crlf ∷ later.0, rw (two.0, two.1) (ap (λ xs. 13 ∷ 10 ∷ xs) later.1))
    | false ↦ λ u. ([], refl)
  ]) refl
]) refl

-- a method, a space and a target
pub record Parted (some : Bool) (bytes : List ℕ) : Type 0 where
  pub method : List ℕ
  pub target : List ℕ
  pub token : AllPass is_token_byte method
  pub uri : AllPass is_uri_byte target
  pub whole : bytes ≡ method ++ 32 ∷ target
  pub any : some ≡ false → 0 < length method

last : (some : Bool) (b : ℕ) (rest : List ℕ) → (some && b == 32 && list_all is_uri_byte rest) ≡ true →
    (some ≡ true) × (b ≡ 32) × (list_all is_uri_byte rest ≡ true)
last some b rest h = grind (arith, nat_tests)

parted : (some : Bool) (bytes : List ℕ) → in_method some bytes ≡ true → Parted some bytes
unfolding in_method
parted some [] h = absurd (true≢false (sym h))
parted some (b ∷ rest) h = (elim (is_token_byte b) as (λ y. is_token_byte b ≡ y →
    (if y then in_method true rest else (some && b == 32 && list_all is_uri_byte rest)) ≡ true → Parted some (b ∷ rest)) [
      | true ↦ λ t g. let p = parted true rest g in record {
        method = b ∷ p.method;
        target = p.target;
        token = All-cons (λ x. IsTrue (is_token_byte x)) b p.method t p.token;
        uri = p.uri;
        whole = ap (λ xs. b ∷ xs) p.whole;
        any = λ _. omega arith;
      }
      | false ↦ λ t g. let three = last some b rest g in record {
        method = [];
        target = rest;
        token = All-nil (λ x. IsTrue (is_token_byte x));
        uri = AllPass-from_list_all is_uri_byte rest three.2;
        whole = ap (λ x. x ∷ rest) three.1;
        any = λ none. absurd (true≢false (sym three.0 ∙ none));
      }
    ]) refl h

pub ends_from_test : (buf : List ℕ) → is_in_target buf ≡ true → EndsInTarget buf
ends_from_test buf h =
    let front = blanks buf in
    let p = parted false (after_blank buf) h in
    (front.0, p.method, p.target, (p.any refl, p.token), p.uri, front.1 ∙ ap (λ xs. print_blank front.0 ++ xs) p.whole ∙ sym (append_assoc (print_blank front.0) p.method (32 ∷ p.target)))

-- ---- and back

line_skipped : (e : LineEnd) (rest : List ℕ) → after_blank (print_end e ++ rest) ≡ after_blank rest
unfolding after_blank
line_skipped crlf rest = refl
line_skipped lf [] = refl
line_skipped lf (c ∷ rest) = refl

lines_skipped : (blank : List LineEnd) (rest : List ℕ) → after_blank (print_blank blank ++ rest) ≡ after_blank rest
lines_skipped [] rest = refl
lines_skipped (e ∷ es) rest =
    ap after_blank (append_assoc (print_end e) (print_blank es) rest) ∙ line_skipped e (print_blank es ++ rest) ∙ lines_skipped es rest

not_feed : (b : ℕ) → is_token_byte b ≡ true → ((b == 10) ≡ false) × ((b == 13) ≡ false)
unfolding is_token_byte
not_feed b t = (
  elim (cases_Bool (b == 10)) [
    | inl h ↦ let e : b ≡ 10 = grind (arith, nat_tests) in absurd (true≢false (sym t ∙ ap is_token_byte e))
    | inr h ↦ h
  ],
  elim (cases_Bool (b == 13)) [
    | inl h ↦ let e : b ≡ 13 = grind (arith, nat_tests) in absurd (true≢false (sym t ∙ ap is_token_byte e))
    | inr h ↦ h
  ],
)

token_stays : (b : ℕ) (rest : List ℕ) → is_token_byte b ≡ true → after_blank (b ∷ rest) ≡ b ∷ rest
unfolding after_blank
token_stays b [] t = rw (not_feed b t).0 refl
token_stays b (c ∷ rest) t = rw ((not_feed b t).0, (not_feed b t).1) refl

met : (some : Bool) (method target : List ℕ) → AllPass is_token_byte method → AllPass is_uri_byte target →
    (some ≡ true) ⊎ (0 < length method) → in_method some (method ++ 32 ∷ target) ≡ true
unfolding in_method is_token_byte
met some [] target token uri (inl known) = rw (known, list_all-from_AllPass is_uri_byte target uri) refl
met some [] target token uri (inr any) = absurd (omega arith)
met some (b ∷ method) target token uri any =
    rw (All-head (λ x. IsTrue (is_token_byte x)) b method token) (met true method target (All-tail (λ x. IsTrue (is_token_byte x)) b method token) uri (inl refl))

whole_stays : (method target : List ℕ) → AllPass is_token_byte method → 0 < length method → after_blank (method ++ 32 ∷ target) ≡ method ++ 32 ∷ target
whole_stays [] target token any = absurd (omega arith)
whole_stays (b ∷ method) target token any = token_stays b (method ++ 32 ∷ target) (All-head (λ x. IsTrue (is_token_byte x)) b method token)

pub test_from_ends : (buf : List ℕ) → EndsInTarget buf → is_in_target buf ≡ true
test_from_ends buf (blank, method, target, token, uri, whole) =
    ap (λ xs. in_method false (after_blank xs)) (whole ∙ append_assoc (print_blank blank) method (32 ∷ target)) ∙ ap (in_method false) (lines_skipped blank (method ++ 32 ∷ target) ∙ whole_stays method target token.1 token.0)
    ∙ met false method target token.1 uri (inr token.0)
