-- The request that is made of spans is the one of the head.
use Rattle.std.proofs.Common.{arith, ◌≡◌, ℕ, ◌<◌, true, List, [], ◌∷◌, All, IsTrue, map, refl, ap, ◌∙◌}
use Rattle.std.proofs.lemmas.Bool.Decides.{nat_tests}
use Rattle.std.proofs.lemmas.Str.{IsUtf8-from_ascii, utf8_lossy-IsUtf8}
use Rattle.std.proofs.lemmas.Str.Ascii.{IsAscii-cons, IsAscii-nil}
use Rattle.std.proofs.lemmas.List.Elements.{All-head, All-tail}
use Rattle.std.specs.Str.{IsAscii}
use Rattle.std.specs.Str.Lossy.{utf8_lossy}
use Rattle.httparse.specs.Grammar.{is_token_byte, AllPass, Field, IsField, field_value}
use Rattle.httparse.specs.Spans.{name_and_value}
use Rattle.http_edge.specs.Texts.{header_of, header_texts}

small : (b : ℕ) → is_token_byte b ≡ true → b < 128
unfolding is_token_byte
small b t = grind (arith, nat_tests)

ascii : (bs : List ℕ) → AllPass is_token_byte bs → IsAscii bs
ascii [] h = IsAscii-nil
ascii (b ∷ bs) h = IsAscii-cons b bs (small b (All-head (λ x. IsTrue (is_token_byte x)) b bs h)) (ascii bs (All-tail (λ x. IsTrue (is_token_byte x)) b bs h))

-- a token is its own text
pub token_text : (bs : List ℕ) → AllPass is_token_byte bs → utf8_lossy bs ≡ bs
token_text bs h = utf8_lossy-IsUtf8 bs (IsUtf8-from_ascii bs (ascii bs h))

pub names_text : (fs : List Field) → All IsField fs → map header_texts (map name_and_value fs) ≡ map header_of (map name_and_value fs)
names_text [] h = refl
names_text (f ∷ fs) h =
    let name = token_text f.name (All-head IsField f fs h).name.1 in
    ap (λ n. (n, utf8_lossy (field_value f)) ∷ map header_texts (map name_and_value fs)) name
    ∙ ap (λ l. (f.name, utf8_lossy (field_value f)) ∷ l) (names_text fs (All-tail IsField f fs h))
