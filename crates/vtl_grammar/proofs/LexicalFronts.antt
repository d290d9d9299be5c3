-- What stands at the front of a text, and how much of the text it takes.
use Rattle.std.proofs.Common.{◌≡◌, ℕ, zero, suc, ◌+◌, ◌≤◌, List, [], ◌∷◌, ◌++◌, length, drop, ap, arith, Bool, true, false, ◌&&◌, Option, Some, None, if◌then◌else◌, ◌==◌, length-drop, codes}
use Rattle.vtl_grammar.specs.Bytes.{name_at, taken, after, until_byte, until_word, more_before, blanks}
use Rattle.vtl_grammar.specs.Words.{Word, keyword, word_of, before_hyphen, bare_word, closed_word, braced_word, word_in, word_at}
use Rattle.vtl_grammar.specs.Macros.{Hash, a_line, a_comment, a_raw, a_word, hash_or_word, hash_or_raw, hash_or_comment, hash_at, past}
use Rattle.vtl_grammar.specs.Lines.{Line, Spot, line_after, behind_return, line_end, alone_on, lines}
use Rattle.vtl_grammar.specs.References.{Begun, a_reference, nameless, begun}
use Rattle.vtl_grammar.specs.Strings.{escapes}
use Rattle.vtl_grammar.specs.Fronts.{Front, finish, plain, raw, unclosed, bad_escape, reference, line_comment, long_comment, directive, reference_or, directive_or, comment_or, raw_or, hash, front_at, text_on, text_run}
use Rattle.vtl_grammar.specs.Grammar.{Texts}
use Rattle.vtl_grammar.proofs.Lexical.{pick_le, if_le, sized, word_size, name_le, taken_le, before_le, until_le, after_le, blanks_le}
use Rattle.vtl_grammar.proofs.LexicalReferences.{begun_left, begun_le}

until_word_if : (b : ℕ) (w bs : List ℕ) (o : Option (List ℕ)) → word_size o ≤ length (b ∷ bs) + 1 → sized (until_word w bs) ≤ length bs + 1 → sized (elim o as (λ _. Option (List ℕ × List ℕ)) [ None ↦ more_before b (until_word w bs) | Some rest ↦ Some ([], rest) ]) ≤ length (b ∷ bs) + 1
until_word_if b w bs None h k = omega (arith, before_le b (length bs + 1) (until_word w bs) k)
until_word_if b w bs (Some rest) h k = omega (arith, h)

until_word_le : (w bs : List ℕ) → sized (until_word w bs) ≤ length bs + 1
until_word_le w [] = omega arith
until_word_le w (b ∷ bs) = until_word_if b w bs (after w (b ∷ bs)) (after_le w (b ∷ bs)) (until_word_le w bs)

closed_le : (w : Option Word) (c : Bool × List ℕ) → sized (closed_word w c) ≤ length c.1 + 1
closed_le None (true, rest) = omega arith
closed_le None (false, rest) = omega arith
closed_le (Some w) (true, rest) = omega arith
closed_le (Some w) (false, rest) = omega arith

braced_le : (names : List (List ℕ)) (o : Option (List ℕ × List ℕ)) → sized (braced_word names o) ≤ sized o
braced_le names None = omega arith
braced_le names (Some p) = omega (arith, closed_le (word_of names p.0) (taken 125 p.1), taken_le 125 p.1)

keyword_le : (x bs : List ℕ) (w : Option Word) → sized (elim w as (λ _. Option (Word × List ℕ)) [ Some w ↦ Some (w, drop (length x) bs) | None ↦ None ]) ≤ length bs + 1
keyword_le x bs None = omega arith
keyword_le x bs (Some w) = omega (arith, length-drop (length x) bs)

hyphen_le : (bs : List ℕ) (o : Option (List ℕ × List ℕ)) → sized (before_hyphen bs o) ≤ length bs + 1
hyphen_le bs None = omega arith
hyphen_le bs (Some p) = keyword_le p.0 bs (keyword p.0)

bare_if : (bs x rest : List ℕ) (w : Option Word) → length rest + 1 ≤ length bs → sized (elim w as (λ _. Option (Word × List ℕ)) [ Some w ↦ Some (w, rest) | None ↦ before_hyphen bs (until_byte 45 x) ]) ≤ length bs + 1
bare_if bs x rest None h = hyphen_le bs (until_byte 45 x)
bare_if bs x rest (Some w) h = omega (arith, h)

bare_le : (names : List (List ℕ)) (bs : List ℕ) (o : Option (List ℕ × List ℕ)) → sized o ≤ length bs → sized (bare_word names bs o) ≤ length bs + 1
bare_le names bs None h = omega arith
bare_le names bs (Some p) h = bare_if bs p.0 p.1 (word_of names p.0) h

word_in_le : (names : List (List ℕ)) (bs : List ℕ) (c : Bool × List ℕ) → length c.1 ≤ length bs → sized (word_in names bs c) ≤ length bs + 1
word_in_le names bs (true, inner) h = omega (arith, h, braced_le names (name_at inner), name_le inner)
word_in_le names bs (false, rest) h = bare_le names bs (name_at bs) (name_le bs)

pub word_le : (names : List (List ℕ)) (bs : List ℕ) → sized (word_at names bs) ≤ length bs + 1
word_le names bs = word_in_le names bs (taken 123 bs) (taken_le 123 bs)

-- how many bytes stand from the last one of this front on
abbrev pub front_left : Front → ℕ
front_left finish = 0
front_left (plain b rest) = length rest + 1
front_left (raw x rest) = length rest + 1
front_left unclosed = 0
front_left bad_escape = 0
front_left (reference quiet braced x rest) = length rest + 1
front_left (line_comment rest) = length rest + 1
front_left (long_comment rest) = length rest + 1
front_left (directive d rest) = length rest + 1

reference_le : (b : Begun) (bs : List ℕ) → begun_left b ≤ length bs → front_left (reference_or b bs) ≤ length bs + 1
reference_le (nameless missing) bs h = omega arith
reference_le (a_reference quiet braced x rest) bs h = omega (arith, h)

past_le : (o : Option (List ℕ × List ℕ)) → length (past o) ≤ sized o
past_le None = omega arith
past_le (Some p) = omega arith

comment_le : (o : Option (List ℕ × List ℕ)) → front_left (comment_or o) ≤ sized o
comment_le None = omega arith
comment_le (Some p) = omega arith

raw_le : (o : Option (List ℕ × List ℕ)) → front_left (raw_or o) ≤ sized o
raw_le None = omega arith
raw_le (Some p) = omega arith

directive_le : (bs : List ℕ) (o : Option (Word × List ℕ)) → sized o ≤ length bs + 1 → front_left (directive_or bs o) ≤ length bs + 1
directive_le bs None h = omega arith
directive_le bs (Some p) h = omega (arith, h)

hash_le : (names : List (List ℕ)) (h : Hash × List ℕ) → front_left (hash names h) ≤ length h.1 + 1
hash_le names (a_line, rest) = omega (arith, past_le (until_byte 10 rest), until_le 10 rest)
hash_le names (a_comment, rest) = omega (arith, comment_le (until_word (codes "*#") rest), until_word_le (codes "*#") rest)
hash_le names (a_raw, rest) = omega (arith, raw_le (until_word (codes "]]#") rest), until_word_le (codes "]]#") rest)
hash_le names (a_word, rest) = directive_le rest (word_at names rest) (word_le names rest)

hash_word_le : (o : Option (List ℕ)) (bs : List ℕ) → word_size o ≤ length bs + 1 → length (hash_or_word o bs).1 ≤ length bs
hash_word_le None bs h = omega arith
hash_word_le (Some rest) bs h = omega (arith, h)

hash_raw_le : (o : Option (List ℕ)) (bs : List ℕ) → word_size o ≤ length bs + 1 → length (hash_or_raw o bs).1 ≤ length bs
hash_raw_le None bs h = hash_word_le (after (codes "[[") bs) bs (after_le (codes "[[") bs)
hash_raw_le (Some rest) bs h = omega (arith, h)

hash_comment_le : (o : Option (List ℕ)) (bs : List ℕ) → word_size o ≤ length bs + 1 → length (hash_or_comment o bs).1 ≤ length bs
hash_comment_le None bs h = hash_raw_le (after (codes "*") bs) bs (after_le (codes "*") bs)
hash_comment_le (Some rest) bs h = omega (arith, h)

hash_at_le : (bs : List ℕ) → length (hash_at bs).1 ≤ length bs
hash_at_le bs = hash_comment_le (after (codes "#") bs) bs (after_le (codes "#") bs)

pub front_le : (names : List (List ℕ)) (bs : List ℕ) → front_left (front_at names bs) ≤ length bs
unfolding front_at
front_le names [] = omega arith
front_le names (b ∷ bs) =
    let third : Front = elim ((b == 92) && escapes bs) [ true ↦ bad_escape | false ↦ plain b bs ] in
    let second : Front = elim (b == 35) [ true ↦ hash names (hash_at bs) | false ↦ third ] in
    pick_le {A = Front} (λ z. front_left z) (b == 36) (reference_or (begun bs) bs) second (length (b ∷ bs)) (omega (arith, reference_le (begun bs) bs (begun_le bs)))
    (pick_le {A = Front} (λ z. front_left z) (b == 35) (hash names (hash_at bs)) third (length (b ∷ bs)) (omega (arith, hash_le names (hash_at bs), hash_at_le bs))
    (pick_le {A = Front} (λ z. front_left z) ((b == 92) && escapes bs) bad_escape (plain b bs) (length (b ∷ bs)) (omega arith) (omega arith)))

pub front_less : (names : List (List ℕ)) (bs : List ℕ) (f : Front) → front_at names bs ≡ f → front_left f ≤ length bs
front_less names bs f e = let h : front_left (front_at names bs) ≡ front_left f = ap (λ z. front_left z) e in omega (arith, h, front_le names bs)

text_on_le : (next : List ℕ → Line → List ℕ → List ℕ × Spot) (t : List ℕ) (l : Line) (bs : List ℕ) (f : Front) → ((u : List ℕ) (m : Line) (cs : List ℕ) → length ((next u m cs).1).1 ≤ length cs) → front_left f ≤ length bs → length ((text_on next t l bs f).1).1 ≤ length bs
text_on_le next t l bs finish h k = omega arith
text_on_le next t l bs (plain b rest) h k = omega (arith, h (t ++ b ∷ []) (line_after l b) rest, k)
text_on_le next t l bs (raw x rest) h k = omega (arith, h (t ++ x) None rest, k)
text_on_le next t l bs unclosed h k = omega arith
text_on_le next t l bs bad_escape h k = omega arith
text_on_le next t l bs (reference quiet braced x rest) h k = omega arith
text_on_le next t l bs (line_comment rest) h k = omega arith
text_on_le next t l bs (long_comment rest) h k = omega arith
text_on_le next t l bs (directive d rest) h k = omega arith

run_le : (names : List (List ℕ)) (n : ℕ) (t : List ℕ) (l : Line) (bs : List ℕ) → length ((text_run names n t l bs).1).1 ≤ length bs
unfolding text_run
run_le names zero t l bs = omega arith
run_le names (suc n) t l bs = text_on_le (text_run names n) t l bs (front_at names bs) (λ u m cs. run_le names n u m cs) (front_le names bs)

-- the place behind a run of text
pub texts_less : (names : List (List ℕ)) (s : Spot) (x : List ℕ) (t : Spot) → Texts names s x t → length t.1 ≤ length s.1
texts_less names s x t e =
    let h : length ((text_run names (length s.1 + 1) [] s.0 s.1).1).1 ≡ length t.1 = ap (λ z. length {A = ℕ} (z.1).1) e in
    omega (arith, h, run_le names (length s.1 + 1) [] s.0 s.1)

return_le : (bs : List ℕ) → word_size (behind_return bs) ≤ length bs + 1
return_le [] = omega arith
return_le (b ∷ bs) = if_le {A = Option (List ℕ)} (λ z. word_size z) (b == 10) (Some bs) None (length (b ∷ bs) + 1) (omega arith) (omega arith)

line_end_le : (bs : List ℕ) → word_size (line_end bs) ≤ length bs + 1
line_end_le [] = omega arith
line_end_le (b ∷ bs) =
    if_le {A = Option (List ℕ)} (λ z. word_size z) (b == 10) (Some bs) (if b == 13 then behind_return bs else None) (length (b ∷ bs) + 1) (omega arith)
    (if_le {A = Option (List ℕ)} (λ z. word_size z) (b == 13) (behind_return bs) None (length (b ∷ bs) + 1) (omega (arith, return_le bs)) (omega arith))

alone_le : (l : Line) (o : Option (List ℕ)) (t bs : List ℕ) → word_size o ≤ length bs + 1 → length ((alone_on l o t bs).1).1 ≤ length bs
alone_le None None t bs h = omega arith
alone_le None (Some rest) t bs h = omega arith
alone_le (Some n) None t bs h = omega arith
alone_le (Some n) (Some rest) t bs h = omega (arith, h)

-- the place behind a directive
pub lines_less : (l : Line) (t bs y : List ℕ) (u : Spot) → lines l t bs ≡ (y, u) → length u.1 ≤ length bs
lines_less l t bs y u e =
    let h : length ((lines l t bs).1).1 ≡ length u.1 = ap (λ z. length {A = ℕ} (z.1).1) e in
    omega (arith, h, alone_le l (line_end (blanks bs)) t bs (omega (arith, line_end_le (blanks bs), blanks_le bs)))
