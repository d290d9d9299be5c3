-- What stands at the front of a text: text, a comment, raw text, a reference or a directive.
use Rattle.std.specs.Prelude.{ℕ, zero, suc, ◌++◌, Bool, true, false, ◌&&◌, List, [], ◌∷◌, codes, Option, Some, None, ◌==◌}
use Rattle.vtl_grammar.specs.Bytes.{until_byte, until_word}
use Rattle.vtl_grammar.specs.Words.{Word, word_at}
use Rattle.vtl_grammar.specs.Macros.{Hash, a_line, a_comment, a_raw, a_word, hash_at, past}
use Rattle.vtl_grammar.specs.Lines.{Line, Spot, line_after}
use Rattle.vtl_grammar.specs.References.{Begun, a_reference, nameless, begun}
use Rattle.vtl_grammar.specs.Strings.{escapes}

pub data Front : Type 0 where
  finish : Front
  plain : ℕ → List ℕ → Front
  -- raw text, and what follows it
  raw : List ℕ → List ℕ → Front
  -- a comment or raw text that is not closed
  unclosed : Front
  bad_escape : Front
  -- whether it is quiet, and in braces; its name, and what follows the name
  reference : Bool → Bool → List ℕ → List ℕ → Front
  line_comment : List ℕ → Front
  long_comment : List ℕ → Front
  directive : Word → List ℕ → Front

abbrev pub reference_or : Begun → List ℕ → Front
reference_or (nameless missing) bs = plain 36 bs
reference_or (a_reference quiet braced x rest) bs = reference quiet braced x rest

abbrev pub directive_or : List ℕ → Option (Word × List ℕ) → Front
directive_or bs None = plain 35 bs
directive_or bs (Some p) = directive p.0 p.1

abbrev pub comment_or : Option (List ℕ × List ℕ) → Front
comment_or None = unclosed
comment_or (Some p) = long_comment p.1

abbrev pub raw_or : Option (List ℕ × List ℕ) → Front
raw_or None = unclosed
raw_or (Some p) = raw p.0 p.1

-- behind a `#`; a line comment takes its line feed
abbrev pub hash : List (List ℕ) → Hash × List ℕ → Front
hash names (a_line, rest) = line_comment (past (until_byte 10 rest))
hash names (a_comment, rest) = comment_or (until_word (codes "*#") rest)
hash names (a_raw, rest) = raw_or (until_word (codes "]]#") rest)
hash names (a_word, rest) = directive_or rest (word_at names rest)

unfoldable pub front_at : List (List ℕ) → List ℕ → Front
front_at names [] = finish
front_at names (b ∷ bs) = elim (b == 36) [
  | true ↦ reference_or (begun bs) bs
  | false ↦
      elim (b == 35) [
        | true ↦ hash names (hash_at bs)
        | false ↦
            elim ((b == 92) && escapes bs) [ true ↦ bad_escape | false ↦ plain b bs ]
      ]
]

-- a run of text: what is read so far, with its line, where this front comes next
abbrev pub text_on : (List ℕ → Line → List ℕ → List ℕ × Spot) → List ℕ → Line → List ℕ → Front → List ℕ × Spot
text_on next t l bs finish = (t, (l, bs))
text_on next t l bs (plain b rest) = next (t ++ b ∷ []) (line_after l b) rest
text_on next t l bs (raw x rest) = next (t ++ x) None rest
text_on next t l bs unclosed = (t, (l, bs))
text_on next t l bs bad_escape = (t, (l, bs))
text_on next t l bs (reference quiet braced x rest) = (t, (l, bs))
text_on next t l bs (line_comment rest) = (t, (l, bs))
text_on next t l bs (long_comment rest) = (t, (l, bs))
text_on next t l bs (directive d rest) = (t, (l, bs))

-- all text at the front, raw text with it, of at most n fronts, behind the text t
unfoldable pub text_run : List (List ℕ) → ℕ → List ℕ → Line → List ℕ → List ℕ × Spot
text_run names zero t l bs = (t, (l, bs))
text_run names (suc n) t l bs = text_on (text_run names n) t l bs (front_at names bs)
