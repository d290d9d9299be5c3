-- The names of a text's macros, found before it is read, by a scan that passes over comments and raw text alone.
use Rattle.std.specs.Prelude.{ℕ, zero, suc, ◌+◌, Bool, true, false, List, [], ◌∷◌, codes, length, Option, Some, None, ◌==◌}
use Rattle.vtl_grammar.specs.Bytes.{white, blanks, taken, name_at, after, until_byte, until_word}

-- what the scan meets: the end; no macro, and where it goes on; or a macro's name, and where it goes on
pub data Scanned : Type 0 where
  done : Scanned
  passed : List ℕ → Scanned
  found : List ℕ → List ℕ → Scanned

-- what stands behind a part that is passed over: nothing, where it is not closed
abbrev pub past : Option (List ℕ × List ℕ) → List ℕ
past None = []
past (Some p) = p.1

abbrev pub named_or : List ℕ → Option (List ℕ × List ℕ) → Scanned
named_or bs None = passed bs
named_or bs (Some p) = found p.0 bs

abbrev pub macro_bracket : List ℕ → Bool × List ℕ → Scanned
macro_bracket bs (true, rest) = named_or bs (name_at (white rest))
macro_bracket bs (false, rest) = passed bs

-- behind `#macro`: blanks, `(`, white space and a name
abbrev pub macro_word : List ℕ → Option (List ℕ) → Scanned
macro_word bs None = passed bs
macro_word bs (Some rest) = macro_bracket bs (taken 40 (blanks rest))

abbrev pub macro_or_braced : List ℕ → Option (List ℕ) → Scanned
macro_or_braced bs (Some rest) = macro_word bs (Some rest)
macro_or_braced bs None = macro_word bs (after (codes "{macro}") bs)

-- what the bytes behind a `#` begin: a comment to the end of the line, a comment, raw text, or a word
pub data Hash : Type 0 where
  a_line : Hash
  a_comment : Hash
  a_raw : Hash
  a_word : Hash

abbrev pub raw_or_word : Bool × List ℕ → Hash × List ℕ
raw_or_word (true, rest) = (a_raw, rest)
raw_or_word (false, rest) = (a_word, rest)

abbrev pub hash_or_word : Option (List ℕ) → List ℕ → Hash × List ℕ
hash_or_word (Some rest) bs = (a_raw, rest)
hash_or_word None bs = (a_word, bs)

abbrev pub hash_or_raw : Option (List ℕ) → List ℕ → Hash × List ℕ
hash_or_raw (Some rest) bs = (a_comment, rest)
hash_or_raw None bs = hash_or_word (after (codes "[[") bs) bs

abbrev pub hash_or_comment : Option (List ℕ) → List ℕ → Hash × List ℕ
hash_or_comment (Some rest) bs = (a_line, rest)
hash_or_comment None bs = hash_or_raw (after (codes "*") bs) bs

-- and what follows its sign
abbrev pub hash_at : List ℕ → Hash × List ℕ
hash_at bs = hash_or_comment (after (codes "#") bs) bs

-- behind a `#`
abbrev pub scan_hash : Hash × List ℕ → Scanned
scan_hash (a_line, rest) = passed (past (until_byte 10 rest))
scan_hash (a_comment, rest) = passed (past (until_word (codes "*#") rest))
scan_hash (a_raw, rest) = passed (past (until_word (codes "]]#") rest))
scan_hash (a_word, rest) = macro_or_braced rest (after (codes "macro") rest)

abbrev pub scan_at : List ℕ → Scanned
scan_at [] = done
scan_at (b ∷ bs) = elim (b == 35) [ true ↦ scan_hash (hash_at bs) | false ↦ passed bs ]

-- the further names, with one that is found
abbrev pub scan_on : (List ℕ → List (List ℕ)) → Scanned → List (List ℕ)
scan_on next done = []
scan_on next (passed bs) = next bs
scan_on next (found x bs) = x ∷ next bs

-- at most n steps
unfoldable pub scan : ℕ → List ℕ → List (List ℕ)
scan zero bs = []
scan (suc n) bs = scan_on (scan n) (scan_at bs)

-- the names of the macros that the scan finds
abbrev pub macro_names : List ℕ → List (List ℕ)
macro_names bs = scan (length bs + 1) bs
