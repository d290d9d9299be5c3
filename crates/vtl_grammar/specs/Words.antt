-- The words behind a `#` (User Guide, "Directives").
use Rattle.std.specs.Prelude.{ℕ, Bool, true, false, List, codes, length, drop, Option, Some, None, is_some, bytes_eq, if◌then◌else◌}
use Rattle.vtl_grammar.specs.Bytes.{name_at, taken, until_byte, is_one_of}

pub data Word : Type 0 where
  Set : Word
  If : Word
  ElseIf : Word
  Else : Word
  End : Word
  ForEach : Word
  Break : Word
  Stop : Word
  Define : Word
  -- `#parse`, `#include`, `#evaluate` and `#define`, which no template may have
  Refused : Word
  -- a macro's name
  Macro : List ℕ → Word

abbrev pub keyword : List ℕ → Option Word
keyword x =
    if bytes_eq x (codes "set") then Some Set
    else if bytes_eq x (codes "if") then Some If
    else if bytes_eq x (codes "elseif") then Some ElseIf
    else if bytes_eq x (codes "else") then Some Else
    else if bytes_eq x (codes "end") then Some End
    else if bytes_eq x (codes "foreach") then Some ForEach
    else if bytes_eq x (codes "break") then Some Break
    else if bytes_eq x (codes "stop") then Some Stop
    else if bytes_eq x (codes "macro") then Some Define
    else if bytes_eq x (codes "parse") then Some Refused
    else if bytes_eq x (codes "include") then Some Refused
    else if bytes_eq x (codes "evaluate") then Some Refused
    else if bytes_eq x (codes "define") then Some Refused
    else None

-- a directive's word, else the name of one of these macros
abbrev pub word_of : List (List ℕ) → List ℕ → Option Word
word_of names x = elim (keyword x) [ Some w ↦ Some w | None ↦ elim (is_one_of names x) [ true ↦ Some (Macro x) | false ↦ None ] ]

-- an identifier may be a directive's word up to its first `-`
abbrev pub before_hyphen : List ℕ → Option (List ℕ × List ℕ) → Option (Word × List ℕ)
before_hyphen bs None = None
before_hyphen bs (Some p) = elim (keyword p.0) [ Some w ↦ Some (w, drop (length p.0) bs) | None ↦ None ]

abbrev pub bare_word : List (List ℕ) → List ℕ → Option (List ℕ × List ℕ) → Option (Word × List ℕ)
bare_word names bs None = None
bare_word names bs (Some p) = elim (word_of names p.0) [ Some w ↦ Some (w, p.1) | None ↦ before_hyphen bs (until_byte 45 p.0) ]

abbrev pub closed_word : Option Word → Bool × List ℕ → Option (Word × List ℕ)
closed_word (Some w) (true, rest) = Some (w, rest)
closed_word (Some w) (false, rest) = None
closed_word None c = None

-- within braces the identifier is whole
abbrev pub braced_word : List (List ℕ) → Option (List ℕ × List ℕ) → Option (Word × List ℕ)
braced_word names None = None
braced_word names (Some p) = closed_word (word_of names p.0) (taken 125 p.1)

abbrev pub word_in : List (List ℕ) → List ℕ → Bool × List ℕ → Option (Word × List ℕ)
word_in names bs (true, inside) = braced_word names (name_at inside)
word_in names bs (false, rest) = bare_word names bs (name_at bs)

-- the directive or call behind a `#`, and what follows its word
abbrev pub word_at : List (List ℕ) → List ℕ → Option (Word × List ℕ)
word_at names bs = word_in names bs (taken 123 bs)

abbrev pub is_directive : List (List ℕ) → List ℕ → Bool
is_directive names bs = is_some (word_at names bs)
