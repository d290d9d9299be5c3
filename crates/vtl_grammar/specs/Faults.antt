-- Reading from left to right, with the first fault that is met. A place is told by the number of bytes from it to the
-- end of the text.
use Rattle.std.specs.Prelude.{ℕ, ◌+◌, List, [], ◌∷◌, length, drop, Result, Ok, Err, ◌==◌, if◌then◌else◌}
use Rattle.vtl_grammar.specs.declared.fault.Fault.{Fault}
use Rattle.vtl_grammar.specs.declared.fault.Fault.TheVariants.{Unclosed, BadExpression}
use Rattle.vtl_grammar.specs.Bytes.{white, furthest}

infixl 10 ◌>>=◌
abbrev pub ◌>>=◌ : {A B : Type 0} → Result A Fault → (A → Result B Fault) → Result B Fault
(Ok x) >>= f = f x
(Err e) >>= f = Err e

-- what was read, and what follows it
abbrev pub Read : Type 0 → Type 0
Read A = Result (A × List ℕ) Fault

-- nothing goes on with the byte at the front; at the end, something is not closed, and `within` says what
abbrev pub bad : {A : Type 0} → List ℕ → Result A Fault
bad [] = Err (Unclosed 0)
bad (b ∷ bs) = Err (BadExpression (length bs + 1))

-- none of the words stands here: the text may go on with one of them for a while
abbrev pub bad_word : {A : Type 0} → List (List ℕ) → List ℕ → Result A Fault
bad_word ws bs = bad (drop (furthest ws bs) bs)

-- what is not closed at the end began here, or further out
abbrev pub within : {A : Type 0} → ℕ → Result A Fault → Result A Fault
within at (Err (Unclosed n)) = Err (Unclosed at)
within at r = r

-- what follows this byte
abbrev pub expect : ℕ → List ℕ → Result (List ℕ) Fault
expect c [] = Err (Unclosed 0)
expect c (b ∷ bs) = if b == c then Ok bs else Err (BadExpression (length bs + 1))

-- what was read, with the byte that closes it behind white space
abbrev pub up_to : {A : Type 0} → ℕ → Read A → Read A
up_to c r = do
  e ← r
  rest ← expect c (white e.1)
  Ok (e.0, rest)
