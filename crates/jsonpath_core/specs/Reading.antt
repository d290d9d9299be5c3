-- How a text is read as a path, from left to right, with the first fault. Each word takes n, the length of the text.
use Rattle.std.specs.Prelude.{ℕ, zero, suc, ◌-◌, ◌==◌, Bool, List, [], ◌∷◌, length, Option, Some, None, Result, Ok, Err, if◌then◌else◌}
use Rattle.jsonpath_core.specs.declared.fault.PathFault.{PathFault}
use Rattle.jsonpath_core.specs.declared.fault.PathFault.TheVariants.{BadPath}
use Rattle.jsonpath_core.specs.Steps.{Step, name, index, star}
use Rattle.jsonpath_core.specs.Spelling.{is_digit, is_name_byte, is_not, number_of}

-- a step, and what follows it
abbrev pub Read : Type 0
Read = Result (Step × List ℕ) PathFault

-- the place of the front of bs
abbrev pub place : ℕ → List ℕ → ℕ
place n bs = n - length bs

-- what follows this byte, where it stands at the front
abbrev pub behind : ℕ → List ℕ → Option (List ℕ)
behind c [] = None
behind c (b ∷ bs) = if b == c then Some bs else None

-- the bytes at the front that pass, up to the first that does not
abbrev pub run : (ℕ → Bool) → List ℕ → List ℕ
run passes [] = []
run passes (b ∷ bs) = if passes b then b ∷ run passes bs else []

-- and what follows them
abbrev pub past_run : (ℕ → Bool) → List ℕ → List ℕ
past_run passes [] = []
past_run passes (b ∷ bs) = if passes b then past_run passes bs else b ∷ bs

-- a step, at whose end its bracket closes
abbrev pub closed_by : ℕ → Step → List ℕ → Option (List ℕ) → Read
closed_by n s bs (Some rest) = Ok (s, rest)
closed_by n s bs None = Err (BadPath (place n bs))

abbrev pub closed : ℕ → Step → List ℕ → Read
closed n s bs = closed_by n s bs (behind 93 bs)

-- behind the quote that opens a name: the name up to the next such quote
abbrev pub quoted_by : ℕ → List ℕ → Option (List ℕ) → Read
quoted_by n front (Some rest) = closed n (name front) rest
quoted_by n front None = Err (BadPath n)

abbrev pub quoted_name : ℕ → ℕ → List ℕ → Read
quoted_name n q bs = quoted_by n (run (is_not q) bs) (behind q (past_run (is_not q) bs))

-- an index, by its digits
abbrev pub index_by : ℕ → List ℕ → List ℕ → Read
index_by n [] rest = Err (BadPath (place n rest))
index_by n (d ∷ ds) rest = closed n (index (number_of (d ∷ ds))) rest

-- a bare name, by its bytes
abbrev pub name_by : ℕ → List ℕ → List ℕ → Read
name_by n [] rest = Err (BadPath (place n rest))
name_by n (c ∷ cs) rest = Ok (name (c ∷ cs), rest)

-- behind `[`: by what follows a star, a single quote and a double quote there
abbrev pub bracketed_by : ℕ → List ℕ → Option (List ℕ) → Option (List ℕ) → Option (List ℕ) → Read
bracketed_by n bs (Some rest) single double = closed n star rest
bracketed_by n bs None (Some rest) double = quoted_name n 39 rest
bracketed_by n bs None None (Some rest) = quoted_name n 34 rest
bracketed_by n bs None None None = index_by n (run is_digit bs) (past_run is_digit bs)

abbrev pub bracketed : ℕ → List ℕ → Read
bracketed n bs = bracketed_by n bs (behind 42 bs) (behind 39 bs) (behind 34 bs)

-- behind `.`: by what follows a star there
abbrev pub dotted_by : ℕ → List ℕ → Option (List ℕ) → Read
dotted_by n bs (Some rest) = Ok (star, rest)
dotted_by n bs None = name_by n (run is_name_byte bs) (past_run is_name_byte bs)

abbrev pub dotted : ℕ → List ℕ → Read
dotted n bs = dotted_by n bs (behind 42 bs)

-- a step, by what follows a dot and a bracket at the front
abbrev pub step_by : ℕ → List ℕ → Option (List ℕ) → Option (List ℕ) → Read
step_by n bs (Some rest) bracket = dotted n rest
step_by n bs None (Some rest) = bracketed n rest
step_by n bs None None = Err (BadPath (place n bs))

unfoldable pub step : ℕ → List ℕ → Read
step n bs = step_by n bs (behind 46 bs) (behind 91 bs)

-- a step before those that are read behind it
abbrev pub onto : Step → Result (List Step) PathFault → Result (List Step) PathFault
onto s (Ok steps) = Ok (s ∷ steps)
onto s (Err fault) = Err fault

abbrev pub then_steps : Read → (List ℕ → Result (List Step) PathFault) → Result (List Step) PathFault
then_steps (Ok s) next = onto s.0 (next s.1)
then_steps (Err fault) next = Err fault

-- all steps to the end, at most so many
abbrev pub steps_within : ℕ → ℕ → List ℕ → Result (List Step) PathFault
steps_within n turns [] = Ok []
steps_within n zero (b ∷ bs) = Err (BadPath (place n (b ∷ bs)))
steps_within n (suc turns) (b ∷ bs) = then_steps (step n (b ∷ bs)) (steps_within n turns)

-- no text has more steps than bytes
abbrev pub steps_of : ℕ → List ℕ → Result (List Step) PathFault
steps_of n bs = steps_within n (length bs) bs

abbrev pub path_by : ℕ → Option (List ℕ) → Result (List Step) PathFault
path_by n (Some rest) = steps_of n rest
path_by n None = Err (BadPath 0)

-- the steps of the path that a text is, or its first fault
unfoldable pub path_of : List ℕ → Result (List Step) PathFault
path_of text = path_by (length text) (behind 36 text)
