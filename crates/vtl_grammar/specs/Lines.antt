-- Lines: a directive that stands alone on its line takes the whole line with it.
use Rattle.std.specs.Prelude.{ℕ, suc, ◌-◌, List, [], ◌∷◌, length, take, Option, Some, None, ◌==◌, if◌then◌else◌}
use Rattle.vtl_grammar.specs.Bytes.{is_blank, blanks}

-- how many blanks stand before a place on its line, where nothing else does
abbrev pub Line : Type 0
Line = Option ℕ

-- a place between items: what stands before it on its line, and what follows
abbrev pub Spot : Type 0
Spot = Line × List ℕ

abbrev pub one_more : Line → Line
one_more None = None
one_more (Some n) = Some (suc n)

-- the line behind a byte of text
abbrev pub line_after : Line → ℕ → Line
line_after l b = if b == 10 then Some 0 else if is_blank b then one_more l else None

-- the text without the blanks before this place on its line
abbrev pub cut : Line → List ℕ → List ℕ
cut None t = t
cut (Some n) t = take (length t - n) t

abbrev pub behind_return : List ℕ → Option (List ℕ)
behind_return [] = None
behind_return (b ∷ bs) = if b == 10 then Some bs else None

-- behind a line feed, a carriage return and line feed, or the end
abbrev pub line_end : List ℕ → Option (List ℕ)
line_end [] = Some []
line_end (b ∷ bs) = if b == 10 then Some bs else if b == 13 then behind_return bs else None

-- the text before a directive and the place behind it, where it is alone on its line and where it is not
abbrev pub alone_on : Line → Option (List ℕ) → List ℕ → List ℕ → List ℕ × Spot
alone_on (Some n) (Some rest) t bs = (take (length t - n) t, (Some 0, rest))
alone_on (Some n) None t bs = (t, (None, bs))
alone_on None l t bs = (t, (None, bs))

-- t is the text so far, and bs follows the directive
abbrev pub lines : Line → List ℕ → List ℕ → List ℕ × Spot
lines l t bs = alone_on l (line_end (blanks bs)) t bs
