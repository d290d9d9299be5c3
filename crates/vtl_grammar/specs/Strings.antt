-- Strings (User Guide, "String Literals"): in double quotes, references are interpolated and directives are refused.
use Rattle.std.specs.Prelude.{ℕ, zero, suc, ◌+◌, Bool, true, false, ◌&&◌, ◌||◌, List, [], ◌∷◌, length, take, drop, Option, Some, None, Result, Ok, Err, ◌==◌}
use Rattle.vtl_grammar.specs.declared.fault.Fault.{Fault}
use Rattle.vtl_grammar.specs.declared.fault.Fault.TheVariants as fault
use Rattle.vtl_grammar.specs.Tree.{Expr, Part, Parts, string, joined, named, no_parts, part, bytes, printed}
use Rattle.vtl_grammar.specs.Bytes.{until_byte}
use Rattle.vtl_grammar.specs.Faults.{◌>>=◌, Read, within}
use Rattle.vtl_grammar.specs.Loops.{first, Turn, last, more, gather}
use Rattle.vtl_grammar.specs.Words.{is_directive}
use Rattle.vtl_grammar.specs.Levels.{Reader}
use Rattle.vtl_grammar.specs.References.{Begun, a_reference, nameless, begun, dots_out, steps_at, source}

-- a backslash may not stand before `$` or `#`
abbrev pub escapes : List ℕ → Bool
escapes [] = false
escapes (b ∷ bs) = (b == 36) || (b == 35)

-- what stands at the front of a string's inside
pub data Piece : Type 0 where
  piece_end : Piece
  piece_byte : Piece
  -- whether it is quiet, and in braces; its name, and what follows the name
  piece_reference : Bool → Bool → List ℕ → List ℕ → Piece
  piece_bad : Fault → Piece

abbrev pub piece_dollar : Begun → Piece
piece_dollar (nameless missing) = piece_byte
piece_dollar (a_reference quiet braced x rest) = piece_reference quiet braced x rest

abbrev pub piece_of : List (List ℕ) → List ℕ → Piece
piece_of names [] = piece_end
piece_of names (b ∷ bs) = elim (b == 36) [
  | true ↦ piece_dollar (begun bs)
  | false ↦
      elim ((b == 92) && escapes bs) [
        | true ↦ piece_bad (fault.Escape (length bs + 1))
        | false ↦
            elim ((b == 35) && is_directive names bs) [ true ↦ piece_bad (fault.BadDirective (length bs + 1)) | false ↦ piece_byte ]
      ]
]

-- how many bytes of text stand at the front, where the first does where this piece is one
abbrev pub run_on : ℕ → Piece → ℕ
run_on further piece_byte = suc further
run_on further piece_end = 0
run_on further (piece_reference quiet braced x rest) = 0
run_on further (piece_bad f) = 0

abbrev pub run_len : List (List ℕ) → List ℕ → ℕ
run_len names [] = 0
run_len names (b ∷ bs) = run_on (run_len names bs) (piece_of names (b ∷ bs))

abbrev pub PartTurn : Type 0
PartTurn = Result (Turn Part (Parts × List ℕ) (List ℕ)) Fault

-- a part that is no text, at the front of all
abbrev pub piece_on : Option Reader → List ℕ → Piece → PartTurn
piece_on inner all piece_end = Ok (last (no_parts, []))
piece_on inner all piece_byte = Ok (last (no_parts, []))
piece_on inner all (piece_reference quiet braced x rest) = steps_at inner (dots_out braced) braced (length all) rest >>= λ ss. Ok (more (printed (source quiet all ss.1) (named x) ss.0) ss.1)
piece_on inner all (piece_bad f) = Err f

abbrev pub part_on : List (List ℕ) → Option Reader → ℕ → List ℕ → PartTurn
part_on names inner zero bs = piece_on inner bs (piece_of names bs)
part_on names inner (suc n) bs = Ok (more (bytes (take (suc n) bs)) (drop (suc n) bs))

-- all text at the front, or else what stands there
abbrev pub part_turn : List (List ℕ) → Option Reader → List ℕ → PartTurn
part_turn names inner bs = part_on names inner (run_len names bs) bs

-- the parts of a string's inside
abbrev pub parts_of : List (List ℕ) → Option Reader → List ℕ → Read Parts
parts_of names inner bs = gather (first part) (part_turn names inner) (length bs + 1) bs

-- a fault inside a string, behind which n bytes stand: what is open at its closing quote cannot go on there
abbrev pub moved : ℕ → Fault → Fault
moved n (fault.Unclosed at) = fault.BadExpression n
moved n (fault.BadDirective at) = fault.BadDirective (at + n)
moved n (fault.BadExpression at) = fault.BadExpression (at + n)
moved n (fault.UnsupportedMethod at) = fault.UnsupportedMethod (at + n)
moved n (fault.Escape at) = fault.Escape (at + n)
moved n (fault.ParamAssigned at) = fault.ParamAssigned (at + n)
moved n (fault.TooDeep at) = fault.TooDeep (at + n)

abbrev pub string_closed : List ℕ → Read Parts → Read Expr
string_closed rest (Ok ps) = Ok (joined ps.0, rest)
string_closed rest (Err f) = Err (moved (length rest + 1) f)

-- behind a `"`: the string goes to the next one; where there is none, the first fault up to the end comes first
abbrev pub double_quoted : List (List ℕ) → Option Reader → List ℕ → Read Expr
double_quoted names inner bs = elim (until_byte 34 bs) [ Some p ↦ string_closed p.1 (parts_of names inner p.0) | None ↦ within (length bs + 1) (parts_of names inner bs >>= λ ps. Err (fault.Unclosed 0)) ]

-- behind a `'`
abbrev pub single_quoted : List ℕ → Read Expr
single_quoted bs = elim (until_byte 39 bs) [ Some p ↦ Ok (string p.0, p.1) | None ↦ Err (fault.Unclosed (length bs + 1)) ]
