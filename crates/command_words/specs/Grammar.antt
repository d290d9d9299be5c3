-- The table of commands, as `clap` knows it: a command with a subcommand for each row.
use Rattle.std.specs.Prelude.{true, List, [], ◌∷◌, codes, map}
use Rattle.std.specs.Borrow.{Bor}
use Rattle.clap.specs.Words.{App, Rule, Shape, Text, new_app, new_rule, with_rule, with_subcommand}
use Rattle.clap.specs.Simple.{new_shape}

-- an argument that has to be there
abbrev pub argument : Text → Rule
argument name = record (new_rule name) { required = true }

abbrev pub with_arguments : App → List Text → App
with_arguments app [] = app
with_arguments app (name ∷ names) = with_arguments (with_rule app (argument name)) names

-- a row: a command's name and the names of its arguments
abbrev pub Line : Type 0
Line = Text × List Text

abbrev pub leaf : Line → Shape
leaf line = (with_arguments (new_app line.0) line.1).top

abbrev pub with_leaves : App → List Line → App
with_leaves app [] = app
with_leaves app (line ∷ lines) = with_leaves (with_subcommand app (leaf line)) lines

abbrev pub table : List Line
table =
    (codes "play", [])
    ∷ (codes "render", codes "TEMPLATE" ∷ codes "BODY" ∷ [])
    ∷ (codes "check", codes "FILE" ∷ [])
    ∷ (codes "serve", codes "STORE" ∷ codes "PORT" ∷ codes "LANES" ∷ [])
    ∷ (codes "admin", codes "STORE" ∷ [])
    ∷ (codes "load", codes "SEED" ∷ codes "CALLS" ∷ []) ∷ []

-- the words behind the program's name are read
abbrev pub program : App
program = record { top = record (new_shape (codes "gateway")) { no_binary_name = true }; subs = [] }

abbrev pub gateway : App
gateway = with_leaves program table

abbrev pub texts_of : List (Bor Text) → List Text
texts_of texts = map (λ (text : Bor Text). text.now) texts

abbrev pub line_of : Bor Text × Bor (List (Bor Text)) → Line
line_of row = (row.0.now, texts_of row.1.now)
