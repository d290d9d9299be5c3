-- What a parse gives: a command's name, and its arguments by their names.
use Rattle.std.specs.Prelude.{ℕ, List, [], codes, Option, Some, None, if◌then◌else◌}
use Rattle.std.specs.Option.{option_and_then, option_map, option_zip, unwrap_or}
use Rattle.std.specs.Str.{bytes_eq}
use Rattle.clap.specs.Words.{Row, Text, first_of}
use Rattle.record_fields.specs.Numbers.{number_of}
use Rattle.command_words.specs.Commands.{asked_of, load_of, number_to, serve_of}
use Rattle.command_words.specs.declared.commands.Command.{Command}
use Rattle.command_words.specs.declared.commands.Command.TheVariants.{Play, Render, Check, Admin}

-- the word of this name
abbrev pub word_of : Text → List Row → List ℕ
word_of name rows = unwrap_or (first_of name rows) []

abbrev pub serve_by : List Row → Option Command
serve_by rows =
    option_map serve_of (asked_of (word_of (codes "STORE") rows) (number_to 65535 (word_of (codes "PORT") rows)) (number_to 8 (word_of (codes "LANES") rows)))

abbrev pub load_by : List Row → Option Command
load_by rows = option_map load_of (option_zip (number_of 64 (word_of (codes "SEED") rows)) (number_to 300000 (word_of (codes "CALLS") rows)))

-- the command of this name with these arguments
abbrev pub command_by : List ℕ → List Row → Option Command
command_by name rows =
    if bytes_eq name (codes "play") then Some Play
    else if bytes_eq name (codes "render") then Some (Render (word_of (codes "TEMPLATE") rows) (word_of (codes "BODY") rows))
    else if bytes_eq name (codes "check") then Some (Check (word_of (codes "FILE") rows))
    else if bytes_eq name (codes "serve") then serve_by rows
    else if bytes_eq name (codes "admin") then Some (Admin (word_of (codes "STORE") rows))
    else if bytes_eq name (codes "load") then load_by rows
    else None

-- the command that was read
abbrev pub read_in : Option (Text × List Row) → Option Command
read_in read = option_and_then (λ part. command_by part.0 part.1) read
