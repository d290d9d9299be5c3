-- What the program prints of what its words ask for.
use Rattle.std.specs.Prelude.{◌≡◌, ℕ, Bool, true, false, ◌||◌, List, ◌++◌, codes, Option, Some, None}
use Rattle.std.specs.Option.{is_some}
use Rattle.command_words.specs.declared.commands.Command.{Command}
use Rattle.command_words.specs.declared.commands.Command.TheVariants.{Help, Version, Play, Render, Check, Serve, Admin, Load}
use Rattle.gateway_cli.specs.Check.{check_of}
use Rattle.load_command.specs.Loading.{LoadedFront, LoadedWithin}
use Rattle.outside_core.specs.Files.{Files}
use Rattle.play_script.specs.Play.{Output, Played, PlayedFront, FailsToLoad, IsFront, session_limits}
use Rattle.play_script.specs.Printed.{line_feed}
use Rattle.gateway_cli.specs.Render.{render_of}

-- a play is asked for
abbrev pub is_play : Option Command → Bool
is_play (Some Play) = true
is_play other = false

-- a command that serves nothing and administers nothing is asked for
abbrev pub is_plain : Option Command → Bool
is_plain (Some Help) = true
is_plain (Some Version) = true
is_plain (Some Play) = true
is_plain (Some (Render template body)) = true
is_plain (Some (Check name)) = true
is_plain (Some (Load seed calls)) = true
is_plain other = false

-- what is to be served: the store, the port and the number of lanes
abbrev pub served : Option Command → Option (List ℕ × ℕ × ℕ)
served (Some (Serve store port lanes)) = Some (store, port, lanes)
served other = None

-- the store that is to be administered
abbrev pub administered : Option Command → Option (List ℕ)
administered (Some (Admin store)) = Some store
administered other = None

-- a command that reads the input is asked for
abbrev pub reads_input : Option Command → Bool
reads_input command = is_play command || is_some (administered command)

-- what is printed where no command is asked for
abbrev pub usage : Output
usage = record { text = codes "usage" ++ line_feed; status = 2 }

-- what the program says of itself: its commands, and its version with that of a store
unfoldable pub help_text : List ℕ
help_text = codes "usage: gateway COMMAND\n  serve STORE PORT LANES    serves 127.0.0.1:PORT, over 1 to 8 lanes\n  admin STORE               carries out the commands on standard input\n  play                      plays the script on standard input\n  check FILE                tells whether a file is the definition of an API\n  render TEMPLATE BODY      prints what a template gives over a body\n  load SEED N               plays 1 to 300000 calls that a seed makes up, and prints their summary\n  help                      prints this\n  version                   prints the version of the program, and that of its stores\n"

unfoldable pub version_text : List ℕ
version_text = codes "gateway 0.3.0\nstore 1\n"

abbrev pub help : Output
help = record { text = help_text; status = 0 }

abbrev pub version : Output
version = record { text = version_text; status = 0 }

-- what is printed of these files where neither a play nor a load is asked for, and nothing is to be served or administered
abbrev pub over_files : Files → Option Command → Output
over_files files (Some (Render template body)) = render_of files template body
over_files files (Some (Check name)) = check_of files name
over_files files (Some Help) = help
over_files files (Some Version) = version
over_files files other = usage

-- what the program prints of this input and these files where this is asked for, and nothing is to be served or administered
unfoldable pub Outcome : Option Command → List ℕ → Files → Output → Type 0
Outcome (Some Play) input files output = Played input output
Outcome (Some (Load seed calls)) input files output = LoadedWithin session_limits seed calls output
Outcome other input files output = output ≡ over_files files other

-- and a front of it, where it is cut short
unfoldable pub OutcomeFront : Option Command → List ℕ → Files → List ℕ → Type 0
OutcomeFront (Some Play) input files front = PlayedFront input front
OutcomeFront (Some (Load seed calls)) input files front = LoadedFront session_limits seed calls front
OutcomeFront other input files front = IsFront front (over_files files other).text

-- a play is asked for, and the script tells the load of its keeper to fail
abbrev pub TellsLoadToFail : Option Command → List ℕ → Type 0
TellsLoadToFail command input = (is_play command ≡ true) × FailsToLoad input

-- The outcome is one thing, and a front is one of it.
abbrev pub HasOneOutcome : Type 0
HasOneOutcome = (command : Option Command) (input : List ℕ) (files : Files) (first second : Output) → Outcome command input files first → Outcome command input files second → first ≡ second

abbrev pub FrontsAreOfTheOutcome : Type 0
FrontsAreOfTheOutcome =
    (command : Option Command) (input : List ℕ) (files : Files) (output : Output) (front : List ℕ) → Outcome command input files output → OutcomeFront command input files front → IsFront front output.text
