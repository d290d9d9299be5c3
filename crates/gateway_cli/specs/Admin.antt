-- What the command `admin` comes to, by the lines that stand on the input.
use Rattle.std.specs.Prelude.{◌≡◌, ◌⊎◌, ℕ, nat_lt, Bool, true, false, List, length, codes, Option}
use Rattle.gw_base.specs.Outside.{Rose}
use Rattle.gw_base.specs.Whole.{AppendsFront}
use Rattle.script_records.specs.Coding.{lines_of}
use Rattle.play_script.specs.Play.{script_limit, session_limits, too_long}
use Rattle.serve_command.specs.Serving.{NotHeld}
use Rattle.serve_command.specs.Shelves.{Shelves}
use Rattle.admin_command.specs.Ends.{AdminEnds, IsCutShort}
use Rattle.gateway_cli.specs.Top.{Answered, Count, OfTold, Stands}

-- lines that are together longer than a script may be are refused, and the outside stays as it was
abbrev pub EndsBy : Bool → List ℕ → List ℕ → Shelves → Shelves → Option (List ℕ) → Option (List ℕ) → ℕ → Type 0
EndsBy true store lines old new written now status = (new ≡ old) × Answered written now too_long status
EndsBy false store lines old new written now status = AdminEnds session_limits store (lines_of lines) old new written now status

-- what `admin` over the store of this name ends with
unfoldable pub Administered : List ℕ → List ℕ → Shelves → Shelves → Option (List ℕ) → Option (List ℕ) → ℕ → Type 0
Administered store lines old new written now status = EndsBy (nat_lt script_limit (length lines)) store lines old new written now status

abbrev pub CutBy : Bool → List ℕ → List ℕ → Shelves → Shelves → Option (List ℕ) → Option (List ℕ) → Type 0
CutBy true store lines old new written now = (new ≡ old) × AppendsFront written now too_long.text
CutBy false store lines old new written now = IsCutShort session_limits store (lines_of lines) old new written now

-- it was cut short
unfoldable pub AdminCut : List ℕ → List ℕ → Shelves → Shelves → Option (List ℕ) → Option (List ℕ) → Type 0
AdminCut store lines old new written now = CutBy (nat_lt script_limit (length lines)) store lines old new written now

-- memory was wanting: the same, or nothing was carried out and nothing written
abbrev pub AdminWantsMemory : List ℕ → List ℕ → Shelves → Shelves → Option (List ℕ) → Option (List ℕ) → Type 0
AdminWantsMemory store lines old new written now = AdminCut store lines old new written now ⊎ (NotHeld old new × (now ≡ written))

-- Why it ended with status 3, and what was written: a read of the input failed, and nothing was carried out; the keeper could not be had
-- or did not load, and nothing was; or a write failed. Each by a count that rose, and behind what was written before stands a front of
-- the line that names it.
abbrev pub AdminFaulted : List ℕ → Option (List ℕ) → Shelves → Shelves → Count → Count → Option (List ℕ) → Option (List ℕ) → Type 0
AdminFaulted store told old new input output written now =
    (Rose input.before input.now × NotHeld old new × AppendsFront written now (codes "fault input\n"))
    ⊎ ((Stands input × Rose old.faults new.faults × NotHeld old new × AppendsFront written now (codes "fault keeper\n"))
    ⊎ (Stands input × Rose output.before output.now
    × OfTold told (λ lines. (mid : Option (List ℕ)) × AdminCut store lines old new written mid × AppendsFront mid now (codes "fault output\n"))))
