-- What the top call leaves.
use Rattle.std.specs.Prelude.{◌≡◌, ◌⊎◌, ℕ, List, codes, ◌++◌, Option, IfSome}
use Rattle.std.specs.Io.KnownBytes.{Appends}
use Rattle.gw_base.specs.Outside.{Rose}
use Rattle.gw_base.specs.Whole.{AppendsFront}
use Rattle.gw_base.specs.declared.outside.WriteStop.{WriteStop}
use Rattle.gw_base.specs.declared.outside.WriteStop.TheVariants as write
use Rattle.play_script.specs.Play.{Output, SaysFront}
use Rattle.play_script.specs.Printed.{line_feed}
use Rattle.play_script.specs.declared.stops.PlayStop.{PlayStop}
use Rattle.play_script.specs.declared.stops.PlayStop.TheVariants as play
use Rattle.book_rules.specs.declared.events.Limits.{Limits}
use Rattle.serve_command.specs.Serving.{KeeperFails, OutputFails, PortFails}
use Rattle.serve_command.specs.Shelves.{Shelves}
use Rattle.gateway_cli.specs.declared.stopped.Stopped.{Stopped}
use Rattle.gateway_cli.specs.declared.stopped.Stopped.TheVariants as stopped

-- It holds of some value: of the one that the outside tells, as the bytes that were left to read, where it tells one.
abbrev pub OfTold : {A : Type 0} → Option A → (A → Type 0) → Type 0
OfTold {A} outside P = (x : A) × IfSome outside (λ told. x ≡ told) × P x

-- the whole output was written, and its status answered
abbrev pub Answered : Option (List ℕ) → Option (List ℕ) → Output → ℕ → Type 0
Answered old new output status = (status ≡ output.status) × Appends old new output.text

-- such an output was written whole, and its status answered
abbrev pub Says : Option (List ℕ) → Option (List ℕ) → (Output → Type 0) → ℕ → Type 0
Says old new IsOutput status = (output : Output) × IsOutput output × Answered old new output status

-- such a front was written, and then a front of the line that names a fault
abbrev pub SaysFault : Option (List ℕ) → Option (List ℕ) → (List ℕ → Type 0) → List ℕ → Type 0
SaysFault old new Front name = (mid : Option (List ℕ)) × SaysFront old mid Front × AppendsFront mid new (codes "fault " ++ name ++ line_feed)

-- a count of faults, before a call and after it
pub record Count : Type 0 where
  pub before : ℕ
  pub now : ℕ

-- such a front was written, and then a front of the line that names a count that rose
abbrev pub Names : Option (List ℕ) → Option (List ℕ) → (List ℕ → Type 0) → Count → List ℕ → Type 0
Names old new Front count name = Rose count.before count.now × SaysFault old new Front name

-- a count stands as before
abbrev pub Stands : Count → Type 0
Stands count = count.now ≡ count.before

-- The line names the first cause, in the order in which they come: the count of the input or that of the files rose, and the counts
-- before it stand; the load of a play's keeper was told to fail, and nothing came before it; or the count of the output rose, and neither
-- did.
abbrev pub Faulted : Option (List ℕ) → Option (List ℕ) → (List ℕ → Type 0) → Count → Count → Count → Type 0 → Type 0
Faulted old new Front input files output load =
    Names old new Front input (codes "input")
    ⊎ ((Stands input × Names old new Front files (codes "file"))
    ⊎ ((Stands input × Stands files × (load → ⊥) × Names old new Front output (codes "output"))
    ⊎ (Stands input × Stands files × load × SaysFault old new Front (codes "keeper"))))

-- Why serving ended with status 3, and what was written: the keeper could not be had or did not load, or a next session did not start over
-- it; a look failed, of which a count of the outside tells; or a write failed, of which the count of the output tells. Behind what was written before stands a front of the line
-- that names it.
abbrev pub ServeFaulted : Limits → List ℕ → ℕ → Shelves → Shelves → Count → Option (List ℕ) → Option (List ℕ) → Type 0
ServeFaulted limits name lanes old new output written now =
    ((mid : Option (List ℕ)) × KeeperFails limits name lanes old new written mid × AppendsFront mid now (codes "fault keeper\n"))
    ⊎ (((mid : Option (List ℕ)) × PortFails limits name lanes old new written mid × AppendsFront mid now (codes "fault port\n"))
    ⊎ ((mid : Option (List ℕ)) × Rose output.before output.now × OutputFails limits name lanes old new written mid × AppendsFront mid now (codes "fault output\n")))

-- why the program stops where a write was refused
abbrev pub stopped_by : WriteStop → Stopped
stopped_by write.Failed = stopped.Output
stopped_by write.Memory = stopped.Memory

-- why it stops where a play does
abbrev pub play_stopped_by : PlayStop → Stopped
play_stopped_by play.Keeper = stopped.Keeper
play_stopped_by play.Output = stopped.Output
play_stopped_by play.Memory = stopped.Memory
