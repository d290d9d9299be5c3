-- What serving all sessions comes to.
use Rattle.std.specs.Prelude.{◌≡◌, ℕ, true, false, List, [], ◌∷◌, ◌++◌, ⊤, Option, None}
use Rattle.std.specs.Io.KnownBytes.{Appends}
use Rattle.book_core.specs.Starts.{IsNamed}
use Rattle.book_core.specs.declared.start.StartFault.{StartFault}
use Rattle.book_core.specs.declared.start.StartFault.TheVariants as start
use Rattle.book_rules.specs.History.{Base}
use Rattle.book_rules.specs.declared.events.Entry.{Entry}
use Rattle.book_rules.specs.declared.events.Limits.{Limits}
use Rattle.gate_walk.specs.declared.ended.LaneEnd.{LaneEnd}
use Rattle.gw_base.specs.Outside.{Rose}
use Rattle.gw_base.specs.Whole.{AppendsFront}
use Rattle.keeper_core.specs.Keeping.{KeeperFacts}
use Rattle.outside_core.specs.Told.{LaneTold}
use Rattle.session_chain.specs.Chains.{Chain, HeldSession, lines_of}
use Rattle.session_chain.specs.Ends.{has_next}
use Rattle.session_chain.specs.declared.fault.AllFault.{AllFault}
use Rattle.session_chain.specs.declared.fault.AllFault.TheVariants as all

-- the lanes, as they tell before and behind; the histories that were handed on; and what was written
pub record Around : Type 0 where
  pub lent : List LaneTold
  pub back : List LaneTold
  pub archived : Option (List (List Entry))
  pub archive : Option (List (List Entry))
  pub written : Option (List ℕ)
  pub now : Option (List ℕ)

-- The last session has no next one: its lanes ended so, and the line of each session was written.
abbrev pub HasEnded : Limits → Base → Around → KeeperFacts → List LaneEnd → Type 0
HasEnded limits base a keeper ends =
    (full : List HeldSession) × (last : HeldSession) × Chain limits base a.lent a.back a.archived a.archive full last
    × (last.keeper ≡ keeper) × (last.ends ≡ ends) × (has_next last.ends last.history ≡ false) × Appends a.written a.now (lines_of (full ++ last ∷ []))

-- Why a next book did not start, and what the keeper shows that is handed back: a row is bad only of tables that the keeper does not tell,
-- since those of a history are good.
abbrev pub NextFails : KeeperFacts → StartFault → KeeperFacts → Type 0
NextFails before (start.BadStore table row) now = (before.tables ≡ None) × IsNamed None before table row now
NextFails before start.StoreFault now = Rose before.loads now.loads
NextFails before start.Memory now = ⊤

-- The last session has a next one, whose start was refused; the keeper has the tables that it had behind the last.
abbrev pub IsRefused : Limits → Base → Around → KeeperFacts → StartFault → Type 0
IsRefused limits base a keeper fault =
    (full : List HeldSession) × (last : HeldSession) × Chain limits base a.lent a.back a.archived a.archive full last
    × NextFails last.keeper fault keeper × (keeper.tables ≡ last.keeper.tables) × (has_next last.ends last.history ≡ true) × Appends a.written a.now (lines_of (full ++ last ∷ []))

-- The line of the last session was not written whole.
abbrev pub WasCut : Limits → Base → Around → KeeperFacts → Type 0
WasCut limits base a keeper =
    (full : List HeldSession) × (last : HeldSession) × Chain limits base a.lent a.back a.archived a.archive full last
    × (last.keeper ≡ keeper) × AppendsFront a.written a.now (lines_of (full ++ last ∷ []))

-- this holds of why the next session was refused
abbrev pub IfRefused : AllFault → (StartFault → Type 0) → Type 0
IfRefused (all.Start fault) Holds = Holds fault
IfRefused all.Output Holds = ⊤
IfRefused all.Memory Holds = ⊤
