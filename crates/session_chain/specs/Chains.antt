-- Sessions that follow each other over the same lanes and the same keeper.
use Rattle.std.specs.Prelude.{◌≡◌, ℕ, true, List, [], ◌∷◌, ◌++◌, map, flat_map, Option, IfSome}
use Rattle.book_core.specs.Books.{Keeps}
use Rattle.book_core.specs.Starts.{HasStarted}
use Rattle.book_rules.specs.History.{Base, tables_after}
use Rattle.book_rules.specs.declared.events.Entry.{Entry}
use Rattle.book_rules.specs.declared.events.Limits.{Limits}
use Rattle.gate_session.specs.Line.{session_line}
use Rattle.gate_session.specs.Sessions.{Session}
use Rattle.gate_walk.specs.declared.ended.LaneEnd.{LaneEnd}
use Rattle.keeper_core.specs.Keeping.{KeeperFacts}
use Rattle.outside_core.specs.Lending.{gained_all}
use Rattle.outside_core.specs.Told.{LaneTold}
use Rattle.session_chain.specs.Ends.{has_next}

-- a session, behind it: what its book kept, what its lanes told before it and behind it, how they ended, its history, and what the
-- keeper tells
pub record HeldSession : Type 0 where
  pub base : Base
  pub before : List LaneTold
  pub now : List LaneTold
  pub ends : List LaneEnd
  pub history : List Entry
  pub keeper : KeeperFacts

-- each lane did what its connections ask for, in the one history, and the keeper has the tables of that history
pub record WasHeld (s : HeldSession) : Type 0 where
  pub session : Session s.base s.before s.now s.ends s.history
  pub keeps : Keeps s.base s.history s.keeper

-- The next book begins behind a history over this keeper: with these limits, with no entry, and with the tables that the history left,
-- where the keeper tells them.
pub record Begins (limits : Limits) (base : Base) (history : List Entry) (keeper : KeeperFacts) (next : Base) : Type 0 where
  pub started : HasStarted keeper limits next [] next.start
  pub opening : IfSome keeper.tables (λ lists. next.opening ≡ tables_after base.opening history)

-- Full sessions lead from the first book and the lanes as they were lent to another book, over the same lanes as the last of these
-- sessions left them: each has a next one, which begins behind it.
abbrev pub Lead : Limits → Base → List LaneTold → List HeldSession → Base → List LaneTold → Type 0
Lead limits base lanes [] next rest = (next ≡ base) × (rest ≡ lanes)
Lead limits base lanes (s ∷ more) next rest =
    (s.base ≡ base) × (s.before ≡ lanes) × WasHeld s × (has_next s.ends s.history ≡ true)
    × ((begun : Base) × Begins limits s.base s.history s.keeper begun × Lead limits begun s.now more next rest)

-- their histories and their lines, oldest first
abbrev pub histories_of : List HeldSession → List (List Entry)
histories_of sessions = map (λ (s : HeldSession). s.history) sessions

abbrev pub lines_of : List HeldSession → List ℕ
lines_of sessions = flat_map (λ (s : HeldSession). session_line s.base.opening s.history) sessions

-- A chain of sessions, with the last one:
pub record Chain (limits : Limits) (base : Base) (lent back : List LaneTold) (archived archive : Option (List (List Entry))) (full : List HeldSession) (last : HeldSession) : Type 0 where
  -- full ones lead to the last, which was held like them;
  pub lead : Lead limits base lent full last.base last.before
  pub held : WasHeld last
  -- the lanes are as it left them;
  pub left : back ≡ last.now
  -- and the history of each was handed on.
  pub handed_on : archive ≡ gained_all archived (histories_of (full ++ last ∷ []))
