-- What is done on the connections of one lane.
use Rattle.std.specs.Prelude.{◌≡◌, ℕ, Bool, true, false, List, [], ◌∷◌, ◌++◌, flat_map, Option, Some, None, ⊤}
use Rattle.gate_ports.specs.Facts.{ComingFacts, ServedFacts, ConnTold, IsComing, IsServed}
use Rattle.gate_walk.specs.Acts.{Act, tell_closing}
use Rattle.gate_walk.specs.Stories.{Story, Tells, acts_of}
use Rattle.gate_walk.specs.declared.ended.Ended.{Ended}
use Rattle.gate_walk.specs.declared.ended.Ended.TheVariants.{SessionFull, Memory}
use Rattle.gate_walk.specs.declared.ended.LaneEnd.{LaneEnd}
use Rattle.gate_walk.specs.declared.ended.LaneEnd.TheVariants as lane

-- one connection of a lane: what it told when it was lent and when it was given back, how it ended, and its story
pub record Visit : Type 0 where
  pub before : ConnTold
  pub after : ConnTold
  pub ended : Ended
  pub story : Story

abbrev pub acts_of_all : List Visit → List Act
acts_of_all visits = flat_map (λ (v : Visit). acts_of v.story) visits

-- each of them is told so, with these fixed readings
abbrev pub AreTold : Option ℕ → Option ℕ → List Visit → Type 0
AreTold moment word [] = ⊤
AreTold moment word (v ∷ vs) = Tells moment word v.before v.after v.ended v.story × AreTold moment word vs

-- these facts are those of the connections, when they were lent and when they were given back
abbrev pub AreComing : List ComingFacts → List Visit → Type 0
AreComing [] [] = ⊤
AreComing (f ∷ fs) (v ∷ vs) = IsComing f v.before × AreComing fs vs
AreComing [] (v ∷ vs) = ⊥
AreComing (f ∷ fs) [] = ⊥

abbrev pub AreServed : List ServedFacts → List Visit → Type 0
AreServed [] [] = ⊤
AreServed (f ∷ fs) (v ∷ vs) = IsServed f v.after × AreServed fs vs
AreServed [] (v ∷ vs) = ⊥
AreServed (f ∷ fs) [] = ⊥

-- where it is told what was to come, they were the first of it, and the others are to come now
abbrev pub WereLent : Option (List ComingFacts) → Option (List ComingFacts) → List Visit → Type 0
WereLent None new visits = new ≡ None
WereLent (Some coming) new visits = (lent : List ComingFacts) × (rest : List ComingFacts) × (coming ≡ lent ++ rest) × (new ≡ Some rest) × AreComing lent visits

-- where it is told what was given back, they are the last of it
abbrev pub WereGivenBack : Option (List ServedFacts) → Option (List ServedFacts) → List Visit → Type 0
WereGivenBack None new visits = new ≡ None
WereGivenBack (Some served) new visits = (back : List ServedFacts) × (new ≡ Some (served ++ back)) × AreServed back visits

-- behind a connection that ended so, the lane serves another one
abbrev pub goes_on_behind : Ended → Bool
goes_on_behind (SessionFull entries bytes) = false
goes_on_behind Memory = false
goes_on_behind ended = true

abbrev pub GoOn : List Visit → Type 0
GoOn [] = ⊤
GoOn (v ∷ vs) = (goes_on_behind v.ended ≡ true) × GoOn vs

-- the last one ended so, and the lane had gone on behind each before it
abbrev pub EndsAtLast : Ended → List Visit → Type 0
EndsAtLast ended visits = (front : List Visit) × (last : Visit) × (visits ≡ front ++ last ∷ []) × (last.ended ≡ ended) × GoOn front

-- How the lane ended: for itself only where no Leave was replied that the session is closing; closing where one was; or at a connection
-- that the session's limits, or want of memory, ended.
abbrev pub LaneEnds : LaneEnd → List Visit → Type 0
LaneEnds lane.Ended visits = GoOn visits × (tell_closing (acts_of_all visits) ≡ false)
LaneEnds lane.Closing visits = GoOn visits × (tell_closing (acts_of_all visits) ≡ true)
LaneEnds lane.PortFault visits = GoOn visits × (tell_closing (acts_of_all visits) ≡ false)
LaneEnds (lane.Full entries bytes) visits = EndsAtLast (SessionFull entries bytes) visits
LaneEnds lane.Memory visits = EndsAtLast Memory visits
