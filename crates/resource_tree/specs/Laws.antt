-- What holds of paths, of their faults, and of the best.
use Rattle.std.specs.Prelude.{◌≡◌, ◌↔◌, ℕ, ◌<◌, true, false, List, [], length, map, Some, slice_index_or}
use Rattle.resource_tree.specs.declared.part.Part.{Part}
use Rattle.resource_tree.specs.declared.fault.TreeFault.{TreeFault}
use Rattle.resource_tree.specs.declared.fault.TreeFault.TheVariants.{BadPart, Clash, GreedyNotLast}
use Rattle.resource_tree.specs.Faults.{fault_at, HasNoFault, IsFirstFault}
use Rattle.resource_tree.specs.Matching.{matches, params, ranks, path_at, IsBest, Takes}
use Rattle.resource_tree.specs.Reading.{parts_of}
use Rattle.resource_tree.specs.Sharing.{clashes, AreClashing, greedy_last}
use Rattle.resource_tree.specs.Spelling.{IsSpelled}

-- a path is read as just the parts that it is written with
abbrev pub ReadsAsSpelled : Type 0
ReadsAsSpelled = (path : List ℕ) (parts : List Part) → (parts_of path ≡ Some parts) ↔ IsSpelled path parts

-- the test of two paths finds just those that clash
abbrev pub FindsEachClash : Type 0
FindsEachClash = (first second : List Part) → (clashes first second ≡ true) ↔ AreClashing first second

-- a path with no `{name+}` before its last part matches just the segments that its parts take, with just these parameters
abbrev pub MatchesAsTaken : Type 0
MatchesAsTaken = (parts : List Part) (segments : List (List ℕ)) (found : List (List ℕ × List ℕ)) → greedy_last parts ≡ true → ((matches parts segments ≡ true) × (params parts segments ≡ found)) ↔ Takes parts segments found

-- the path at this place of a list
abbrev pub text_at : List (List ℕ) → ℕ → List ℕ
text_at texts at = slice_index_or texts at []

-- it is written with no parts
abbrev pub IsNoPath : List ℕ → Type 0
IsNoPath text = (parts : List Part) → ¬ IsSpelled text parts

-- it is written with parts of which a `{name+}` is not the last
pub record IsGreedyEarly (text : List ℕ) : Type 0 where
  pub parts : List Part
  pub spelled : IsSpelled text parts
  pub early : greedy_last parts ≡ false

-- it is written with parts that are in place, and clash with those of one before it
pub record ClashesWithEarlier (texts : List (List ℕ)) (at : ℕ) : Type 0 where
  pub parts : List Part
  pub spelled : IsSpelled (text_at texts at) parts
  pub last : greedy_last parts ≡ true
  pub earlier : ℕ
  pub before : earlier < at
  pub others : List Part
  pub written : IsSpelled (text_at texts earlier) others
  pub clash : AreClashing others parts

-- what each fault of a path means
abbrev pub TellsEachCause : Type 0
TellsEachCause = (texts : List (List ℕ)) (at : ℕ) → at < length texts
    → ((fault_at texts at ≡ Some (BadPart at)) ↔ IsNoPath (text_at texts at)) × ((fault_at texts at ≡ Some (GreedyNotLast at)) ↔ IsGreedyEarly (text_at texts at)) × ((fault_at texts at ≡ Some (Clash at)) ↔ ClashesWithEarlier texts at)

-- a list has one first fault at most, and none where no path has one
abbrev pub HasOneFirstFault : Type 0
HasOneFirstFault = (texts : List (List ℕ)) (fault : TreeFault) → IsFirstFault texts fault → (HasNoFault texts → ⊥) × ((other : TreeFault) → IsFirstFault texts other → fault ≡ other)

-- two paths of a list with no fault never have the same ranks for the same segments
abbrev pub DifferInRanks : Type 0
DifferInRanks = (texts : List (List ℕ)) (paths : List (List Part)) (segments : List (List ℕ)) (first second : ℕ) → HasNoFault texts → map (λ parts. Some parts) paths ≡ map parts_of texts
    → first < length paths → second < length paths → matches (path_at paths first) segments ≡ true → matches (path_at paths second) segments ≡ true → ranks (path_at paths first) ≡ ranks (path_at paths second) → first ≡ second

-- so that one of them is best
abbrev pub HasOneBest : Type 0
HasOneBest = (texts : List (List ℕ)) (paths : List (List Part)) (segments : List (List ℕ)) (first second : ℕ) → HasNoFault texts → map (λ parts. Some parts) paths ≡ map parts_of texts
    → IsBest paths segments first → IsBest paths segments second → first ≡ second
