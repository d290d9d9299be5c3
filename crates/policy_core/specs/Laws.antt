-- What holds of the definitions, whatever the program does.
use Rattle.std.specs.Prelude.{◌≡◌, ◌↔◌, ℕ, Bool, true, List, None}
use Rattle.json_subset.specs.Tree.{Tree}
use Rattle.policy_core.specs.declared.policy.Decision.{Decision}
use Rattle.policy_core.specs.declared.policy.Policy.{Policy}
use Rattle.policy_core.specs.Decisions.{Decides, decision}
use Rattle.policy_core.specs.Forms.{IsReply}
use Rattle.policy_core.specs.Patterns.{Covers, covers}
use Rattle.policy_core.specs.Replies.{reply_fault}

-- the test of a pattern finds just the texts that it covers
abbrev pub TestsWhatIsCovered : Type 0
TestsWhatIsCovered = (same : ℕ → ℕ → Bool) (pattern text : List ℕ) → (covers same pattern text ≡ true) ↔ Covers same pattern text

-- a policy decides just what its first covering statements say
abbrev pub DecidesByTheFirst : Type 0
DecidesByTheFirst = (policy : Policy) (arn : List ℕ) (d : Decision) → (decision policy arn ≡ d) ↔ Decides policy arn d

-- a reply has no fault just where each of its values has its form
abbrev pub FaultsAreOfTheForm : Type 0
FaultsAreOfTheForm = (t : Tree) → (reply_fault t ≡ None) ↔ IsReply t
