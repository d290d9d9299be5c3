-- What holds of calls that are passed over.
use Rattle.std.specs.Prelude.{◌≡◌, ℕ, true, List, Ok}
use Rattle.vtl_grammar.specs.Tree.{Exprs}
use Rattle.vtl_grammar.specs.Calls.{Macros}
use Rattle.vtl_grammar.specs.Expanded.{called}
use Rattle.vtl_eval.specs.Roots.{Meanings}
use Rattle.vtl_eval.specs.World.{State}
use Rattle.vtl_eval.specs.Meaning.{run}
use Rattle.vtl_eval.specs.Idle.{idle_call}
use Rattle.vtl_eval.specs.declared.stop.Ended.TheVariants.{Ran}

-- what stands for a call that does nothing runs to its end and leaves all as it was
abbrev pub PassingOverChangesNothing : Type 0
PassingOverChangesNothing = (ms : Macros) (n : ℕ) (x : List ℕ) → idle_call ms n x ≡ true → (es : Exprs) (budget : ℕ) (m : Meanings) (s : State) → run budget m (called ms n x es) s ≡ Ok (Ran, s)
