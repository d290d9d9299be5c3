-- What a render leaves that is cut short.
use Rattle.std.specs.Prelude.{◌≡◌, ℕ, ◌≤◌, Result, Ok, Err}
use Rattle.vtl_eval.specs.Roots.{Kept}
use Rattle.vtl_eval.specs.World.{State, Outcome}
use Rattle.vtl_eval.specs.declared.stop.Ended.{Ended}
use Rattle.vtl_eval.specs.declared.stop.Rendered.{Rendered}
use Rattle.vtl_eval.specs.declared.stop.Stop.{Stop}

-- what was written below $context, however a render ended
abbrev pub kept_in : Result (Rendered × Kept) (Stop × Kept) → Kept
kept_in (Ok r) = r.1
kept_in (Err e) = e.1

-- just this was written: up to a limit, or to the end with so many nodes at least
abbrev pub Leaves : ℕ → Kept → Outcome Ended → Type 0
Leaves n kept (Ok r) = (n ≤ r.1.0.nodes) × (r.1.1 ≡ kept)
Leaves n kept (Err e) = e.1 ≡ kept

-- a budget between the nodes so far and b that leaves just this
pub record IsCut (b : ℕ) (s : State) (f : ℕ → Outcome Ended) (kept : Kept) : Type 0 where
  pub at : ℕ
  pub from : s.0.nodes ≤ at
  pub upto : s.0.nodes ≤ b → at ≤ b
  pub leaves : Leaves at kept (f at)
