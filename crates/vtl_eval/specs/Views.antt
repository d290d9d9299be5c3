-- What the program's values say.
use Rattle.std.specs.Prelude.{◌≡◌, ℕ, ◌+◌, List, [], ◌∷◌, bytes_eq, if◌then◌else◌, Result, Ok, Err}
use Rattle.std.specs.String.{string_bytes}
use Rattle.vtl_values.specs.Val.{Val, null}
use Rattle.vtl_eval.specs.Roots.{Stepped, name, place, method, Kept}
use Rattle.vtl_eval.specs.World.{Scene, State, Outcome}
use Rattle.vtl_eval.specs.Cuts.{IsCut}
use Rattle.vtl_eval.specs.References.{Reached, at_value, at_root, at_context, at_loop}
use Rattle.vtl_eval.specs.declared.roots.Step.{Step}
use Rattle.vtl_eval.specs.declared.roots.Step.TheVariants as steps
use Rattle.vtl_eval.specs.declared.run.Run.{Run}
use Rattle.vtl_eval.specs.declared.reached.Reached as code
use Rattle.vtl_eval.specs.declared.reached.Reached.TheVariants as reached
use Rattle.vtl_eval.specs.declared.stop.Ended.{Ended}
use Rattle.vtl_eval.specs.declared.stop.Limit.{Limit}
use Rattle.vtl_eval.specs.declared.stop.Fail.{Fail}
use Rattle.vtl_eval.specs.declared.stop.Fail.TheVariants as fails

-- a step, with the trees of its values
abbrev pub stepped_of : Step → Stepped
stepped_of (steps.Name x) = name x
stepped_of (steps.Index v) = place v
stepped_of (steps.Call x vs) = method x (vs.items)

abbrev pub names_of : List (List ℕ × Val) → List ℕ → Val
names_of [] x = null
names_of (e ∷ es) x = if bytes_eq e.0 x then e.1 else names_of es x

-- the place of a name, or the length
abbrev pub place_of : List (List ℕ × Val) → List ℕ → ℕ
place_of [] x = 0
place_of (e ∷ es) x = if bytes_eq e.0 x then 0 else place_of es x + 1

abbrev pub scene_of : Run → Scene
scene_of r = record { text = string_bytes r.text; names = names_of r.names.items; turn = r.turn; nodes = r.nodes; made = r.made }

abbrev pub reached_of : code.Reached → Reached
reached_of (reached.Value v) = at_value v
reached_of (reached.Root r) = at_root r
reached_of (reached.Context xs) = at_context xs.items
reached_of reached.Loop = at_loop

-- A failed call met this limit, unless memory ran out.
abbrev pub Fails : {A : Type 0} → Fail → Kept → Outcome A → Type 0
Fails fails.Memory kept o = Unit {0}
Fails (fails.Met l) kept o = o ≡ Err (l, kept)

-- What a call returned, seen by view, and the state that it left are what o says, unless memory ran out.
abbrev pub Gives : {X A : Type 0} → (X → A) → Result X Fail → Scene → Kept → Outcome A → Type 0
Gives view (Ok x) s kept o = o ≡ Ok (view x, (s, kept))
Gives view (Err e) s kept o = Fails e kept o

abbrev pub Misses : Fail → Result Scene Limit → Type 0
Misses fails.Memory o = Unit {0}
Misses (fails.Met l) o = o ≡ Err l

-- The scene that a call left is what o says, unless memory ran out.
abbrev pub Does : {X : Type 0} → Result X Fail → Scene → Result Scene Limit → Type 0
Does (Ok x) s o = o ≡ Ok s
Does (Err e) s o = Misses e o

-- Where memory ran out, what was written is what a smaller budget leaves.
abbrev pub Lacks : Fail → ℕ → State → (ℕ → Outcome Ended) → Kept → Type 0
Lacks fails.Memory b s f kept = IsCut b s f kept
Lacks (fails.Met l) b s f kept = Unit {0}

-- the same of a call
abbrev pub Cuts : Result Ended Fail → ℕ → State → (ℕ → Outcome Ended) → Kept → Type 0
Cuts (Ok x) b s f kept = Unit {0}
Cuts (Err e) b s f kept = Lacks e b s f kept
