-- References, from their names to their values (User Guide, "References": variables, properties, methods).
use Rattle.std.specs.Prelude.{ℕ, suc, ◌+◌, pos, nat_lt, List, [], ◌∷◌, ◌++◌, map, codes, bytes_eq, if◌then◌else◌, Option, Some, None, Ok}
use Rattle.vtl_values.specs.Val.{Val, null, boolean, whole, string_bytes}
use Rattle.vtl_values.specs.Parts.{member_of, item_at}
use Rattle.vtl_methods.specs.Methods.{method_of, method_texts}
use Rattle.vtl_eval.specs.Roots.{Meanings, Stepped, name, place, method}
use Rattle.vtl_eval.specs.World.{State, Outcome, ◌>>=◌, counted}
use Rattle.vtl_eval.specs.declared.run.Turn.{Turn}
use Rattle.vtl_eval.specs.declared.roots.Root.{Root}
use Rattle.vtl_eval.specs.declared.roots.Root.TheVariants.{Input, Context, Util, StageVariables}

-- how far a reference is: at a value, at a root, at names below $context, or at the loop
pub data Reached : Type 0 where
  at_value : Val → Reached
  at_root : Root → Reached
  at_context : List (List ℕ) → Reached
  at_loop : Reached

-- what a name begins with: a root, the loop, or a variable
abbrev pub begun : List ℕ → (List ℕ → Val) → Reached
begun x names =
    if bytes_eq x (codes "context") then at_context []
    else if bytes_eq x (codes "input") then at_root Input
    else if bytes_eq x (codes "util") then at_root Util
    else if bytes_eq x (codes "stageVariables") then at_root StageVariables
    else if bytes_eq x (codes "foreach") then at_loop
    else at_value (names x)

-- `$foreach.count`, `$foreach.index` and `$foreach.hasNext`
abbrev pub in_turn : List ℕ → Turn → Val
in_turn x t =
    if bytes_eq x (codes "count") then whole (pos (suc t.before))
    else if bytes_eq x (codes "index") then whole (pos t.before)
    else if bytes_eq x (codes "hasNext") then boolean (nat_lt (suc t.before) t.all)
    else null

abbrev pub turn_value : List ℕ → Option Turn → Val
turn_value x None = null
turn_value x (Some t) = in_turn x t

-- what a root gives is a text made, with all strings in it
abbrev pub asked : Meanings → Root → List Stepped → State → Outcome Reached
asked m r path s = counted (string_bytes (m.value r path)) s >>= λ u. Ok (at_value (m.value r path), u.1)

abbrev pub at_path : Meanings → List (List ℕ) → State → Outcome Reached
at_path m [] s = Ok (at_value null, s)
at_path m (x ∷ xs) s = asked m Context (map name (x ∷ xs)) s

-- names below $context gather until another step or the end
abbrev pub settled : Meanings → Reached → State → Outcome Reached
settled m (at_value v) s = Ok (at_value v, s)
settled m (at_root r) s = Ok (at_root r, s)
settled m (at_context xs) s = at_path m xs s
settled m at_loop s = Ok (at_loop, s)

-- `.name`
abbrev pub after_name : Meanings → List ℕ → Reached → State → Outcome Reached
after_name m x (at_value v) s = Ok (at_value (member_of x v), s)
after_name m x (at_root r) s = asked m r (name x ∷ []) s
after_name m x (at_context xs) s = Ok (at_context (xs ++ x ∷ []), s)
after_name m x at_loop s = Ok (at_value (turn_value x s.0.turn), s)

-- `[index]`
abbrev pub after_index : Meanings → Reached → Val → State → Outcome Reached
after_index m (at_value v) i s = Ok (at_value (item_at i v), s)
after_index m (at_root r) i s = asked m r (place i ∷ []) s
after_index m (at_context xs) i s = Ok (at_value null, s)
after_index m at_loop i s = Ok (at_value null, s)

-- `.name(arguments)`
abbrev pub after_call : Meanings → List ℕ → Reached → List Val → State → Outcome Reached
after_call m x (at_value v) vs s = counted (method_texts x v vs + string_bytes (method_of x v vs)) s >>= λ u. Ok (at_value (method_of x v vs), u.1)
after_call m x (at_root r) vs s = asked m r (method x vs ∷ []) s
after_call m x (at_context xs) vs s = Ok (at_value null, s)
after_call m x at_loop vs s = Ok (at_value null, s)

-- the value at the end of a reference
abbrev pub value_at : Reached → Val
value_at (at_value v) = v
value_at (at_root r) = null
value_at (at_context xs) = null
value_at at_loop = null

abbrev pub ended : Meanings → Reached → State → Outcome Val
ended m r s = settled m r s >>= λ q. Ok (value_at q.0, q.1)
