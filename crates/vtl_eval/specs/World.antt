-- The state of a render, its cost and its limits.
use Rattle.std.specs.Prelude.{ℕ, ◌+◌, nat_lt, nat_le, List, [], ◌++◌, length, if◌then◌else◌, bytes_eq, Option, None, Result, Ok, Err}
use Rattle.vtl_values.specs.Val.{Val, null}
use Rattle.vtl_eval.specs.Roots.{Kept}
use Rattle.vtl_eval.specs.declared.run.Turn.{Turn}
use Rattle.vtl_eval.specs.declared.stop.Limit.{Limit}
use Rattle.vtl_eval.specs.declared.stop.Limit.TheVariants.{Steps, Bytes}

-- the text so far, the variables, the innermost loop's turn, the nodes that were evaluated, and the bytes of all texts made
pub record Scene : Type 0 where
  pub text : List ℕ
  pub names : List ℕ → Val
  pub turn : Option Turn
  pub nodes : ℕ
  pub made : ℕ

-- and what was written below $context
abbrev pub State : Type 0
State = Scene × Kept

-- what is computed, and the state; or the limit that was met, and what was written before
abbrev pub Outcome : Type 0 → Type 0
Outcome A = Result (A × State) (Limit × Kept)

infixl 10 ◌>>=◌
abbrev pub ◌>>=◌ : {A B : Type 0} → Outcome A → (A × State → Outcome B) → Outcome B
(Ok x) >>= f = f x
(Err e) >>= f = Err e

-- no variable is set
abbrev pub unset : List ℕ → Val
unset x = null

abbrev pub begin : Scene
begin = record { text = []; names = unset; turn = None; nodes = 0; made = 0 }

-- the most bytes of the text, and of all texts made
unfoldable pub most_output : ℕ
most_output = 10485760

unfoldable pub most_made : ℕ
most_made = 67108864

-- a change of the scene, in a state
abbrev pub there : Result Scene Limit → Kept → Outcome (Unit {0})
there (Ok scene) kept = Ok (tt, (scene, kept))
there (Err limit) kept = Err (limit, kept)

-- one node more, within the budget
abbrev pub spend : ℕ → Scene → Result Scene Limit
spend budget s = if nat_lt s.nodes budget then Ok (record s { nodes = s.nodes + 1 }) else Err Steps

abbrev pub spent : ℕ → State → Outcome (Unit {0})
spent budget s = there (spend budget s.0) s.1

-- so many bytes of texts more
abbrev pub make : ℕ → Scene → Result Scene Limit
make n s = if nat_le (s.made + n) most_made then Ok (record s { made = s.made + n }) else Err Bytes

abbrev pub counted : ℕ → State → Outcome (Unit {0})
counted n s = there (make n s.0) s.1

-- more of the text, which is a text made
abbrev pub write : List ℕ → Scene → Result Scene Limit
write more s =
    if nat_le (length s.text + length more) most_output then make (length more) (record s { text = s.text ++ more })
    else Err Bytes

abbrev pub written : List ℕ → State → Outcome (Unit {0})
written more s = there (write more s.0) s.1

-- one variable is set, the others stay
abbrev pub put : (List ℕ → Val) → List ℕ → Val → List ℕ → Val
put names x v y = if bytes_eq x y then v else names y

abbrev pub named : List ℕ → Val → Scene → Scene
named x v s = record s { names = put s.names x v }
