-- References and chains, as they are evaluated.
use Rattle.std.specs.Prelude.{ℕ, List, [], ◌∷◌, ◌++◌, Result, Ok, Err}
use Rattle.vtl_grammar.specs.Tree.{Expr, Base, Steps}
use Rattle.vtl_words.specs.Views.{op_of}
use Rattle.vtl_reader.specs.declared.nodes.Link.{Link}
use Rattle.vtl_values.specs.Val.{Val}
use Rattle.vtl_values.specs.Printed.{printed}
use Rattle.vtl_eval.specs.Roots.{Meanings}
use Rattle.vtl_eval.specs.World.{Scene, State, Outcome, ◌>>=◌, spend, there}
use Rattle.vtl_eval.specs.declared.stop.Limit.{Limit}
use Rattle.vtl_eval.specs.References.{Reached, ended}
use Rattle.vtl_eval.specs.Meaning.{value, started, walked, operated}

-- a reference from what its name begins with
abbrev pub referred_on : ℕ → Meanings → Reached → Steps → State → Outcome Val
referred_on b m r ss s = do
  q ← walked b m ss r s
  ended m q.0 q.1

-- a reference
abbrev pub referred : ℕ → Meanings → Base → Steps → State → Outcome Val
referred b m x ss s = do
  r ← started b m x s
  referred_on b m r.0 ss r.1

abbrev pub further : Result Scene Limit → (Scene → Result Scene Limit) → Result Scene Limit
further (Ok s) f = f s
further (Err l) f = Err l

-- a node for each further operand
abbrev pub charge : ℕ → List Link → Scene → Result Scene Limit
charge b [] s = Ok s
charge b (l ∷ ls) s = further (spend b s) (charge b ls)

-- further operands, each behind the value so far
abbrev pub linked : ℕ → Meanings → (ℕ → Expr) → List Link → Val → State → Outcome Val
linked b m f [] v s = Ok (v, s)
linked b m f (l ∷ ls) v s = do
  r ← operated (op_of l.operator) v (value b m (f l.operand)) s
  linked b m f ls r.0 r.1

-- a chain of operators of one rank: all its nodes are entered before its first operand
abbrev pub chain : ℕ → Meanings → (ℕ → Expr) → Expr → List Link → State → Outcome Val
chain b m f x ls s = do
  u ← there (charge b ls s.0) s.1
  v ← value b m x u.1
  linked b m f ls v.0 v.1

-- printed one after another
abbrev pub all_printed : List Val → List ℕ
all_printed [] = []
all_printed (v ∷ vs) = printed v ++ all_printed vs
