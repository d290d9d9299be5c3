-- What a template renders to, what it costs, and where it stops.
use Rattle.std.specs.Prelude.{ℕ, suc, Bool, true, false, not, List, [], ◌∷◌, ◌++◌, length, if◌then◌else◌, Option, Some, None, Result, Ok, Err}
use Rattle.vtl_grammar.specs.Tree as tree
use Rattle.vtl_grammar.specs.Tree.{Operator, or_, and_, equal, unequal, less, greater, at_most, at_least, plus, minus, times, divided, remainder, Expr, Base, Step, Steps, Exprs, Pairs, Part, Parts, Target, Item, Items, Branches}
use Rattle.vtl_values.specs.Val.{Val, boolean, whole, text, string_bytes}
use Rattle.vtl_values.specs.Truth.{is_null, is_true}
use Rattle.vtl_values.specs.Printed.{printed}
use Rattle.vtl_values.specs.Operations as values
use Rattle.vtl_values.specs.Operations.{added, are_equal, compared}
use Rattle.vtl_values.specs.Parts.{loop_items}
use Rattle.vtl_values.specs.Making.{listed, mapped, ranged}
use Rattle.vtl_values.specs.Within.{Made}
use Rattle.vtl_eval.specs.Roots.{Meanings, Kept, kept_after}
use Rattle.vtl_eval.specs.World.{Scene, State, Outcome, ◌>>=◌, begin, spent, counted, written, put, named}
use Rattle.vtl_eval.specs.References.{Reached, at_value, begun, settled, after_name, after_index, after_call, ended}
use Rattle.vtl_eval.specs.declared.run.Turn.{Turn}
use Rattle.vtl_eval.specs.declared.stop.Limit.{Limit}
use Rattle.vtl_eval.specs.declared.stop.Limit.TheVariants.{Depth}
use Rattle.vtl_eval.specs.declared.stop.Limit.TheVariants as limits
use Rattle.vtl_eval.specs.declared.stop.Stop.{Stop}
use Rattle.vtl_eval.specs.declared.stop.Stop.TheVariants as stops
use Rattle.vtl_eval.specs.declared.stop.Ended.{Ended}
use Rattle.vtl_eval.specs.declared.stop.Ended.TheVariants.{Ran, Broke, Stopped}
use Rattle.vtl_eval.specs.declared.stop.Rendered.{Rendered}

-- what the first operand settles alone
abbrev pub settled_by : Operator → Val → Option Bool
settled_by or_ a = if is_true a then Some true else None
settled_by and_ a = if is_true a then None else Some false
settled_by equal a = None
settled_by unequal a = None
settled_by less a = None
settled_by greater a = None
settled_by at_most a = None
settled_by at_least a = None
settled_by plus a = None
settled_by minus a = None
settled_by times a = None
settled_by divided a = None
settled_by remainder a = None

-- an operator on both operands: the value, and the bytes of the texts that were made for it
abbrev pub computed : Operator → Val → Val → Made
computed or_ a b = (boolean (is_true b), 0)
computed and_ a b = (boolean (is_true b), 0)
computed equal a b = (boolean (are_equal a b), compared a b)
computed unequal a b = (boolean (not (are_equal a b)), compared a b)
computed less a b = (values.less a b, 0)
computed greater a b = (values.greater a b, 0)
computed at_most a b = (values.at_most a b, 0)
computed at_least a b = (values.at_least a b, 0)
computed plus a b = (added a b, string_bytes (added a b))
computed minus a b = (values.subtracted a b, 0)
computed times a b = (values.multiplied a b, 0)
computed divided a b = (values.divided a b, 0)
computed remainder a b = (values.remaining a b, 0)

abbrev pub noted : Made → State → Outcome Val
noted m s = counted m.1 s >>= λ u. Ok (m.0, u.1)

abbrev pub operated_on : Option Bool → Operator → Val → (State → Outcome Val) → State → Outcome Val
operated_on (Some t) o a second s = Ok (boolean t, s)
operated_on None o a second s = second s >>= λ r. noted (computed o a r.0) r.1

-- an operator behind its first operand; the second is evaluated where the first settles nothing
abbrev pub operated : Operator → Val → (State → Outcome Val) → State → Outcome Val
operated o a second s = operated_on (settled_by o a) o a second s

-- what a reference prints: its own source where its value is null
abbrev pub shown : List ℕ → Val → List ℕ
shown source v = if is_null v then source else printed v

-- expressions: each node costs one step when it is entered, before its operands

abbrev mutual
  pub value : ℕ → Meanings → Expr → State → Outcome Val
  value b m (tree.reference x ss) s = do
    u ← spent b s
    r ← started b m x u.1
    q ← walked b m ss r.0 r.1
    ended m q.0 q.1
  value b m (tree.whole n) s = do
    u ← spent b s
    Ok (whole n, u.1)
  value b m (tree.string t) s = do
    u ← spent b s
    v ← counted (length t) u.1
    Ok (text t, v.1)
  value b m (tree.joined ps) s = do
    u ← spent b s
    t ← pieces b m ps u.1
    v ← counted (length t.0) t.1
    Ok (text t.0, v.1)
  value b m (tree.boolean t) s = do
    u ← spent b s
    Ok (boolean t, u.1)
  value b m (tree.listed es) s = do
    u ← spent b s
    vs ← values_of b m es u.1
    Ok (listed vs.0, vs.1)
  value b m (tree.range x y) s = do
    u ← spent b s
    p ← value b m x u.1
    q ← value b m y p.1
    Ok (ranged p.0 q.0, q.1)
  value b m (tree.mapped ps) s = do
    u ← spent b s
    vs ← pairs_of b m ps u.1
    Ok (mapped vs.0, vs.1)
  value b m (tree.binary o x y) s = do
    u ← spent b s
    p ← value b m x u.1
    operated o p.0 (value b m y) p.1
  value b m (tree.negated e) s = do
    u ← spent b s
    p ← value b m e u.1
    Ok (boolean (not (is_true p.0)), p.1)

  -- what a reference begins with; a parameter's argument is an expression
  pub started : ℕ → Meanings → Base → State → Outcome Reached
  started b m (tree.named x) s = Ok (begun x s.0.names, s)
  started b m (tree.given e) s = do
    v ← value b m e s
    Ok (at_value v.0, v.1)

  pub walked : ℕ → Meanings → Steps → Reached → State → Outcome Reached
  walked b m tree.no_steps r s = Ok (r, s)
  walked b m (tree.step x xs) r s = do
    q ← stepped b m x r s
    walked b m xs q.0 q.1

  pub stepped : ℕ → Meanings → Step → Reached → State → Outcome Reached
  stepped b m (tree.member x) r s = after_name m x r s
  stepped b m (tree.call x es) r s = do
    q ← settled m r s
    vs ← values_of b m es q.1
    after_call m x q.0 vs.0 vs.1
  stepped b m (tree.index e) r s = do
    q ← settled m r s
    i ← value b m e q.1
    after_index m q.0 i.0 i.1

  pub values_of : ℕ → Meanings → Exprs → State → Outcome (List Val)
  values_of b m tree.no_exprs s = Ok ([], s)
  values_of b m (tree.expr e es) s = do
    v ← value b m e s
    vs ← values_of b m es v.1
    Ok (v.0 ∷ vs.0, vs.1)

  pub pairs_of : ℕ → Meanings → Pairs → State → Outcome (List (Val × Val))
  pairs_of b m tree.no_pairs s = Ok ([], s)
  pairs_of b m (tree.pair k e ps) s = do
    x ← value b m k s
    v ← value b m e x.1
    vs ← pairs_of b m ps v.1
    Ok ((x.0, v.0) ∷ vs.0, vs.1)

  -- the text of a double-quoted string; each reference in it costs one step
  pub piece : ℕ → Meanings → Part → State → Outcome (List ℕ)
  piece b m (tree.bytes t) s = Ok (t, s)
  piece b m (tree.printed source x ss) s = do
    u ← spent b s
    r ← started b m x u.1
    q ← walked b m ss r.0 r.1
    v ← ended m q.0 q.1
    Ok (shown source v.0, v.1)

  pub pieces : ℕ → Meanings → Parts → State → Outcome (List ℕ)
  pieces b m tree.no_parts s = Ok ([], s)
  pieces b m (tree.part p ps) s = do
    t ← piece b m p s
    ts ← pieces b m ps t.1
    Ok (t.0 ++ ts.0, ts.1)

-- a `#set`: with null it changes nothing, and below $context only what may be written
abbrev pub set_to : Meanings → Target → Val → State → State
set_to m (tree.variable x) v s = (named x v s.0, s.1)
set_to m (tree.context xs) v s = (s.0, kept_after (m.kept_at xs) s.1 v)

abbrev pub assigned : Meanings → Target → Val → State → State
assigned m t v s = if is_null v then s else set_to m t v s

-- the next part, where the first ran to its end
abbrev pub after : Outcome Ended → (State → Outcome Ended) → Outcome Ended
after (Err e) next = Err e
after (Ok (Ran, s)) next = next s
after (Ok (Broke, s)) next = Ok (Broke, s)
after (Ok (Stopped, s)) next = Ok (Stopped, s)

-- a turn begins: the loop variable has its value
abbrev pub turned : List ℕ → ℕ → ℕ → Val → Scene → Scene
turned x n all v s = record s { names = put s.names x v; turn = Some (record { before = n; all = all }) }

-- a turn for each value, up to the first that breaks or stops
abbrev pub turns : List ℕ → (State → Outcome Ended) → ℕ → ℕ → List Val → State → Outcome Ended
turns x body n all [] s = Ok (Ran, s)
turns x body n all (v ∷ vs) s = after (body (turned x n all v s.0, s.1)) (turns x body (suc n) all vs)

-- behind a loop its variable and the loop's turn are as before it
abbrev pub restored : List ℕ → Val → Option Turn → Scene → Scene
restored x v t s = record s { names = put s.names x v; turn = t }

abbrev pub left : List ℕ → Scene → Scene → Scene
left x old s = restored x (old.names x) old.turn s

-- a `#break` ends the loop alone
abbrev pub over : Ended → Ended
over Ran = Ran
over Broke = Ran
over Stopped = Stopped

abbrev mutual
  pub meaning : ℕ → Meanings → Item → State → Outcome Ended
  meaning b m (tree.text t) s = do
    u ← spent b s
    w ← written t u.1
    Ok (Ran, w.1)
  meaning b m tree.comment s = Ok (Ran, s)
  meaning b m (tree.output source x ss) s = do
    u ← spent b s
    r ← started b m x u.1
    q ← walked b m ss r.0 r.1
    v ← ended m q.0 q.1
    w ← written (shown source v.0) v.1
    Ok (Ran, w.1)
  meaning b m (tree.set t e) s = do
    u ← spent b s
    v ← value b m e u.1
    Ok (Ran, assigned m t v.0 v.1)
  meaning b m (tree.choose bs) s = do
    u ← spent b s
    chosen b m bs u.1
  meaning b m (tree.foreach x e body) s = do
    u ← spent b s
    v ← value b m e u.1
    r ← turns x (run b m body) 0 (length (loop_items v.0)) (loop_items v.0) v.1
    Ok (over r.0, (left x v.1.0 r.1.0, r.1.1))
  meaning b m tree.break_ s = do
    u ← spent b s
    Ok (Broke, u.1)
  meaning b m tree.stop s = do
    u ← spent b s
    Ok (Stopped, u.1)
  -- definitions do nothing; neither they nor calls stand in an expanded tree
  meaning b m (tree.define x ps is) s = Ok (Ran, s)
  meaning b m (tree.macro_call at x es) s = Ok (Ran, s)
  meaning b m tree.deep s = Err (Depth, s.1)

  pub run : ℕ → Meanings → Items → State → Outcome Ended
  run b m tree.no_items s = Ok (Ran, s)
  run b m (tree.item i is) s = after (meaning b m i s) (run b m is)

  -- the first branch whose condition is true
  pub chosen : ℕ → Meanings → Branches → State → Outcome Ended
  chosen b m (tree.otherwise is) s = run b m is s
  chosen b m (tree.branch e is bs) s = do
    v ← value b m e s
    (if is_true v.0 then run b m is else chosen b m bs) v.1

abbrev pub stop_of : Limit → Stop
stop_of limits.Steps = stops.Steps
stop_of limits.Bytes = stops.Bytes
stop_of limits.Depth = stops.Depth

-- the text and its cost, and what was written; or the limit that was met, and what was written before
abbrev pub finished : Outcome Ended → Result (Rendered × Kept) (Stop × Kept)
finished (Ok r) = Ok (record { text = r.1.0.text; steps = r.1.0.nodes }, r.1.1)
finished (Err e) = Err (stop_of e.0, e.1)

-- what items render to over these roots, where this was written before
unfoldable pub rendering : ℕ → Meanings → Items → Kept → Result (Rendered × Kept) (Stop × Kept)
rendering budget m is kept = finished (run budget m is (begin, kept))
