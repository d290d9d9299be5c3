-- What is computed within a budget is computed within each smaller one that reaches as far.
use Rattle.std.proofs.Common.{◌≡◌, ℕ, ◌+◌, ◌<◌, ◌≤◌, Bool, true, false, List, [], ◌∷◌, ◌++◌, length, Option, Some, None, Ok, Err, refl, sym, ap, ◌∙◌, arith, if◌then◌else◌}
use Rattle.std.specs.Prelude.{nat_lt, nat_le}
use Rattle.std.proofs.lemmas.Bool.{ltb-true, lt-ltb}
use Rattle.vtl_grammar.specs.Tree as tree
use Rattle.vtl_grammar.specs.Tree.{Operator, Expr, Base, Step, Steps, Exprs, Pairs, Part, Parts, Target, Item, Items, Branches}
use Rattle.vtl_values.specs.Val.{Val, text}
use Rattle.vtl_values.specs.Within.{Made}
use Rattle.vtl_eval.specs.Roots.{Meanings, Kept, Stepped}
use Rattle.vtl_eval.specs.World.{Scene, State, Outcome, ◌>>=◌, there, spent, make, counted, written, most_made, most_output}
use Rattle.vtl_eval.specs.References.{Reached, at_value, at_root, at_context, at_loop, asked, at_path, settled, after_name, after_index, after_call, ended}
use Rattle.vtl_eval.specs.Meaning.{settled_by, computed, noted, operated_on, operated, shown, value, started, walked, stepped, values_of, pairs_of, piece, pieces}
use Rattle.vtl_eval.specs.declared.roots.Root.{Root}
use Rattle.vtl_eval.specs.declared.stop.Limit.TheVariants as limits

abbrev pub nodes_in : {A : Type 0} → Outcome A → ℕ
nodes_in (Ok r) = r.1.0.nodes
nodes_in (Err e) = 0

-- what is computed within b is computed within all that reaches as far
pub record Stays (A : Type 0) (s : State) (o : ℕ → Outcome A) (b : ℕ) (x : A) (t : State) : Type 0 where
  pub grows : s.0.nodes ≤ t.0.nodes
  pub upto : s.0.nodes ≤ b → t.0.nodes ≤ b
  pub again : (n : ℕ) → t.0.nodes ≤ n → o n ≡ Ok (x, t)

abbrev pub Calm : (A : Type 0) → State → (ℕ → Outcome A) → Type 0
Calm A s o = (b : ℕ) (x : A) (t : State) → o b ≡ Ok (x, t) → Stays A s o b x t

bind_go : (A B : Type 0) (s : State) (o : ℕ → Outcome A) (g : ℕ → A × State → Outcome B) → Calm A s o → ((y : A) (u : State) → Calm B u (λ b. g b (y, u))) → (b : ℕ) (x : B) (t : State) (r : Outcome A) → o b ≡ r → (r >>= g b) ≡ Ok (x, t) → Stays B s (λ n. o n >>= g n) b x t
bind_go A B s o g co cg b x t (Err l) h e = absurd cc
bind_go A B s o g co cg b x t (Ok (y, u)) h e =
    let p = co b y u h in
    let q = cg y u b x t e in
    record {
      grows = omega (arith, p.grows, q.grows);
      upto = λ k. q.upto (p.upto k);
      again = λ n k. ap (λ z. z >>= g n) (p.again n (omega (arith, k, q.grows))) ∙ q.again n k;
    }

pub bind_calm : (A B : Type 0) (s : State) (o : ℕ → Outcome A) (g : ℕ → A × State → Outcome B) → Calm A s o → ((y : A) (u : State) → Calm B u (λ b. g b (y, u))) → Calm B s (λ b. o b >>= g b)
bind_calm A B s o g co cg b x t e = bind_go A B s o g co cg b x t (o b) refl e

-- what asks for no budget and charges no node
pub still_calm : (A : Type 0) (s : State) (o : Outcome A) → ((x : A) (t : State) → o ≡ Ok (x, t) → t.0.nodes ≡ s.0.nodes) → Calm A s (λ b. o)
still_calm A s o same b x t e = record {
  grows = omega (arith, same x t e);
  upto = λ h. omega (arith, same x t e, h);
  again = λ n k. e;
}

pub pure_calm : (A : Type 0) (y : A) (s : State) → Calm A s (λ b. Ok (y, s))
pure_calm A y s = still_calm A s (Ok (y, s)) (λ x t e. sym (ap nodes_in e))

spent_go : (s : State) (b : ℕ) (x : Unit {0}) (t : State) (c : Bool) → nat_lt s.0.nodes b ≡ c → there (if c then Ok (record s.0 { nodes = s.0.nodes + 1 }) else Err limits.Steps) s.1 ≡ Ok (x, t) → Stays (Unit {0}) s (λ n. spent n s) b x t
spent_go s b x t false h e = absurd cc
spent_go s b x t true h e =
    let one : s.0.nodes + 1 ≡ t.0.nodes = ap nodes_in e in
    let less : s.0.nodes < b = ltb-true s.0.nodes b h in
    record {
      grows = omega (arith, one);
      upto = λ k. omega (arith, one, less);
      again = λ n k. ap (λ c. there (if c then Ok (record s.0 { nodes = s.0.nodes + 1 }) else Err limits.Steps) s.1) (lt-ltb s.0.nodes n (omega (arith, one, k))) ∙ e;
    }

pub spent_calm : (s : State) → Calm (Unit {0}) s (λ b. spent b s)
spent_calm s b x t e = spent_go s b x t (nat_lt s.0.nodes b) refl e

made_same : (c : Bool) (n : ℕ) (s : Scene) (kept : Kept) (x : Unit {0}) (t : State) → there (if c then Ok (record s { made = s.made + n }) else Err limits.Bytes) kept ≡ Ok (x, t) → t.0.nodes ≡ s.nodes
made_same true n s kept x t e = sym (ap nodes_in e)
made_same false n s kept x t e = absurd cc

counted_same : (n : ℕ) (s : State) (x : Unit {0}) (t : State) → counted n s ≡ Ok (x, t) → t.0.nodes ≡ s.0.nodes
counted_same n s x t e = made_same (nat_le (s.0.made + n) most_made) n s.0 s.1 x t e

pub counted_calm : (n : ℕ) (s : State) → Calm (Unit {0}) s (λ b. counted n s)
counted_calm n s = still_calm (Unit {0}) s (counted n s) (counted_same n s)

grown_same : (c : Bool) (more grown : List ℕ) (s : State) (x : Unit {0}) (t : State) → there (if c then make (length more) (record s.0 { text = grown }) else Err limits.Bytes) s.1 ≡ Ok (x, t) → t.0.nodes ≡ s.0.nodes
grown_same true more grown s x t e = made_same (nat_le (s.0.made + length more) most_made) (length more) (record s.0 { text = grown }) s.1 x t e
grown_same false more grown s x t e = absurd cc

pub written_calm : (more : List ℕ) (s : State) → Calm (Unit {0}) s (λ b. written more s)
written_calm more s = still_calm (Unit {0}) s (written more s) (λ x t e. grown_same (nat_le (length s.0.text + length more) most_output) more (s.0.text ++ more) s x t e)

-- references

asked_calm : (m : Meanings) (r : Root) (path : List Stepped) (s : State) → Calm Reached s (λ b. asked m r path s)
asked_calm m r path s = bind_calm (Unit {0}) Reached s _ _ (counted_calm _ s) (λ y u. pure_calm Reached (at_value (m.value r path)) u)

path_calm : (m : Meanings) (xs : List (List ℕ)) (s : State) → Calm Reached s (λ b. at_path m xs s)
path_calm m [] s = pure_calm Reached _ s
path_calm m (x ∷ xs) s = asked_calm m _ _ s

settled_calm : (m : Meanings) (r : Reached) (s : State) → Calm Reached s (λ b. settled m r s)
settled_calm m (at_value v) s = pure_calm Reached _ s
settled_calm m (at_root r) s = pure_calm Reached _ s
settled_calm m (at_context xs) s = path_calm m xs s
settled_calm m at_loop s = pure_calm Reached _ s

name_calm : (m : Meanings) (x : List ℕ) (r : Reached) (s : State) → Calm Reached s (λ b. after_name m x r s)
name_calm m x (at_value v) s = pure_calm Reached _ s
name_calm m x (at_root r) s = asked_calm m _ _ s
name_calm m x (at_context xs) s = pure_calm Reached _ s
name_calm m x at_loop s = pure_calm Reached _ s

index_calm : (m : Meanings) (r : Reached) (i : Val) (s : State) → Calm Reached s (λ b. after_index m r i s)
index_calm m (at_value v) i s = pure_calm Reached _ s
index_calm m (at_root r) i s = asked_calm m _ _ s
index_calm m (at_context xs) i s = pure_calm Reached _ s
index_calm m at_loop i s = pure_calm Reached _ s

call_calm : (m : Meanings) (x : List ℕ) (r : Reached) (vs : List Val) (s : State) → Calm Reached s (λ b. after_call m x r vs s)
call_calm m x (at_value v) vs s = bind_calm (Unit {0}) Reached s _ _ (counted_calm _ s) (λ y u. pure_calm Reached _ u)
call_calm m x (at_root r) vs s = asked_calm m _ _ s
call_calm m x (at_context xs) vs s = pure_calm Reached _ s
call_calm m x at_loop vs s = pure_calm Reached _ s

pub ended_calm : (m : Meanings) (r : Reached) (s : State) → Calm Val s (λ b. ended m r s)
ended_calm m r s = bind_calm Reached Val s _ _ (settled_calm m r s) (λ y u. pure_calm Val _ u)

-- expressions

noted_calm : (m : Made) (s : State) → Calm Val s (λ b. noted m s)
noted_calm m s = bind_calm (Unit {0}) Val s _ _ (counted_calm _ s) (λ y u. pure_calm Val _ u)

operated_calm : (p : Option Bool) (o : Operator) (a : Val) (second : ℕ → State → Outcome Val) → ((s : State) → Calm Val s (λ b. second b s)) → (s : State) → Calm Val s (λ b. operated_on p o a (second b) s)
operated_calm (Some t) o a second c s = pure_calm Val _ s
operated_calm None o a second c s = bind_calm Val Val s (λ b. second b s) (λ b r. noted (computed o a r.0) r.1) (c s) (λ y u. noted_calm _ u)

mutual
  pub value_calm : (m : Meanings) (e : Expr) (s : State) → Calm Val s (λ b. value b m e s)
  value_calm m (tree.reference x ss) s =
      bind_calm (Unit {0}) Val s (λ b. spent b s) (λ b u. started b m x u.1 >>= λ r. (walked b m ss r.0 r.1 >>= λ q. ended m q.0 q.1)) (spent_calm s)
      (λ _ u. bind_calm Reached Val u (λ b. started b m x u) (λ b r. walked b m ss r.0 r.1 >>= λ q. ended m q.0 q.1) (started_calm m x u)
      (λ r v. bind_calm Reached Val v (λ b. walked b m ss r v) (λ b q. ended m q.0 q.1) (walked_calm m ss r v) (λ q w. ended_calm m q w)))
  value_calm m (tree.whole n) s = bind_calm (Unit {0}) Val s (λ b. spent b s) (λ b u. Ok (_, u.1)) (spent_calm s) (λ _ u. pure_calm Val _ u)
  value_calm m (tree.string t) s =
      bind_calm (Unit {0}) Val s (λ b. spent b s) (λ b u. counted (length t) u.1 >>= λ v. Ok (text t, v.1)) (spent_calm s)
      (λ _ u. bind_calm (Unit {0}) Val u (λ b. counted (length t) u) (λ b v. Ok (text t, v.1)) (counted_calm _ u) (λ _ v. pure_calm Val _ v))
  value_calm m (tree.joined ps) s =
      bind_calm (Unit {0}) Val s (λ b. spent b s) (λ b u. pieces b m ps u.1 >>= λ t. (counted (length t.0) t.1 >>= λ v. Ok (text t.0, v.1))) (spent_calm s)
      (λ _ u. bind_calm (List ℕ) Val u (λ b. pieces b m ps u) (λ b t. counted (length t.0) t.1 >>= λ v. Ok (text t.0, v.1)) (pieces_calm m ps u)
      (λ t w. bind_calm (Unit {0}) Val w (λ b. counted (length t) w) (λ b v. Ok (text t, v.1)) (counted_calm _ w) (λ _ v. pure_calm Val _ v)))
  value_calm m (tree.boolean t) s = bind_calm (Unit {0}) Val s (λ b. spent b s) (λ b u. Ok (_, u.1)) (spent_calm s) (λ _ u. pure_calm Val _ u)
  value_calm m (tree.listed es) s =
      bind_calm (Unit {0}) Val s (λ b. spent b s) (λ b u. values_of b m es u.1 >>= λ vs. Ok (_, vs.1)) (spent_calm s)
      (λ _ u. bind_calm (List Val) Val u (λ b. values_of b m es u) (λ b vs. Ok (_, vs.1)) (values_calm m es u) (λ _ v. pure_calm Val _ v))
  value_calm m (tree.range x y) s =
      bind_calm (Unit {0}) Val s (λ b. spent b s) (λ b u. value b m x u.1 >>= λ p. (value b m y p.1 >>= λ q. Ok (_, q.1))) (spent_calm s)
      (λ _ u. bind_calm Val Val u (λ b. value b m x u) (λ b p. value b m y p.1 >>= λ q. Ok (_, q.1)) (value_calm m x u)
      (λ p w. bind_calm Val Val w (λ b. value b m y w) (λ b q. Ok (_, q.1)) (value_calm m y w) (λ _ v. pure_calm Val _ v)))
  value_calm m (tree.mapped ps) s =
      bind_calm (Unit {0}) Val s (λ b. spent b s) (λ b u. pairs_of b m ps u.1 >>= λ vs. Ok (_, vs.1)) (spent_calm s)
      (λ _ u. bind_calm (List (Val × Val)) Val u (λ b. pairs_of b m ps u) (λ b vs. Ok (_, vs.1)) (pairs_calm m ps u) (λ _ v. pure_calm Val _ v))
  value_calm m (tree.binary o x y) s =
      bind_calm (Unit {0}) Val s (λ b. spent b s) (λ b u. value b m x u.1 >>= λ p. operated o p.0 (value b m y) p.1) (spent_calm s)
      (λ _ u. bind_calm Val Val u (λ b. value b m x u) (λ b p. operated o p.0 (value b m y) p.1) (value_calm m x u)
      (λ p w. operated_calm (settled_by o p) o p (λ b. value b m y) (value_calm m y) w))
  value_calm m (tree.negated e) s =
      bind_calm (Unit {0}) Val s (λ b. spent b s) (λ b u. value b m e u.1 >>= λ p. Ok (_, p.1)) (spent_calm s)
      (λ _ u. bind_calm Val Val u (λ b. value b m e u) (λ b p. Ok (_, p.1)) (value_calm m e u) (λ _ v. pure_calm Val _ v))

  pub started_calm : (m : Meanings) (x : Base) (s : State) → Calm Reached s (λ b. started b m x s)
  started_calm m (tree.named x) s = pure_calm Reached _ s
  started_calm m (tree.given e) s = bind_calm Val Reached s (λ b. value b m e s) (λ b v. Ok (at_value v.0, v.1)) (value_calm m e s) (λ _ u. pure_calm Reached _ u)

  pub walked_calm : (m : Meanings) (ss : Steps) (r : Reached) (s : State) → Calm Reached s (λ b. walked b m ss r s)
  walked_calm m tree.no_steps r s = pure_calm Reached _ s
  walked_calm m (tree.step x xs) r s = bind_calm Reached Reached s (λ b. stepped b m x r s) (λ b q. walked b m xs q.0 q.1) (stepped_calm m x r s) (λ q u. walked_calm m xs q u)

  stepped_calm : (m : Meanings) (x : Step) (r : Reached) (s : State) → Calm Reached s (λ b. stepped b m x r s)
  stepped_calm m (tree.member x) r s = name_calm m x r s
  stepped_calm m (tree.call x es) r s =
      bind_calm Reached Reached s (λ b. settled m r s) (λ b q. values_of b m es q.1 >>= λ vs. after_call m x q.0 vs.0 vs.1) (settled_calm m r s)
      (λ q u. bind_calm (List Val) Reached u (λ b. values_of b m es u) (λ b vs. after_call m x q vs.0 vs.1) (values_calm m es u) (λ vs w. call_calm m x q vs w))
  stepped_calm m (tree.index e) r s =
      bind_calm Reached Reached s (λ b. settled m r s) (λ b q. value b m e q.1 >>= λ i. after_index m q.0 i.0 i.1) (settled_calm m r s)
      (λ q u. bind_calm Val Reached u (λ b. value b m e u) (λ b i. after_index m q i.0 i.1) (value_calm m e u) (λ i w. index_calm m q i w))

  values_calm : (m : Meanings) (es : Exprs) (s : State) → Calm (List Val) s (λ b. values_of b m es s)
  values_calm m tree.no_exprs s = pure_calm (List Val) _ s
  values_calm m (tree.expr e es) s =
      bind_calm Val (List Val) s (λ b. value b m e s) (λ b v. values_of b m es v.1 >>= λ vs. Ok (v.0 ∷ vs.0, vs.1)) (value_calm m e s)
      (λ v u. bind_calm (List Val) (List Val) u (λ b. values_of b m es u) (λ b vs. Ok (v ∷ vs.0, vs.1)) (values_calm m es u) (λ _ w. pure_calm (List Val) _ w))

  pairs_calm : (m : Meanings) (ps : Pairs) (s : State) → Calm (List (Val × Val)) s (λ b. pairs_of b m ps s)
  pairs_calm m tree.no_pairs s = pure_calm (List (Val × Val)) _ s
  pairs_calm m (tree.pair k e ps) s =
      bind_calm Val (List (Val × Val)) s (λ b. value b m k s) (λ b x. value b m e x.1 >>= λ v. (pairs_of b m ps v.1 >>= λ vs. Ok ((x.0, v.0) ∷ vs.0, vs.1))) (value_calm m k s)
      (λ x u. bind_calm Val (List (Val × Val)) u (λ b. value b m e u) (λ b v. pairs_of b m ps v.1 >>= λ vs. Ok ((x, v.0) ∷ vs.0, vs.1)) (value_calm m e u)
      (λ v w. bind_calm (List (Val × Val)) (List (Val × Val)) w (λ b. pairs_of b m ps w) (λ b vs. Ok ((x, v) ∷ vs.0, vs.1)) (pairs_calm m ps w) (λ _ z. pure_calm (List (Val × Val)) _ z)))

  piece_calm : (m : Meanings) (p : Part) (s : State) → Calm (List ℕ) s (λ b. piece b m p s)
  piece_calm m (tree.bytes t) s = pure_calm (List ℕ) _ s
  piece_calm m (tree.printed source x ss) s =
      bind_calm (Unit {0}) (List ℕ) s (λ b. spent b s) (λ b u. started b m x u.1 >>= λ r. (walked b m ss r.0 r.1 >>= λ q. (ended m q.0 q.1 >>= λ v. Ok (shown source v.0, v.1)))) (spent_calm s)
      (λ _ u. bind_calm Reached (List ℕ) u (λ b. started b m x u) (λ b r. walked b m ss r.0 r.1 >>= λ q. (ended m q.0 q.1 >>= λ v. Ok (shown source v.0, v.1))) (started_calm m x u)
      (λ r v. bind_calm Reached (List ℕ) v (λ b. walked b m ss r v) (λ b q. ended m q.0 q.1 >>= λ v. Ok (shown source v.0, v.1)) (walked_calm m ss r v)
      (λ q w. bind_calm Val (List ℕ) w (λ b. ended m q w) (λ b v. Ok (shown source v.0, v.1)) (ended_calm m q w) (λ _ z. pure_calm (List ℕ) _ z))))

  pieces_calm : (m : Meanings) (ps : Parts) (s : State) → Calm (List ℕ) s (λ b. pieces b m ps s)
  pieces_calm m tree.no_parts s = pure_calm (List ℕ) _ s
  pieces_calm m (tree.part p ps) s =
      bind_calm (List ℕ) (List ℕ) s (λ b. piece b m p s) (λ b t. pieces b m ps t.1 >>= λ ts. Ok (t.0 ++ ts.0, ts.1)) (piece_calm m p s)
      (λ t u. bind_calm (List ℕ) (List ℕ) u (λ b. pieces b m ps u) (λ b ts. Ok (t ++ ts.0, ts.1)) (pieces_calm m ps u) (λ _ w. pure_calm (List ℕ) _ w))
