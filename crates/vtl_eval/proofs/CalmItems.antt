-- The same of items.
use Rattle.std.proofs.Common.{◌≡◌, ℕ, suc, Bool, true, false, List, [], ◌∷◌, length, Ok, Err, refl, sym, ap, ◌∙◌, arith, if◌then◌else◌}
use Rattle.vtl_grammar.specs.Tree as tree
use Rattle.vtl_grammar.specs.Tree.{Target, Item, Items, Branches}
use Rattle.vtl_values.specs.Val.{Val}
use Rattle.vtl_values.specs.Truth.{is_null, is_true}
use Rattle.vtl_values.specs.Parts.{loop_items}
use Rattle.vtl_eval.specs.Roots.{Meanings}
use Rattle.vtl_eval.specs.World.{State, Outcome, ◌>>=◌, spent, written}
use Rattle.vtl_eval.specs.References.{Reached, ended}
use Rattle.vtl_eval.specs.Meaning.{shown, value, started, walked, assigned, set_to, after, turned, turns, left, over, meaning, run, chosen}
use Rattle.vtl_eval.specs.declared.stop.Ended.{Ended}
use Rattle.vtl_eval.specs.declared.stop.Ended.TheVariants.{Ran, Broke, Stopped}
use Rattle.vtl_eval.specs.declared.stop.Limit.TheVariants as limits
use Rattle.vtl_eval.proofs.Calm.{Calm, Stays, nodes_in, bind_calm, still_calm, pure_calm, spent_calm, written_calm, ended_calm, value_calm, started_calm, walked_calm}

after_go : (s : State) (o : ℕ → Outcome Ended) (g : ℕ → State → Outcome Ended) → Calm Ended s o → ((u : State) → Calm Ended u (λ b. g b u)) → (b : ℕ) (x : Ended) (t : State) (r : Outcome Ended) → o b ≡ r → after r (g b) ≡ Ok (x, t) → Stays Ended s (λ n. after (o n) (g n)) b x t
after_go s o g co cg b x t (Err l) h e = absurd cc
after_go s o g co cg b x t (Ok (Ran, u)) h e =
    let p = co b Ran u h in
    let q = cg u b x t e in
    record {
      grows = omega (arith, p.grows, q.grows);
      upto = λ k. q.upto (p.upto k);
      again = λ n k. ap (λ z. after z (g n)) (p.again n (omega (arith, k, q.grows))) ∙ q.again n k;
    }
after_go s o g co cg b x t (Ok (Broke, u)) h e =
    let p = co b Broke u h in
    let same : u.0.nodes ≡ t.0.nodes = ap nodes_in e in
    record {
      grows = omega (arith, p.grows, same);
      upto = λ k. omega (arith, p.upto k, same);
      again = λ n k. ap (λ z. after z (g n)) (p.again n (omega (arith, k, same))) ∙ e;
    }
after_go s o g co cg b x t (Ok (Stopped, u)) h e =
    let p = co b Stopped u h in
    let same : u.0.nodes ≡ t.0.nodes = ap nodes_in e in
    record {
      grows = omega (arith, p.grows, same);
      upto = λ k. omega (arith, p.upto k, same);
      again = λ n k. ap (λ z. after z (g n)) (p.again n (omega (arith, k, same))) ∙ e;
    }

pub after_calm : (s : State) (o : ℕ → Outcome Ended) (g : ℕ → State → Outcome Ended) → Calm Ended s o → ((u : State) → Calm Ended u (λ b. g b u)) → Calm Ended s (λ b. after (o b) (g b))
after_calm s o g co cg b x t e = after_go s o g co cg b x t (o b) refl e

-- from another state with as many nodes
pub restart_calm : (A : Type 0) (s u : State) (o : ℕ → Outcome A) → u.0.nodes ≡ s.0.nodes → Calm A u o → Calm A s o
restart_calm A s u o same c b x t e =
    let p = c b x t e in
    record { grows = omega (arith, p.grows, same); upto = λ k. p.upto (omega (arith, k, same)); again = p.again }

pub turns_calm : (x : List ℕ) (body : ℕ → State → Outcome Ended) → ((s : State) → Calm Ended s (λ b. body b s)) → (n all : ℕ) (vs : List Val) (s : State) → Calm Ended s (λ b. turns x (body b) n all vs s)
turns_calm x body c n all [] s = pure_calm Ended Ran s
turns_calm x body c n all (v ∷ vs) s =
    after_calm s (λ b. body b (turned x n all v s.0, s.1)) (λ b. turns x (body b) (suc n) all vs)
    (restart_calm Ended s (turned x n all v s.0, s.1) (λ b. body b (turned x n all v s.0, s.1)) refl (c (turned x n all v s.0, s.1)))
    (λ u. turns_calm x body c (suc n) all vs u)

set_nodes : (m : Meanings) (t : Target) (v : Val) (s : State) → (set_to m t v s).0.nodes ≡ s.0.nodes
set_nodes m (tree.variable x) v s = refl
set_nodes m (tree.context xs) v s = refl

assigned_nodes : (c : Bool) (m : Meanings) (t : Target) (v : Val) (s : State) → (if c then s else set_to m t v s).0.nodes ≡ s.0.nodes
assigned_nodes true m t v s = refl
assigned_nodes false m t v s = set_nodes m t v s

if_calm : (c : Bool) (s : State) (o p : ℕ → State → Outcome Ended) → Calm Ended s (λ b. o b s) → Calm Ended s (λ b. p b s) → Calm Ended s (λ b. (if c then o b else p b) s)
if_calm true s o p co cp = co
if_calm false s o p co cp = cp

mutual
  pub meaning_calm : (m : Meanings) (i : Item) (s : State) → Calm Ended s (λ b. meaning b m i s)
  meaning_calm m (tree.text t) s =
      bind_calm (Unit {0}) Ended s (λ b. spent b s) (λ b u. written t u.1 >>= λ w. Ok (Ran, w.1)) (spent_calm s)
      (λ _ u. bind_calm (Unit {0}) Ended u (λ b. written t u) (λ b w. Ok (Ran, w.1)) (written_calm t u) (λ _ w. pure_calm Ended Ran w))
  meaning_calm m tree.comment s = pure_calm Ended Ran s
  meaning_calm m (tree.output source x ss) s =
      bind_calm (Unit {0}) Ended s (λ b. spent b s) (λ b u. started b m x u.1 >>= λ r. (walked b m ss r.0 r.1 >>= λ q. (ended m q.0 q.1 >>= λ v. (written (shown source v.0) v.1 >>= λ w. Ok (Ran, w.1))))) (spent_calm s)
      (λ _ u. bind_calm Reached Ended u (λ b. started b m x u) (λ b r. walked b m ss r.0 r.1 >>= λ q. (ended m q.0 q.1 >>= λ v. (written (shown source v.0) v.1 >>= λ w. Ok (Ran, w.1)))) (started_calm m x u)
      (λ r z. bind_calm Reached Ended z (λ b. walked b m ss r z) (λ b q. ended m q.0 q.1 >>= λ v. (written (shown source v.0) v.1 >>= λ w. Ok (Ran, w.1))) (walked_calm m ss r z)
      (λ q y. bind_calm Val Ended y (λ b. ended m q y) (λ b v. written (shown source v.0) v.1 >>= λ w. Ok (Ran, w.1)) (ended_calm m q y)
      (λ v p. bind_calm (Unit {0}) Ended p (λ b. written (shown source v) p) (λ b w. Ok (Ran, w.1)) (written_calm (shown source v) p) (λ _ w. pure_calm Ended Ran w)))))
  meaning_calm m (tree.set t e) s =
      bind_calm (Unit {0}) Ended s (λ b. spent b s) (λ b u. value b m e u.1 >>= λ v. Ok (Ran, assigned m t v.0 v.1)) (spent_calm s)
      (λ _ u. bind_calm Val Ended u (λ b. value b m e u) (λ b v. Ok (Ran, assigned m t v.0 v.1)) (value_calm m e u)
      (λ v w. still_calm Ended w (Ok (Ran, assigned m t v w)) (λ x z h. sym (ap nodes_in h) ∙ assigned_nodes (is_null v) m t v w)))
  meaning_calm m (tree.choose bs) s =
      bind_calm (Unit {0}) Ended s (λ b. spent b s) (λ b u. chosen b m bs u.1) (spent_calm s) (λ _ u. chosen_calm m bs u)
  meaning_calm m (tree.foreach x e body) s =
      bind_calm (Unit {0}) Ended s (λ b. spent b s) (λ b u. value b m e u.1 >>= λ v. (turns x (run b m body) 0 (length (loop_items v.0)) (loop_items v.0) v.1 >>= λ r. Ok (over r.0, (left x v.1.0 r.1.0, r.1.1)))) (spent_calm s)
      (λ _ u. bind_calm Val Ended u (λ b. value b m e u) (λ b v. turns x (run b m body) 0 (length (loop_items v.0)) (loop_items v.0) v.1 >>= λ r. Ok (over r.0, (left x v.1.0 r.1.0, r.1.1))) (value_calm m e u)
      (λ v w. bind_calm Ended Ended w (λ b. turns x (run b m body) 0 (length (loop_items v)) (loop_items v) w) (λ b r. Ok (over r.0, (left x w.0 r.1.0, r.1.1))) (turns_calm x (λ b. run b m body) (run_calm m body) 0 (length (loop_items v)) (loop_items v) w)
      (λ r z. still_calm Ended z (Ok (over r, (left x w.0 z.0, z.1))) (λ y q h. sym (ap nodes_in h)))))
  meaning_calm m tree.break_ s = bind_calm (Unit {0}) Ended s (λ b. spent b s) (λ b u. Ok (Broke, u.1)) (spent_calm s) (λ _ u. pure_calm Ended Broke u)
  meaning_calm m tree.stop s = bind_calm (Unit {0}) Ended s (λ b. spent b s) (λ b u. Ok (Stopped, u.1)) (spent_calm s) (λ _ u. pure_calm Ended Stopped u)
  meaning_calm m (tree.define x ps is) s = pure_calm Ended Ran s
  meaning_calm m (tree.macro_call at x es) s = pure_calm Ended Ran s
  meaning_calm m tree.deep s = still_calm Ended s (Err (limits.Depth, s.1)) (λ x t h. absurd cc)

  pub run_calm : (m : Meanings) (is : Items) (s : State) → Calm Ended s (λ b. run b m is s)
  run_calm m tree.no_items s = pure_calm Ended Ran s
  run_calm m (tree.item i is) s = after_calm s (λ b. meaning b m i s) (λ b. run b m is) (meaning_calm m i s) (λ u. run_calm m is u)

  pub chosen_calm : (m : Meanings) (bs : Branches) (s : State) → Calm Ended s (λ b. chosen b m bs s)
  chosen_calm m (tree.otherwise is) s = run_calm m is s
  chosen_calm m (tree.branch e is bs) s =
      bind_calm Val Ended s (λ b. value b m e s) (λ b v. (if is_true v.0 then run b m is else chosen b m bs) v.1) (value_calm m e s)
      (λ v u. if_calm (is_true v) u (λ b. run b m is) (λ b. chosen b m bs) (run_calm m is u) (chosen_calm m bs u))
