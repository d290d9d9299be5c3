-- Where items are left.
use Rattle.std.proofs.Common.{◌≡◌, ℕ, suc, ◌+◌, ◌≤◌, List, [], ◌∷◌, Ok, Err, refl, sym, ap, ◌∙◌, subst, arith, if◌then◌else◌}
use Rattle.std.specs.Prelude.{Result, OnErr}
use Rattle.std.proofs.lemmas.Bool.{le-ltb}
use Rattle.vtl_grammar.specs.Tree as tree
use Rattle.vtl_grammar.specs.Tree.{Expr, Item, Items, Branches}
use Rattle.vtl_values.specs.Val.{Val}
use Rattle.vtl_eval.specs.Roots.{Meanings, Kept}
use Rattle.vtl_eval.specs.World.{Scene, State, Outcome, ◌>>=◌, begin, there, spend, spent}
use Rattle.vtl_eval.specs.Meaning.{value, after, turned, turns, meaning, run, chosen, finished, rendering}
use Rattle.vtl_eval.specs.Cuts.{Leaves, IsCut, kept_in}
use Rattle.vtl_eval.specs.Views.{Cuts}
use Rattle.vtl_eval.specs.declared.stop.Fail.{Fail}
use Rattle.vtl_eval.specs.declared.stop.Fail.TheVariants.{Memory, Met}
use Rattle.vtl_eval.specs.declared.stop.Ended.{Ended}
use Rattle.vtl_eval.specs.declared.stop.Ended.TheVariants.{Ran, Broke, Stopped}
use Rattle.vtl_eval.specs.declared.stop.Limit.{Limit}
use Rattle.vtl_eval.specs.declared.stop.Limit.TheVariants as limits
use Rattle.vtl_eval.proofs.Calm.{Calm, spent_calm}

-- with no step left

spent_over : (n : ℕ) (s : State) → n ≤ s.0.nodes → spent n s ≡ Err (limits.Steps, s.1)
spent_over n s h = ap (λ c. there (if c then Ok (record s.0 { nodes = s.0.nodes + 1 }) else Err limits.Steps) s.1) (le-ltb s.0.nodes n h)

over_bind : {A B : Type 0} (o : Outcome A) (g : A × State → Outcome B) (l : Limit) (kept : Kept) → o ≡ Err (l, kept) → (o >>= g) ≡ Err (l, kept)
over_bind o g l kept e = ap (λ z. z >>= g) e

value_over : (n : ℕ) (m : Meanings) (e : Expr) (s : State) → n ≤ s.0.nodes → value n m e s ≡ Err (limits.Steps, s.1)
value_over n m (tree.reference x ss) s h = over_bind (spent n s) _ limits.Steps s.1 (spent_over n s h)
value_over n m (tree.whole k) s h = over_bind (spent n s) _ limits.Steps s.1 (spent_over n s h)
value_over n m (tree.string t) s h = over_bind (spent n s) _ limits.Steps s.1 (spent_over n s h)
value_over n m (tree.joined ps) s h = over_bind (spent n s) _ limits.Steps s.1 (spent_over n s h)
value_over n m (tree.boolean t) s h = over_bind (spent n s) _ limits.Steps s.1 (spent_over n s h)
value_over n m (tree.listed es) s h = over_bind (spent n s) _ limits.Steps s.1 (spent_over n s h)
value_over n m (tree.range x y) s h = over_bind (spent n s) _ limits.Steps s.1 (spent_over n s h)
value_over n m (tree.mapped ps) s h = over_bind (spent n s) _ limits.Steps s.1 (spent_over n s h)
value_over n m (tree.binary o x y) s h = over_bind (spent n s) _ limits.Steps s.1 (spent_over n s h)
value_over n m (tree.negated e) s h = over_bind (spent n s) _ limits.Steps s.1 (spent_over n s h)

leaves_none : (n : ℕ) (kept : Kept) (o : Outcome Ended) (l : Limit) → o ≡ Err (l, kept) → Leaves n kept o
leaves_none n kept o l e = let P : Outcome Ended → Type 0 = λ z. Leaves n kept z in subst P (sym e) refl

spends_over : (n : ℕ) (s : State) (g : Unit {0} × State → Outcome Ended) → n ≤ s.0.nodes → Leaves n s.1 (spent n s >>= g)
spends_over n s g h = leaves_none n s.1 (spent n s >>= g) limits.Steps (over_bind (spent n s) g limits.Steps s.1 (spent_over n s h))

after_leaves : (n : ℕ) (kept : Kept) (o : Outcome Ended) (f : State → Outcome Ended) → Leaves n kept o → ((u : State) → n ≤ u.0.nodes → u.1 ≡ kept → Leaves n kept (f u)) → Leaves n kept (after o f)
after_leaves n kept (Err l) f h k = h
after_leaves n kept (Ok (Ran, u)) f h k = k u h.0 h.1
after_leaves n kept (Ok (Broke, u)) f h k = h
after_leaves n kept (Ok (Stopped, u)) f h k = h

along : (n : ℕ) (a kept : Kept) (o : Outcome Ended) → a ≡ kept → Leaves n a o → Leaves n kept o
along n a kept o e h = let P : Kept → Type 0 = λ z. Leaves n z o in subst P e h

meaning_over : (n : ℕ) (m : Meanings) (i : Item) (s : State) → n ≤ s.0.nodes → Leaves n s.1 (meaning n m i s)
meaning_over n m (tree.text t) s h = spends_over n s _ h
meaning_over n m tree.comment s h = (h, refl)
meaning_over n m (tree.output source x ss) s h = spends_over n s _ h
meaning_over n m (tree.set t e) s h = spends_over n s _ h
meaning_over n m (tree.choose bs) s h = spends_over n s _ h
meaning_over n m (tree.foreach x e body) s h = spends_over n s _ h
meaning_over n m tree.break_ s h = spends_over n s _ h
meaning_over n m tree.stop s h = spends_over n s _ h
meaning_over n m (tree.define x ps is) s h = (h, refl)
meaning_over n m (tree.macro_call at x es) s h = (h, refl)
meaning_over n m tree.deep s h = refl

pub run_over : (n : ℕ) (m : Meanings) (is : Items) (s : State) → n ≤ s.0.nodes → Leaves n s.1 (run n m is s)
run_over n m tree.no_items s h = (h, refl)
run_over n m (tree.item i is) s h = after_leaves n s.1 (meaning n m i s) (run n m is) (meaning_over n m i s h) (λ u k e. along n u.1 s.1 (run n m is u) e (run_over n m is u k))

turns_over : (x : List ℕ) (n : ℕ) (body : State → Outcome Ended) → ((s : State) → n ≤ s.0.nodes → Leaves n s.1 (body s)) → (k all : ℕ) (vs : List Val) (s : State) → n ≤ s.0.nodes → Leaves n s.1 (turns x body k all vs s)
turns_over x n body c k all [] s h = (h, refl)
turns_over x n body c k all (v ∷ vs) s h =
    after_leaves n s.1 (body (turned x k all v s.0, s.1)) (turns x body (suc k) all vs) (c (turned x k all v s.0, s.1) h)
    (λ u j e. along n u.1 s.1 (turns x body (suc k) all vs u) e (turns_over x n body c (suc k) all vs u j))

chosen_over : (n : ℕ) (m : Meanings) (bs : Branches) (s : State) → n ≤ s.0.nodes → Leaves n s.1 (chosen n m bs s)
chosen_over n m (tree.otherwise is) s h = run_over n m is s h
chosen_over n m (tree.branch e is bs) s h = leaves_none n s.1 (chosen n m (tree.branch e is bs) s) limits.Steps (over_bind (value n m e s) _ limits.Steps s.1 (value_over n m e s h))

-- nothing more was written

cut_here : (b : ℕ) (s : State) (f : ℕ → Outcome Ended) (kept : Kept) → kept ≡ s.1 → Leaves s.0.nodes s.1 (f s.0.nodes) → IsCut b s f kept
cut_here b s f kept e h = record { at = s.0.nodes; from = omega arith; upto = λ k. k; leaves = along s.0.nodes s.1 kept (f s.0.nodes) (sym e) h }

pub cut_run : (b : ℕ) (m : Meanings) (is : Items) (s : State) (kept : Kept) → kept ≡ s.1 → IsCut b s (λ n. run n m is s) kept
cut_run b m is s kept e = cut_here b s (λ n. run n m is s) kept e (run_over s.0.nodes m is s (omega arith))

pub cut_meaning : (b : ℕ) (m : Meanings) (i : Item) (s : State) (kept : Kept) → kept ≡ s.1 → IsCut b s (λ n. meaning n m i s) kept
cut_meaning b m i s kept e = cut_here b s (λ n. meaning n m i s) kept e (meaning_over s.0.nodes m i s (omega arith))

pub cut_chosen : (b : ℕ) (m : Meanings) (bs : Branches) (s : State) (kept : Kept) → kept ≡ s.1 → IsCut b s (λ n. chosen n m bs s) kept
cut_chosen b m bs s kept e = cut_here b s (λ n. chosen n m bs s) kept e (chosen_over s.0.nodes m bs s (omega arith))

pub cut_turns : (b : ℕ) (m : Meanings) (x : List ℕ) (body : Items) (k all : ℕ) (vs : List Val) (s : State) (kept : Kept) → kept ≡ s.1 → IsCut b s (λ n. turns x (run n m body) k all vs s) kept
cut_turns b m x body k all vs s kept e =
    cut_here b s (λ n. turns x (run n m body) k all vs s) kept e (turns_over x s.0.nodes (run s.0.nodes m body) (λ u h. run_over s.0.nodes m body u h) k all vs s (omega arith))

-- it was written behind a part that ran
pub cut_behind : (A : Type 0) (b : ℕ) (s : State) (o : ℕ → Outcome A) (g : ℕ → A × State → Outcome Ended) (y : A) (u : State) (kept : Kept) → Calm A s o → o b ≡ Ok (y, u) → IsCut b u (λ n. g n (y, u)) kept → IsCut b s (λ n. o n >>= g n) kept
cut_behind A b s o g y u kept co e c =
    let p = co b y u e in
    let P : Outcome Ended → Type 0 = λ z. Leaves c.at kept z in
    record {
      at = c.at;
      from = omega (arith, p.grows, c.from);
      upto = λ k. c.upto (p.upto k);
      leaves = subst P (sym (ap (λ z. z >>= g c.at) (p.again c.at c.from))) c.leaves;
    }

-- what follows of a whole, from a later state
pub record Follows (b : ℕ) (start : State) (whole : ℕ → Outcome Ended) (s : State) (rest : ℕ → Outcome Ended) : Type 0 where
  pub grows : start.0.nodes ≤ s.0.nodes
  pub upto : start.0.nodes ≤ b → s.0.nodes ≤ b
  pub same : (n : ℕ) → s.0.nodes ≤ n → whole n ≡ rest n

pub follows_all : (b : ℕ) (s : State) (whole : ℕ → Outcome Ended) → Follows b s whole s whole
follows_all b s whole = record { grows = omega arith; upto = λ k. k; same = λ n k. refl }

pub cut_follows : (b : ℕ) (start : State) (whole : ℕ → Outcome Ended) (s : State) (rest : ℕ → Outcome Ended) (kept : Kept) → Follows b start whole s rest → IsCut b s rest kept → IsCut b start whole kept
cut_follows b start whole s rest kept f c =
    let P : Outcome Ended → Type 0 = λ z. Leaves c.at kept z in
    record {
      at = c.at;
      from = omega (arith, f.grows, c.from);
      upto = λ k. c.upto (f.upto k);
      leaves = subst P (sym (f.same c.at c.from)) c.leaves;
    }

-- the first part ran
pub follows_after : (b : ℕ) (start : State) (whole : ℕ → Outcome Ended) (s : State) (o : ℕ → Outcome Ended) (g : ℕ → State → Outcome Ended) (u : State) → Follows b start whole s (λ n. after (o n) (g n)) → Calm Ended s o → o b ≡ Ok (Ran, u) → Follows b start whole u (λ n. g n u)
follows_after b start whole s o g u f co e =
    let p = co b Ran u e in
    record {
      grows = omega (arith, f.grows, p.grows);
      upto = λ k. p.upto (f.upto k);
      same = λ n k. f.same n (omega (arith, k, p.grows)) ∙ ap (λ z. after z (g n)) (p.again n k);
    }

pub follows_bind : (A : Type 0) (b : ℕ) (start : State) (whole : ℕ → Outcome Ended) (s : State) (o : ℕ → Outcome A) (g : ℕ → A × State → Outcome Ended) (y : A) (u : State) → Follows b start whole s (λ n. o n >>= g n) → Calm A s o → o b ≡ Ok (y, u) → Follows b start whole u (λ n. g n (y, u))
follows_bind A b start whole s o g y u f co e =
    let p = co b y u e in
    record {
      grows = omega (arith, f.grows, p.grows);
      upto = λ k. p.upto (f.upto k);
      same = λ n k. f.same n (omega (arith, k, p.grows)) ∙ ap (λ z. z >>= g n) (p.again n k);
    }

-- the rest is read otherwise
pub follows_as : (b : ℕ) (start : State) (whole : ℕ → Outcome Ended) (s : State) (rest other : ℕ → Outcome Ended) → Follows b start whole s rest → ((n : ℕ) → rest n ≡ other n) → Follows b start whole s other
follows_as b start whole s rest other f e = record { grows = f.grows; upto = f.upto; same = λ n k. f.same n k ∙ e n }

pub cut_as : (b : ℕ) (s : State) (f g : ℕ → Outcome Ended) (kept : Kept) → ((n : ℕ) → g n ≡ f n) → IsCut b s f kept → IsCut b s g kept
cut_as b s f g kept e c = let P : Outcome Ended → Type 0 = λ z. Leaves c.at kept z in record { at = c.at; from = c.from; upto = c.upto; leaves = subst P (sym (e c.at)) c.leaves }

-- from another state with as many nodes
pub cut_restart : (b : ℕ) (s u : State) (f : ℕ → Outcome Ended) (kept : Kept) → u.0.nodes ≡ s.0.nodes → IsCut b u f kept → IsCut b s f kept
cut_restart b s u f kept e c = record { at = c.at; from = omega (arith, c.from, e); upto = λ k. c.upto (omega (arith, k, e)); leaves = c.leaves }

-- a part is left, and what follows it writes nothing
pub cut_first : (b : ℕ) (m : Meanings) (s : State) (o : ℕ → Outcome Ended) (is : Items) (kept : Kept) → IsCut b s o kept → IsCut b s (λ n. after (o n) (run n m is)) kept
cut_first b m s o is kept c = record {
  at = c.at;
  from = c.from;
  upto = c.upto;
  leaves = after_leaves c.at kept (o c.at) (run c.at m is) c.leaves (λ u h e. along c.at u.1 kept (run c.at m is u) e (run_over c.at m is u h));
}

pub cut_turn : (b : ℕ) (m : Meanings) (x : List ℕ) (body : Items) (k all : ℕ) (vs : List Val) (s : State) (o : ℕ → Outcome Ended) (kept : Kept) → IsCut b s o kept → IsCut b s (λ n. after (o n) (turns x (run n m body) k all vs)) kept
cut_turn b m x body k all vs s o kept c = record {
  at = c.at;
  from = c.from;
  upto = c.upto;
  leaves = after_leaves c.at kept (o c.at) (turns x (run c.at m body) k all vs) c.leaves (λ u h e. along c.at u.1 kept (turns x (run c.at m body) k all vs u) e (turns_over x c.at (run c.at m body) (λ w j. run_over c.at m body w j) k all vs u h));
}

-- Where a call was refused for want of memory.

pub cuts : (b : ℕ) (s : State) (f : ℕ → Outcome Ended) (kept : Kept) (r : Result Ended Fail) → IsCut b s f kept → Cuts r b s f kept
cuts b s f kept (Ok x) c = tt
cuts b s f kept (Err Memory) c = c
cuts b s f kept (Err (Met l)) c = tt

pub cuts_map : (b : ℕ) (s u : State) (f g : ℕ → Outcome Ended) (kept : Kept) (r : Result Ended Fail) → (IsCut b u f kept → IsCut b s g kept) → Cuts r b u f kept → Cuts r b s g kept
cuts_map b s u f g kept (Ok x) h c = tt
cuts_map b s u f g kept (Err Memory) h c = h c
cuts_map b s u f g kept (Err (Met l)) h c = tt

pub still_run : (b : ℕ) (m : Meanings) (is : Items) (s : State) (r : Result Ended Fail) → Cuts r b s (λ n. run n m is s) s.1
still_run b m is s r = cuts b s (λ n. run n m is s) s.1 r (cut_run b m is s s.1 refl)

pub still_meaning : (b : ℕ) (m : Meanings) (i : Item) (s : State) (r : Result Ended Fail) → Cuts r b s (λ n. meaning n m i s) s.1
still_meaning b m i s r = cuts b s (λ n. meaning n m i s) s.1 r (cut_meaning b m i s s.1 refl)

pub set_lacks : (b : ℕ) (m : Meanings) (is : Items) (s : State) (kept : Kept) (r : Result Ended Fail) → OnErr r (kept ≡ s.1) → Cuts r b s (λ n. run n m is s) kept
set_lacks b m is s kept (Ok x) e = tt
set_lacks b m is s kept (Err Memory) e = cut_run b m is s kept e
set_lacks b m is s kept (Err (Met l)) e = tt

pub cuts_as : (b : ℕ) (s : State) (f g : ℕ → Outcome Ended) (kept : Kept) (r : Result Ended Fail) → ((n : ℕ) → g n ≡ f n) → Cuts r b s f kept → Cuts r b s g kept
cuts_as b s f g kept r e c = cuts_map b s s f g kept r (cut_as b s f g kept e) c

-- what a spent step goes before
pub cuts_spent : (b : ℕ) (s : State) (t : Scene) (g : ℕ → State → Outcome Ended) (kept : Kept) (r : Result Ended Fail) → spend b s.0 ≡ Ok t → Cuts r b (t, s.1) (λ n. g n (t, s.1)) kept → Cuts r b s (λ n. spent n s >>= λ u. g n u.1) kept
cuts_spent b s t g kept r e c =
    cuts_map b s (t, s.1) (λ n. g n (t, s.1)) (λ n. spent n s >>= λ u. g n u.1) kept r
    (cut_behind (Unit {0}) b s (λ n. spent n s) (λ n u. g n u.1) tt (t, s.1) kept (spent_calm s) (ap (λ z. there z s.1) e)) c

-- the whole render

kept_left : (n : ℕ) (kept : Kept) (o : Outcome Ended) → Leaves n kept o → kept_in (finished o) ≡ kept
kept_left n kept (Ok r) h = h.1
kept_left n kept (Err e) h = h

pub whole_cut : (b : ℕ) (m : Meanings) (is : Items) (start : Kept) (s : State) (f : ℕ → Outcome Ended) (kept : Kept) → s.0.nodes ≡ 0 → ((n : ℕ) → run n m is (begin, start) ≡ f n) → IsCut b s f kept → (n : ℕ) × (n ≤ b) × (kept_in (rendering n m is start) ≡ kept)
unfolding rendering
whole_cut b m is start s f kept none e c = (c.at, c.upto (omega (arith, none)), ap (λ o. kept_in (finished o)) (e c.at) ∙ kept_left c.at kept (f c.at) c.leaves)

-- before the first item
pub nothing_cut : (b : ℕ) (m : Meanings) (is : Items) (start : Kept) → (n : ℕ) × (n ≤ b) × (kept_in (rendering n m is start) ≡ start)
unfolding rendering
nothing_cut b m is start = (0, omega arith, kept_left 0 start (run 0 m is (begin, start)) (run_over 0 m is (begin, start) (omega arith)))
