-- Items and branches one after another, and calls.
use Rattle.std.proofs.Common.{◌≡◌, ℕ, zero, suc, ◌+◌, ◌-◌, ◌*◌, ◌<◌, ◌≤◌, mul-suc, List, [], ◌∷◌, length, drop, get_or, refl, sym, ◌∙◌, ap, subst, Bool, true, false, Option, Some, None, Ok, Err, arith, if◌then◌else◌}
use Rattle.std.specs.Prelude.{nat_lt, ◌&&◌, Result}
use Rattle.std.specs.List.{list_all, AllByRecursion}
use Rattle.std.proofs.lemmas.Bool.{lt-ltb}
use Rattle.vtl_grammar.specs.Tree as tree
use Rattle.vtl_grammar.specs.Tree.{Expr, Exprs, Item, Items}
use Rattle.vtl_grammar.specs.Calls.{Macro, Macros}
use Rattle.vtl_grammar.specs.Expanded.{Arguments, arguments, expr_with, items_with, item_with, branches_with, Called, item_without, items_without, branches_without, body_of, called}
use Rattle.vtl_reader.specs.Nodes.{items_made, branches_made, AllBelow}
use Rattle.vtl_reader.specs.declared.nodes.Branch.{Branch}
use Rattle.vtl_values.specs.Val.{Val}
use Rattle.vtl_values.specs.Truth.{is_true}
use Rattle.vtl_eval.specs.Roots.{Meanings, Kept}
use Rattle.vtl_eval.specs.World.{State, Outcome, ◌>>=◌}
use Rattle.vtl_eval.specs.Meaning.{value, meaning, run, chosen, after}
use Rattle.vtl_eval.specs.Views.{Fails, Lacks, Cuts}
use Rattle.vtl_eval.specs.declared.stop.Ended.{Ended}
use Rattle.vtl_eval.specs.declared.stop.Ended.TheVariants.{Ran, Broke, Stopped}
use Rattle.vtl_eval.specs.declared.stop.Limit.TheVariants.{Depth}
use Rattle.vtl_eval.specs.declared.stop.Fail.{Fail}
use Rattle.vtl_eval.specs.declared.stop.Fail.TheVariants.{Memory, Met}
use Rattle.vtl_eval.proofs.Calm.{value_calm}
use Rattle.vtl_eval.proofs.CalmItems.{run_calm}
use Rattle.vtl_eval.proofs.Cutting.{Follows, follows_after, follows_as, follows_bind, cut_as, cut_chosen, cut_first, cut_follows, cuts, cuts_as, cuts_map}
use Rattle.vtl_eval.proofs.Passing.{run_before}

drop_at : {A : Type 0} (xs : List A) (n : ℕ) (d : A) → n < length xs → drop n xs ≡ get_or xs n d ∷ drop (n + 1) xs
drop_at [] n d h = absurd (omega (arith, h))
drop_at (x ∷ xs) zero d h = refl
drop_at (x ∷ xs) (suc n) d h = let up : suc (n + 1) ≡ suc n + 1 = omega arith in drop_at xs n d (omega (arith, h)) ∙ ap (λ k. get_or xs n d ∷ drop k (x ∷ xs)) up

module _ (b : ℕ) (m k : Meanings) (same : k ≡ m) (calls : Called) (a : Arguments) (g : ℕ → Item) (ids : List ℕ) (n d : ℕ) (lt : n < length ids) (s start : State) where
  abbrev left : ℕ → Items
  left j = items_without calls (items_with a (items_made g (drop j ids)))

  abbrev one : Items
  one = item_without calls (item_with a (g (get_or ids n d)))

  module _ (so_far : run b m (left n) s ≡ run b m (items_without calls (items_with a (items_made g ids))) start) where
    opened : run b m (items_without calls (items_with a (items_made g ids))) start ≡ after (run b k one s) (run b m (left (n + 1)))
    opened =
        sym so_far
        ∙ ap (λ z. run b m (items_without calls (items_with a (items_made g z))) s) (drop_at ids n d lt)
        ∙ run_before b m one (left (n + 1)) s
        ∙ ap (λ z. after (run b z one s) (run b m (left (n + 1)))) (sym same)

    pub item_ran : (t : State) → run b k one s ≡ Ok (Ran, t) → run b m (left (n + 1)) t ≡ run b m (items_without calls (items_with a (items_made g ids))) start
    item_ran t h = sym (opened ∙ ap (λ z. after z (run b m (left (n + 1)))) h)

    pub item_broke : (t : State) → run b k one s ≡ Ok (Broke, t) → run b m (items_without calls (items_with a (items_made g ids))) start ≡ Ok (Broke, t)
    item_broke t h = opened ∙ ap (λ z. after z (run b m (left (n + 1)))) h

    pub item_stopped : (t : State) → run b k one s ≡ Ok (Stopped, t) → run b m (items_without calls (items_with a (items_made g ids))) start ≡ Ok (Stopped, t)
    item_stopped t h = opened ∙ ap (λ z. after z (run b m (left (n + 1)))) h

    pub item_fails : (e : Fail) (kept : Kept) → Fails e kept (run b k one s) → Fails e kept (run b m (items_without calls (items_with a (items_made g ids))) start)
    item_fails Memory kept h = tt
    item_fails (Met l) kept h = opened ∙ ap (λ z. after z (run b m (left (n + 1)))) h

  split : (j : ℕ) → run j m (left n) s ≡ after (run j m one s) (run j m (left (n + 1)))
  split j = ap (λ z. run j m (items_without calls (items_with a (items_made g z))) s) (drop_at ids n d lt) ∙ run_before j m one (left (n + 1)) s

  abbrev whole : ℕ → Outcome Ended
  whole j = run j m (items_without calls (items_with a (items_made g ids))) start

  module _ (follows : Follows b start whole s (λ j. run j m (left n) s)) where
    pub item_follows : (u : State) → run b k one s ≡ Ok (Ran, u) → Follows b start whole u (λ j. run j m (left (n + 1)) u)
    item_follows u h =
        follows_after b start whole s (λ j. run j m one s) (λ j. run j m (left (n + 1))) u
        (follows_as b start whole s (λ j. run j m (left n) s) (λ j. after (run j m one s) (run j m (left (n + 1)))) follows split)
        (run_calm m one s) (ap (λ z. run b z one s) (sym same) ∙ h)

    pub item_cut : (kept : Kept) (e : Fail) → Lacks e b s (λ j. run j k one s) kept → Lacks e b start whole kept
    item_cut kept Memory c =
        cut_follows b start whole s (λ j. run j m (left n) s) kept follows
        (cut_as b s (λ j. after (run j m one s) (run j m (left (n + 1)))) (λ j. run j m (left n) s) kept split
        (cut_first b m s (λ j. run j m one s) (left (n + 1)) kept
        (cut_as b s (λ j. run j k one s) (λ j. run j m one s) kept (λ j. ap (λ z. run j z one s) (sym same)) c)))
    item_cut kept (Met l) c = tt

module _ (b : ℕ) (m k : Meanings) (same : k ≡ m) (calls : Called) (a : Arguments) (e : ℕ → Expr) (g : ℕ → Item) (bs : List Branch) (is : Items) (n : ℕ) (x : Branch) (at : x ≡ get_or bs n x) (lt : n < length bs) (s start : State) where
  abbrev others : ℕ → tree.Branches
  others j = branches_without calls (branches_with a (branches_made e g (drop j bs) is))

  abbrev body : Items
  body = items_without calls (items_with a (items_made g x.items.items))

  module _ (so_far : chosen b m (others n) s ≡ chosen b m (branches_without calls (branches_with a (branches_made e g bs is))) start) where
    branch_opened : chosen b m (branches_without calls (branches_with a (branches_made e g bs is))) start ≡ (value b k (expr_with a (e x.condition)) s >>= λ v. (if is_true v.0 then run b m body else chosen b m (others (n + 1))) v.1)
    branch_opened =
        sym so_far
        ∙ ap (λ z. chosen b m (branches_without calls (branches_with a (branches_made e g z is))) s) (drop_at bs n x lt ∙ ap (λ y. y ∷ drop (n + 1) bs) (sym at))
        ∙ ap (λ z. value b z (expr_with a (e x.condition)) s >>= λ v. (if is_true v.0 then run b m body else chosen b m (others (n + 1))) v.1) (sym same)

    pub branch_taken : (v : Val) (t : State) (l : Meanings) → l ≡ m → value b k (expr_with a (e x.condition)) s ≡ Ok (v, t) → is_true v ≡ true → chosen b m (branches_without calls (branches_with a (branches_made e g bs is))) start ≡ run b l body t
    branch_taken v t l is_m h true_is =
        branch_opened
        ∙ ap (λ z. z >>= λ v. (if is_true v.0 then run b m body else chosen b m (others (n + 1))) v.1) h
        ∙ ap (λ z. (if z then run b m body else chosen b m (others (n + 1))) t) true_is
        ∙ ap (λ z. run b z body t) (sym is_m)

    pub branch_passed : (v : Val) (t : State) → value b k (expr_with a (e x.condition)) s ≡ Ok (v, t) → is_true v ≡ false → chosen b m (others (n + 1)) t ≡ chosen b m (branches_without calls (branches_with a (branches_made e g bs is))) start
    branch_passed v t h false_is =
        sym (branch_opened
        ∙ ap (λ z. z >>= λ v. (if is_true v.0 then run b m body else chosen b m (others (n + 1))) v.1) h
        ∙ ap (λ z. (if z then run b m body else chosen b m (others (n + 1))) t) false_is)

  branch_split : (j : ℕ) → chosen j m (others n) s ≡ (value j m (expr_with a (e x.condition)) s >>= λ v. (if is_true v.0 then run j m body else chosen j m (others (n + 1))) v.1)
  branch_split j = ap (λ z. chosen j m (branches_without calls (branches_with a (branches_made e g z is))) s) (drop_at bs n x lt ∙ ap (λ y. y ∷ drop (n + 1) bs) (sym at))

  abbrev all : ℕ → Outcome Ended
  all j = chosen j m (branches_without calls (branches_with a (branches_made e g bs is))) start

  module _ (follows : Follows b start all s (λ j. chosen j m (others n) s)) (v : Val) (t : State) (valued : value b k (expr_with a (e x.condition)) s ≡ Ok (v, t)) where
    behind_value : Follows b start all t (λ j. (if is_true v then run j m body else chosen j m (others (n + 1))) t)
    behind_value =
        follows_bind Val b start all s (λ j. value j m (expr_with a (e x.condition)) s) (λ j v. (if is_true v.0 then run j m body else chosen j m (others (n + 1))) v.1) v t
        (follows_as b start all s (λ j. chosen j m (others n) s) (λ j. value j m (expr_with a (e x.condition)) s >>= λ v. (if is_true v.0 then run j m body else chosen j m (others (n + 1))) v.1) follows branch_split)
        (value_calm m (expr_with a (e x.condition)) s) (ap (λ z. value b z (expr_with a (e x.condition)) s) (sym same) ∙ valued)

    pub branch_follows : is_true v ≡ false → Follows b start all t (λ j. chosen j m (others (n + 1)) t)
    branch_follows false_is = follows_as b start all t _ (λ j. chosen j m (others (n + 1)) t) behind_value (λ j. ap (λ z. (if z then run j m body else chosen j m (others (n + 1))) t) false_is)

    pub branch_cut : (kept : Kept) (r : Result Ended Fail) → is_true v ≡ true → Cuts r b t (λ j. run j m body t) kept → Cuts r b start all kept
    branch_cut kept r true_is c =
        cuts_map b start t (λ j. run j m body t) all kept r
        (cut_follows b start all t (λ j. run j m body t) kept
        (follows_as b start all t _ (λ j. run j m body t) behind_value (λ j. ap (λ z. (if z then run j m body else chosen j m (others (n + 1))) t) true_is)))
        c

-- what is left of branches is lacking where nothing more was written
pub branch_lacks : (b : ℕ) (m : Meanings) (start : State) (all : ℕ → Outcome Ended) (bs : tree.Branches) (s : State) (r : Result Ended Fail) → Follows b start all s (λ j. chosen j m bs s) → Cuts r b start all s.1
branch_lacks b m start all bs s r f = cuts b start all s.1 r (cut_follows b start all s (λ j. chosen j m bs s) s.1 f (cut_chosen b m bs s s.1 refl))

past_end : {A : Type 0} (xs : List A) (n : ℕ) → length xs ≤ n → drop n xs ≡ []
past_end [] zero h = refl
past_end [] (suc n) h = refl
past_end (x ∷ xs) zero h = absurd (omega (arith, h))
past_end (x ∷ xs) (suc n) h = past_end xs n (omega (arith, h))

-- behind the last branch
pub last_cut : (b : ℕ) (m : Meanings) (calls : Called) (a : Arguments) (e : ℕ → Expr) (g : ℕ → Item) (bs : List Branch) (is : Items) (n : ℕ) (start s : State) (all : ℕ → Outcome Ended) (kept : Kept) (r : Result Ended Fail) → length bs ≤ n → Follows b start all s (λ j. chosen j m (branches_without calls (branches_with a (branches_made e g (drop n bs) is))) s) → Cuts r b s (λ j. run j m (items_without calls (items_with a is)) s) kept → Cuts r b start all kept
last_cut b m calls a e g bs is n start s all kept r h f c =
    cuts_map b start s (λ j. run j m (items_without calls (items_with a is)) s) all kept r
    (cut_follows b start all s (λ j. run j m (items_without calls (items_with a is)) s) kept
    (follows_as b start all s _ (λ j. run j m (items_without calls (items_with a is)) s) f (λ j. ap (λ z. chosen j m (branches_without calls (branches_with a (branches_made e g z is))) s) (past_end bs n h))))
    c

-- the same branches and items, by another name
pub choice_read : (b : ℕ) (m : Meanings) (calls : Called) (a : Arguments) (e : ℕ → Expr) (g : ℕ → Item) (bs bs' : List Branch) (os os' : List ℕ) (s : State) (kept : Kept) (r : Result Ended Fail) → bs ≡ bs' → os ≡ os' → Cuts r b s (λ n. meaning n m (tree.choose (branches_without calls (branches_with a (branches_made e g bs (items_made g os))))) s) kept → Cuts r b s (λ n. meaning n m (tree.choose (branches_without calls (branches_with a (branches_made e g bs' (items_made g os'))))) s) kept
choice_read b m calls a e g bs bs' os os' s kept r p q c =
    cuts_as b s (λ n. meaning n m (tree.choose (branches_without calls (branches_with a (branches_made e g bs (items_made g os))))) s) (λ n. meaning n m (tree.choose (branches_without calls (branches_with a (branches_made e g bs' (items_made g os'))))) s) kept r
    (λ n. ap (λ z. meaning n m (tree.choose (branches_without calls (branches_with a (branches_made e g z (items_made g os'))))) s) (sym p)
    ∙ ap (λ z. meaning n m (tree.choose (branches_without calls (branches_with a (branches_made e g bs (items_made g z))))) s) (sym q))
    c

all_after : {A : Type 0} (P : A → Type 0) (xs : List A) (n : ℕ) → AllByRecursion P (drop n xs) → AllByRecursion P (drop (suc n) xs)
all_after P [] zero h = tt
all_after P [] (suc n) h = tt
all_after P (x ∷ xs) zero h = h.1
all_after P (x ∷ xs) (suc n) h = all_after P xs n h

pub all_next : {A : Type 0} (P : A → Type 0) (xs : List A) (n : ℕ) → AllByRecursion P (drop n xs) → AllByRecursion P (drop (n + 1) xs)
all_next P xs n h =
    let up : suc n ≡ n + 1 = omega arith in
    let Q : ℕ → Type 0 = λ k. AllByRecursion P (drop k xs) in
    subst Q up (all_after P xs n h)

-- calls

pub all_below : (n : ℕ) (ids : List ℕ) → AllBelow n ids → list_all (λ k. nat_lt k n) ids ≡ true
all_below n [] h = refl
all_below n (k ∷ ids) h = ap (λ z. z && list_all (λ k. nat_lt k n) ids) (lt-ltb k n h.0) ∙ all_below n ids h.1

pub both_true : (x y : Bool) → x ≡ true → y ≡ true → (x && y) ≡ true
both_true x y e f = ap (λ z. z && y) e ∙ f

module _ (b : ℕ) (m : Meanings) (ms : Macros) (x : List ℕ) (es : Exprs) (s : State) where
  pub too_deep : (n : ℕ) → n ≡ 0 → run b m (called ms n x es) s ≡ Err (Depth, s.1)
  unfolding called
  too_deep n e = ap (λ j. run b m (called ms j x es) s) e

  pub call_runs : (n : ℕ) → 0 < n → (d : Macro) → ms x ≡ Some d → run b m (called ms n x es) s ≡ run b m (items_without (called ms (n - 1)) (items_with (arguments d.params es) d.body)) s
  unfolding called
  call_runs zero h d e = absurd (omega (arith, h))
  call_runs (suc n) h d e = go (ms x) e ∙ ap (λ j. run b m (items_without (called ms j) (items_with (arguments d.params es) d.body)) s) (omega arith)
    where
      go : (o : Option Macro) → o ≡ Some d → run b m (body_of (items_without (called ms n)) es o) s ≡ run b m (items_without (called ms n) (items_with (arguments d.params es) d.body)) s
      go o f = ap (λ o. run b m (body_of (items_without (called ms n)) es o) s) f

  pub no_macro : (n : ℕ) → 0 < n → ms x ≡ None → run b m (called ms n x es) s ≡ Ok (Ran, s)
  unfolding called
  no_macro zero h e = absurd (omega (arith, h))
  no_macro (suc n) h e = ap (λ o. run b m (body_of (items_without (called ms n)) es o) s) e

-- a body is run with one call less that may stand inside
pub fewer_calls : (len n calls : ℕ) → 0 < calls → n ≤ len → (6 * len + 12) * (calls - 1) + 6 * n < (6 * len + 12) * calls
fewer_calls len n zero h le = absurd (omega (arith, h))
fewer_calls len n (suc calls) h le = go (6 * len + 12) refl
  where
    go : (c : ℕ) → 6 * len + 12 ≡ c → c * (suc calls - 1) + 6 * n < c * suc calls
    go c e =
        let one : suc calls - 1 ≡ calls = omega arith in
        let more : c * suc calls ≡ c * calls + c = mul-suc c calls in
        let same : c * (suc calls - 1) ≡ c * calls = ap (λ k. c * k) one in
        omega (arith, more, same, e, le)
