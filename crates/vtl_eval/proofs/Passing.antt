-- Items before items, and calls that do nothing.
use Rattle.std.proofs.Common.{◌≡◌, ℕ, zero, suc, List, refl, ap, ◌∙◌, Bool, true, false, Ok, Err, Option, Some, None}
use Rattle.std.specs.Prelude.{◌&&◌}
use Rattle.vtl_grammar.specs.Tree as tree
use Rattle.vtl_grammar.specs.Tree.{Exprs, Item, Items}
use Rattle.vtl_grammar.specs.Calls.{Macro, Macros}
use Rattle.vtl_grammar.specs.Expanded.{Arguments, arguments, exprs_with, item_with, items_with, items_before, Called, item_without, items_without, body_of, called}
use Rattle.vtl_eval.specs.Roots.{Meanings}
use Rattle.vtl_eval.specs.World.{State, Outcome}
use Rattle.vtl_eval.specs.Meaning.{after, meaning, run}
use Rattle.vtl_eval.specs.Idle.{does_nothing, do_nothing, idle_body, idle_call}
use Rattle.vtl_eval.specs.declared.stop.Ended.{Ended}
use Rattle.vtl_eval.specs.declared.stop.Ended.TheVariants.{Ran, Broke, Stopped}

after_after : (o : Outcome Ended) (f g h : State → Outcome Ended) → ((s : State) → f s ≡ after (g s) h) → after o f ≡ after (after o g) h
after_after (Err l) f g h same = refl
after_after (Ok (Ran, s)) f g h same = same s
after_after (Ok (Broke, s)) f g h same = refl
after_after (Ok (Stopped, s)) f g h same = refl

after_ran : (o : Outcome Ended) → after o (λ s. Ok (Ran, s)) ≡ o
after_ran (Err l) = refl
after_ran (Ok (Ran, s)) = refl
after_ran (Ok (Broke, s)) = refl
after_ran (Ok (Stopped, s)) = refl

module _ (b : ℕ) (m : Meanings) where
  -- items behind items
  pub run_before : (is js : Items) (s : State) → run b m (items_before is js) s ≡ after (run b m is s) (run b m js)
  run_before tree.no_items js s = refl
  run_before (tree.item i is) js s = after_after (meaning b m i s) (run b m (items_before is js)) (run b m is) (run b m js) (λ t. run_before is js t)

  -- an item alone
  pub run_alone : (i : Item) (s : State) → run b m (tree.item i tree.no_items) s ≡ meaning b m i s
  run_alone i s = after_ran (meaning b m i s)

  both : (x y : Bool) → (x && y) ≡ true → (x ≡ true) × (y ≡ true)
  both true y e = (refl, e)
  both false y e = absurd cc

  module _ (calls : Called) (p : List ℕ → Bool) (idle : (x : List ℕ) → p x ≡ true → (es : Exprs) (s : State) → run b m (calls x es) s ≡ Ok (Ran, s)) (a : Arguments) where
    item_idle : (i : Item) → does_nothing p i ≡ true → (s : State) → run b m (item_without calls (item_with a i)) s ≡ Ok (Ran, s)
    item_idle (tree.text t) e s = absurd cc
    item_idle tree.comment e s = refl
    item_idle (tree.output source x ss) e s = absurd cc
    item_idle (tree.set target x) e s = absurd cc
    item_idle (tree.choose bs) e s = absurd cc
    item_idle (tree.foreach x l is) e s = absurd cc
    item_idle tree.break_ e s = absurd cc
    item_idle tree.stop e s = absurd cc
    item_idle (tree.define x ps is) e s = refl
    item_idle (tree.macro_call at x es) e s = idle x e (exprs_with a es) s
    item_idle tree.deep e s = absurd cc

    pub items_idle : (is : Items) → do_nothing p is ≡ true → (s : State) → run b m (items_without calls (items_with a is)) s ≡ Ok (Ran, s)
    items_idle tree.no_items e s = refl
    items_idle (tree.item i is) e s =
        let h = both (does_nothing p i) (do_nothing p is) e in
        run_before (item_without calls (item_with a i)) (items_without calls (items_with a is)) s
        ∙ ap (λ o. after o (run b m (items_without calls (items_with a is)))) (item_idle i h.0 s)
        ∙ items_idle is h.1 s

  body_idle : (calls : Called) (p : List ℕ → Bool) → ((x : List ℕ) → p x ≡ true → (es : Exprs) (s : State) → run b m (calls x es) s ≡ Ok (Ran, s)) → (o : Option Macro) → idle_body p o ≡ true → (es : Exprs) (s : State) → run b m (body_of (items_without calls) es o) s ≡ Ok (Ran, s)
  body_idle calls p idle None e es s = absurd cc
  body_idle calls p idle (Some d) e es s = items_idle calls p idle (arguments d.params es) d.body e s

  pub call_idle : (ms : Macros) (n : ℕ) (x : List ℕ) → idle_call ms n x ≡ true → (es : Exprs) (s : State) → run b m (called ms n x es) s ≡ Ok (Ran, s)
  unfolding idle_call called
  call_idle ms zero x e es s = absurd cc
  call_idle ms (suc n) x e es s = body_idle (called ms n) (idle_call ms n) (call_idle ms n) (ms x) e es s
