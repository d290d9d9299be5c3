-- Loops.
use Rattle.std.proofs.Common.{◌≡◌, ℕ, suc, ◌+◌, List, ◌∷◌, length, drop, refl, sym, ◌∙◌, ap, Some, Ok, Err, arith}
use Rattle.std.specs.Prelude.{slice_get, Result}
use Rattle.std.proofs.Math.Seq.{drop-cons}
use Rattle.std.proofs.lemmas.Option.{slice_get_within, get_or_from_slice_get}
use Rattle.vtl_grammar.specs.Tree.{Expr, Items, foreach}
use Rattle.vtl_values.specs.Val.{Val}
use Rattle.vtl_values.specs.Parts.{loop_items}
use Rattle.vtl_eval.specs.Roots.{Meanings, Kept}
use Rattle.vtl_eval.specs.World.{Scene, State, Outcome, ◌>>=◌, there, spend}
use Rattle.vtl_eval.specs.World.{spent as spent_step}
use Rattle.vtl_eval.specs.Cuts.{IsCut, Leaves}
use Rattle.vtl_eval.specs.Meaning.{value, meaning, run, turns, turned, after, left, over}
use Rattle.vtl_eval.specs.Views.{Fails, Lacks, Cuts}
use Rattle.vtl_eval.specs.declared.stop.Ended.{Ended}
use Rattle.vtl_eval.specs.declared.stop.Ended.TheVariants.{Ran, Broke, Stopped}
use Rattle.vtl_eval.specs.declared.stop.Fail.{Fail}
use Rattle.vtl_eval.specs.declared.stop.Fail.TheVariants.{Memory, Met}
use Rattle.vtl_eval.proofs.Calm.{spent_calm, value_calm}
use Rattle.vtl_eval.proofs.CalmItems.{restart_calm, run_calm, turns_calm}
use Rattle.vtl_eval.proofs.Cutting.{Follows, follows_after, follows_as, cut_as, cut_behind, cut_follows, cut_restart, cut_turn, cut_turns, cuts}

-- what stands in a place is the first of what follows it
drop_get : (xs : List Val) (n : ℕ) (v : Val) → slice_get xs n ≡ Some v → drop n xs ≡ v ∷ drop (suc n) xs
drop_get xs n v h = drop-cons xs n v (slice_get_within xs n v h) ∙ ap (λ y. y ∷ drop (suc n) xs) (get_or_from_slice_get xs n v v h)

-- the turn in this place
pub next_turn : (x : List ℕ) (body : State → Outcome Ended) (all n : ℕ) (xs : List Val) (v : Val) (s : State) → slice_get xs n ≡ Some v
    → turns x body n all (drop n xs) s ≡ after (body (turned x n all v s.0, s.1)) (turns x body (n + 1) all (drop (n + 1) xs))
next_turn x body all n xs v s h =
    let up : n + 1 ≡ suc n = omega arith in
    ap (λ l. turns x body n all l s) (drop_get xs n v h) ∙ ap (λ k. after (body (turned x n all v s.0, s.1)) (turns x body k all (drop k xs))) (sym up)

module _ (b : ℕ) (m k : Meanings) (x : List ℕ) (body : Items) (all n : ℕ) (xs : List Val) (v : Val) (s t : Scene) (kept : Kept) (start : State) (same : k ≡ m) (got : slice_get xs n ≡ Some v) (entered : t ≡ turned x n all v s)
    (so_far : turns x (run b m body) n all (drop n xs) (s, kept) ≡ turns x (run b m body) 0 all xs start) where
  abbrev rest : State → Outcome Ended
  rest = turns x (run b m body) (n + 1) all (drop (n + 1) xs)

  opened : turns x (run b m body) 0 all xs start ≡ after (run b k body (t, kept)) rest
  opened =
      sym so_far
      ∙ next_turn x (run b m body) all n xs v (s, kept) got
      ∙ ap (λ z. after (run b m body (z, kept)) rest) (sym entered)
      ∙ ap (λ z. after (run b z body (t, kept)) rest) (sym same)

  pub turn_ran : (u : Scene) (last : Kept) → run b k body (t, kept) ≡ Ok (Ran, (u, last)) → turns x (run b m body) (n + 1) all (drop (n + 1) xs) (u, last) ≡ turns x (run b m body) 0 all xs start
  turn_ran u last h = sym (opened ∙ ap (λ z. after z rest) h)

  pub turn_broke : (u : Scene) (last : Kept) → run b k body (t, kept) ≡ Ok (Broke, (u, last)) → turns x (run b m body) 0 all xs start ≡ Ok (Broke, (u, last))
  turn_broke u last h = opened ∙ ap (λ z. after z rest) h

  pub turn_stopped : (u : Scene) (last : Kept) → run b k body (t, kept) ≡ Ok (Stopped, (u, last)) → turns x (run b m body) 0 all xs start ≡ Ok (Stopped, (u, last))
  turn_stopped u last h = opened ∙ ap (λ z. after z rest) h

  pub turn_fails : (h : Fail) (last : Kept) (count : ℕ) → all ≡ count → Fails h last (run b k body (t, kept)) → Fails h last (turns x (run b m body) 0 count xs start)
  turn_fails Memory last count e f = tt
  turn_fails (Met l) last count e f = ap (λ z. turns x (run b m body) 0 z xs start) (sym e) ∙ opened ∙ ap (λ z. after z rest) f

module _ (b : ℕ) (m k : Meanings) (x : List ℕ) (body : Items) (all n : ℕ) (xs : List Val) (v : Val) (s t : Scene) (kept : Kept) (start : State) (whole : ℕ → Outcome Ended) (same : k ≡ m) (got : slice_get xs n ≡ Some v) (entered : t ≡ turned x n all v s)
    (follows : Follows b start whole (s, kept) (λ j. turns x (run j m body) n all (drop n xs) (s, kept))) where
  turn_split : (j : ℕ) → turns x (run j m body) n all (drop n xs) (s, kept) ≡ after (run j m body (t, kept)) (turns x (run j m body) (n + 1) all (drop (n + 1) xs))
  turn_split j = next_turn x (run j m body) all n xs v (s, kept) got ∙ ap (λ z. after (run j m body (z, kept)) (turns x (run j m body) (n + 1) all (drop (n + 1) xs))) (sym entered)

  as_many : t.nodes ≡ s.nodes
  as_many = ap (λ z. z.nodes) entered

  opened_follows : Follows b start whole (s, kept) (λ j. after (run j m body (t, kept)) (turns x (run j m body) (n + 1) all (drop (n + 1) xs)))
  opened_follows = follows_as b start whole (s, kept) (λ j. turns x (run j m body) n all (drop n xs) (s, kept)) _ follows turn_split

  pub turn_follows : (u : State) → run b k body (t, kept) ≡ Ok (Ran, u) → Follows b start whole u (λ j. turns x (run j m body) (n + 1) all (drop (n + 1) xs) u)
  turn_follows u h =
      follows_after b start whole (s, kept) (λ j. run j m body (t, kept)) (λ j. turns x (run j m body) (n + 1) all (drop (n + 1) xs)) u opened_follows
      (restart_calm Ended (s, kept) (t, kept) (λ j. run j m body (t, kept)) as_many (run_calm m body (t, kept)))
      (ap (λ z. run b z body (t, kept)) (sym same) ∙ h)

  pub turn_cut : (e : Fail) (last : Kept) → Lacks e b (t, kept) (λ j. run j k body (t, kept)) last → Lacks e b start whole last
  turn_cut Memory last c =
      cut_follows b start whole (s, kept) (λ j. after (run j m body (t, kept)) (turns x (run j m body) (n + 1) all (drop (n + 1) xs))) last opened_follows
      (cut_turn b m x body (n + 1) all (drop (n + 1) xs) (s, kept) (λ j. run j m body (t, kept)) last
      (cut_restart b (s, kept) (t, kept) (λ j. run j m body (t, kept)) last as_many
      (cut_as b (t, kept) (λ j. run j k body (t, kept)) (λ j. run j m body (t, kept)) last (λ j. ap (λ z. run j z body (t, kept)) (sym same)) c)))
  turn_cut (Met l) last c = tt

-- before a turn nothing more was written
pub turn_lacks : (b : ℕ) (m : Meanings) (x : List ℕ) (body : Items) (n all : ℕ) (vs : List Val) (s start : State) (whole : ℕ → Outcome Ended) (r : Result Ended Fail) → Follows b start whole s (λ j. turns x (run j m body) n all vs s) → Cuts r b start whole s.1
turn_lacks b m x body n all vs s start whole r f = cuts b start whole s.1 r (cut_follows b start whole s (λ j. turns x (run j m body) n all vs s) s.1 f (cut_turns b m x body n all vs s s.1 refl))

-- how many turns there are
pub all_turns : (b : ℕ) (m : Meanings) (x : List ℕ) (body : Items) (all count : ℕ) (vs : List Val) (s start : State) (kept : Kept) (e : Fail) → all ≡ count → Lacks e b start (λ j. turns x (run j m body) 0 all vs s) kept → Lacks e b start (λ j. turns x (run j m body) 0 count vs s) kept
all_turns b m x body all count vs s start kept Memory e c = cut_as b start (λ j. turns x (run j m body) 0 all vs s) (λ j. turns x (run j m body) 0 count vs s) kept (λ j. ap (λ z. turns x (run j m body) 0 z vs s) (sym e)) c
all_turns b m x body all count vs s start kept (Met l) e c = tt

module _ (b : ℕ) (m k : Meanings) (x : List ℕ) (e : Expr) (body : Items) (s t u : Scene) (kept next : Kept) (v : Val) (same : k ≡ m) (spent : spend b s ≡ Ok t) (valued : value b m e (t, kept) ≡ Ok (v, (u, next))) where
  begun : meaning b m (foreach x e body) (s, kept) ≡ (turns x (run b k body) 0 (length (loop_items v)) (loop_items v) (u, next) >>= λ r. Ok (over r.0, (left x u r.1.0, r.1.1)))
  begun =
      ap (λ z. there z kept >>= λ w. (value b m e w.1 >>= λ q. (turns x (run b m body) 0 (length (loop_items q.0)) (loop_items q.0) q.1 >>= λ r. Ok (over r.0, (left x q.1.0 r.1.0, r.1.1))))) spent
      ∙ ap (λ z. z >>= λ q. (turns x (run b m body) 0 (length (loop_items q.0)) (loop_items q.0) q.1 >>= λ r. Ok (over r.0, (left x q.1.0 r.1.0, r.1.1)))) valued
      ∙ ap (λ z. turns x (run b z body) 0 (length (loop_items v)) (loop_items v) (u, next) >>= λ r. Ok (over r.0, (left x u r.1.0, r.1.1))) (sym same)

  pub loop_ends : (r : Ended) (w : Scene) (last : Kept) → turns x (run b k body) 0 (length (loop_items v)) (loop_items v) (u, next) ≡ Ok (r, (w, last)) → meaning b m (foreach x e body) (s, kept) ≡ Ok (over r, (left x u w, last))
  loop_ends r w last h = begun ∙ ap (λ z. z >>= λ r. Ok (over r.0, (left x u r.1.0, r.1.1))) h

  pub loop_fails : (h : Fail) (last : Kept) → Fails h last (turns x (run b k body) 0 (length (loop_items v)) (loop_items v) (u, next)) → Fails h last (meaning b m (foreach x e body) (s, kept))
  loop_fails Memory last t = tt
  loop_fails (Met l) last t = begun ∙ ap (λ z. z >>= λ r. Ok (over r.0, (left x u r.1.0, r.1.1))) t

  abbrev ending : Ended × State → Outcome Ended
  ending r = Ok (over r.0, (left x u r.1.0, r.1.1))

  -- behind the list
  loop_behind : (last : Kept) → IsCut b (u, next) (λ j. turns x (run j m body) 0 (length (loop_items v)) (loop_items v) (u, next) >>= ending) last → IsCut b (s, kept) (λ j. meaning j m (foreach x e body) (s, kept)) last
  loop_behind last c =
      cut_behind (Unit {0}) b (s, kept) (λ j. spent_step j (s, kept)) (λ j w. value j m e w.1 >>= λ q. (turns x (run j m body) 0 (length (loop_items q.0)) (loop_items q.0) q.1 >>= λ r. Ok (over r.0, (left x q.1.0 r.1.0, r.1.1)))) tt (t, kept) last (spent_calm (s, kept)) (ap (λ z. there z kept) spent)
      (cut_behind Val b (t, kept) (λ j. value j m e (t, kept)) (λ j q. turns x (run j m body) 0 (length (loop_items q.0)) (loop_items q.0) q.1 >>= λ r. Ok (over r.0, (left x q.1.0 r.1.0, r.1.1))) v (u, next) last (value_calm m e (t, kept)) valued c)

  loop_leaves : (n : ℕ) (last : Kept) (o : Outcome Ended) → Leaves n last o → Leaves n last (o >>= ending)
  loop_leaves n last (Ok r) h = h
  loop_leaves n last (Err l) h = h

  pub loop_cut : (h : Fail) (last : Kept) → Lacks h b (u, next) (λ j. turns x (run j k body) 0 (length (loop_items v)) (loop_items v) (u, next)) last → Lacks h b (s, kept) (λ j. meaning j m (foreach x e body) (s, kept)) last
  loop_cut Memory last c =
      let d = cut_as b (u, next) (λ j. turns x (run j k body) 0 (length (loop_items v)) (loop_items v) (u, next)) (λ j. turns x (run j m body) 0 (length (loop_items v)) (loop_items v) (u, next)) last (λ j. ap (λ z. turns x (run j z body) 0 (length (loop_items v)) (loop_items v) (u, next)) (sym same)) c in
      loop_behind last (record { at = d.at; from = d.from; upto = d.upto; leaves = loop_leaves d.at last (turns x (run d.at m body) 0 (length (loop_items v)) (loop_items v) (u, next)) d.leaves })
  loop_cut (Met l) last c = tt

  -- behind the last turn
  pub loop_lacks : (q : Ended) (w : Scene) (last : Kept) (r : Result Ended Fail) → turns x (run b k body) 0 (length (loop_items v)) (loop_items v) (u, next) ≡ Ok (q, (w, last)) → Cuts r b (s, kept) (λ j. meaning j m (foreach x e body) (s, kept)) last
  loop_lacks q w last r h =
      cuts b (s, kept) (λ j. meaning j m (foreach x e body) (s, kept)) last r
      (loop_behind last
      (cut_behind Ended b (u, next) (λ j. turns x (run j m body) 0 (length (loop_items v)) (loop_items v) (u, next)) (λ j r. ending r) q (w, last) last
      (turns_calm x (λ j. run j m body) (run_calm m body) 0 (length (loop_items v)) (loop_items v) (u, next))
      (ap (λ z. turns x (run b z body) 0 (length (loop_items v)) (loop_items v) (u, next)) (sym same) ∙ h)
      (record { at = w.nodes; from = omega arith; upto = λ z. z; leaves = (omega arith, refl) })))
