-- What is known in the middle of items, and behind the items of a branch.
use Rattle.std.proofs.Common.{◌≡◌, ℕ, zero, suc, ◌-◌, ◌<◌, List, [], ◌∷◌, ◌++◌, length, refl, sym, ap, ◌∙◌, arith, append_assoc, subst}
use Rattle.std.specs.Prelude.{Result, Ok, Err}
use Rattle.vtl_grammar.specs.declared.fault.Fault.{Fault}
use Rattle.vtl_grammar.specs.declared.fault.Fault.TheVariants.{Unclosed}
use Rattle.vtl_grammar.specs.Faults.{◌>>=◌}
use Rattle.vtl_grammar.specs.Loops.{folded, first, Turn, last, more, gather, gather_on}
use Rattle.vtl_grammar.specs.Lines.{Spot}
use Rattle.vtl_grammar.specs.Tree as tree
use Rattle.vtl_grammar.specs.Tree.{Expr, Item, Items, item, no_items}
use Rattle.vtl_grammar.specs.Items as says
use Rattle.vtl_grammar.specs.Items.{Block, Around, branch_turn, branch_end, body, else_around, with_items, text_item}
use Rattle.vtl_reader.specs.declared.error.ReadError.{ReadError}
use Rattle.vtl_reader.specs.declared.error.ReadError.TheVariants as errors
use Rattle.vtl_reader.specs.declared.blocks.ItemTurn.{ItemTurn}
use Rattle.vtl_reader.specs.declared.blocks.BranchTurn.{BranchTurn}
use Rattle.vtl_reader.specs.declared.blocks.Stop.{Stop}
use Rattle.vtl_reader.specs.declared.blocks.Stop.TheVariants as stops
use Rattle.vtl_reader.specs.Views.{Fails, joined}
use Rattle.vtl_reader.specs.Nodes.{Nodes, Keeps}
use Rattle.vtl_reader.specs.Blocks.{stop_of, StopStands, TurnStands, BranchStands}

pub text_item_some : (t : List ℕ) → 0 < length t → text_item t ≡ tree.text t ∷ []
text_item_some [] h = absurd (omega (arith, h))
text_item_some (b ∷ t) h = refl

folded_append : {A C : Type 0} (c : A → C → C) (b : C) (xs ys : List A) → folded c b (xs ++ ys) ≡ folded c (folded c b ys) xs
folded_append c b [] ys = refl
folded_append c b (x ∷ xs) ys = ap (c x) (folded_append c b xs ys)

module _ {R S : Type 0} (one : S → Result (Turn (List Item) (Items × R) S) Fault) where
  once : (n : ℕ) (s : S) → 0 < n → gather (first with_items) one n s ≡ (one s >>= gather_on (first with_items) (gather (first with_items) one (n - 1)))
  unfolding gather
  once zero s h = absurd (omega (arith, h))
  once (suc n) s h = let e : n ≡ suc n - 1 = omega arith in ap (λ m. one s >>= gather_on (first with_items) (gather (first with_items) one m)) e

  joined_append : (xs ys : List Item) (r : Result (Items × R) Fault) → joined item xs (r >>= λ b. Ok (first with_items ys b)) ≡ joined item (xs ++ ys) r
  joined_append xs ys (Ok b) = ap (λ z. Ok (z, b.1)) (sym (folded_append item b.0 xs ys))
  joined_append xs ys (Err f) = refl

  module _ (n : ℕ) (s : S) (xs : List Item) (target : Result (Items × R) Fault) (so_far : joined item xs (gather (first with_items) one n s) ≡ target) where
    met : (r : Result (Turn (List Item) (Items × R) S) Fault) → 0 < n → one s ≡ r → joined item xs (r >>= gather_on (first with_items) (gather (first with_items) one (n - 1))) ≡ target
    met r left e = ap (λ z. joined item xs (z >>= gather_on (first with_items) (gather (first with_items) one (n - 1)))) (sym e) ∙ ap (joined item xs) (sym (once n s left)) ∙ so_far

    pub at_fault : (f : Fault) → 0 < n → one s ≡ Err f → target ≡ Err f
    at_fault f left e = sym (met (Err f) left e)

    pub at_error : (e : ReadError) → 0 < n → Fails e (one s) → Fails e target
    at_error errors.Memory left e = tt
    at_error (errors.Met f) left e = at_fault f left e

    pub at_last : (ys : List Item) (r : R) → 0 < n → one s ≡ Ok (last (with_items ys no_items, r)) → target ≡ Ok (with_items (xs ++ ys) no_items, r)
    at_last ys r left e = sym (met (Ok (last (with_items ys no_items, r))) left e) ∙ ap (λ z. Ok (z, r)) (sym (folded_append item no_items xs ys))

    pub at_more : (ys : List Item) (t : S) → 0 < n → one s ≡ Ok (more ys t) → joined item (xs ++ ys) (gather (first with_items) one (n - 1) t) ≡ target
    at_more ys t left e = sym (joined_append xs ys (gather (first with_items) one (n - 1) t)) ∙ met (Ok (more ys t)) left e

    pub at_none : n ≡ 0 → target ≡ Err (Unclosed 0)
    unfolding gather
    at_none e = sym so_far ∙ ap (λ m. joined item xs (gather (first with_items) one m s)) e

  pub at_start : (n : ℕ) (s : S) → joined item [] (gather (first with_items) one n s) ≡ gather (first with_items) one n s
  at_start n s = same (gather (first with_items) one n s)
    where
      same : (r : Result (Items × R) Fault) → joined item [] r ≡ r
      same (Ok b) = refl
      same (Err f) = refl

-- a text's item and another, behind those before
pub after_text : (xs ys : List Item) (i : Item) → (xs ++ ys) ++ i ∷ [] ≡ xs ++ (ys ++ i ∷ [])
after_text xs ys i = append_assoc xs ys (i ∷ [])

-- a branch whose items end at an `#else`
pub branch_else : (block : Block) (a : Around) (e : Expr) (s t u : Spot) (is os : Items) → block a s ≡ Ok (is, says.Else t) → body block (else_around a) t ≡ Ok (os, u) → branch_turn block a (e, s) ≡ Ok (last (tree.branch e is (tree.otherwise os), u))
branch_else block a e s t u is os h k =
    ap (λ z. z >>= branch_end block a e) h ∙ ap (λ z. z >>= λ o. Ok (last (tree.branch e is (tree.otherwise o.0), o.1))) k

pub stop_kept : (old new : Nodes) (s : Stop) → Keeps old new → StopStands old s → stop_of new s ≡ stop_of old s
stop_kept old new stops.Finish p h = refl
stop_kept old new (stops.Else line rest) p h = refl
stop_kept old new (stops.ElseIf k line rest) p h = ap (λ z. says.ElseIf z (line, rest.now)) (p.same_exprs k h.0)
stop_kept old new (stops.End line rest) p h = refl

pub branch_stands : (ns : Nodes) (t u : BranchTurn) → t ≡ u → BranchStands ns t → BranchStands ns u
branch_stands ns t u e h = let P : BranchTurn → Type 0 = λ z. BranchStands ns z in subst P e h

pub turn_stands : (ns : Nodes) (t u : ItemTurn) → t ≡ u → TurnStands ns t → TurnStands ns u
turn_stands ns t u e h = let P : ItemTurn → Type 0 = λ z. TurnStands ns z in subst P e h
