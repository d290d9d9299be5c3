-- A chain of operators is the expression that is joined to the left.
use Rattle.std.proofs.Common.{◌≡◌, ℕ, List, [], ◌∷◌, refl, sym, ◌∙◌, ap, Result, Ok, Err}
use Rattle.vtl_grammar.specs.Tree.{Expr, binary}
use Rattle.vtl_words.specs.Views.{op_of}
use Rattle.vtl_grammar.specs.Expanded.{Arguments, expr_with}
use Rattle.vtl_reader.specs.Nodes.{chained}
use Rattle.vtl_reader.specs.declared.nodes.Link.{Link}
use Rattle.vtl_values.specs.Val.{Val}
use Rattle.vtl_eval.specs.Roots.{Meanings, Kept}
use Rattle.vtl_eval.specs.World.{Scene, State, Outcome, ◌>>=◌, there, spend, spent}
use Rattle.vtl_eval.specs.Meaning.{value, operated}
use Rattle.vtl_eval.specs.Evaluated.{charge, further, linked, chain}
use Rattle.vtl_eval.specs.declared.stop.Limit.{Limit}

pub assoc : {A B C : Type 0} (o : Outcome A) (f : A × State → Outcome B) (g : B × State → Outcome C) → ((o >>= f) >>= g) ≡ (o >>= λ x. (f x >>= g))
assoc (Ok x) f g = refl
assoc (Err e) f g = refl

pub same : {A : Type 0} (o : Outcome A) → o ≡ (o >>= λ v. Ok (v.0, v.1))
same (Ok x) = refl
same (Err e) = refl

there_further : {A : Type 0} (o : Result Scene Limit) (f : Scene → Result Scene Limit) (kept : Kept) (k : State → Outcome A) → (there (further o f) kept >>= λ u. k u.1) ≡ (there o kept >>= λ u. (there (f u.1.0) u.1.1 >>= λ w. k w.1))
there_further (Ok s) f kept k = refl
there_further (Err l) f kept k = refl

further_ok : (o : Result Scene Limit) → o ≡ further o (λ s. Ok s)
further_ok (Ok s) = refl
further_ok (Err l) = refl

further_assoc : (o : Result Scene Limit) (f g : Scene → Result Scene Limit) → further (further o f) g ≡ further o (λ s. further (f s) g)
further_assoc (Ok s) f g = refl
further_assoc (Err l) f g = refl

-- a node more at the end is a node more at the beginning
swap : (b : ℕ) (ls : List Link) (s : Scene) → further (charge b ls s) (spend b) ≡ further (spend b s) (charge b ls)
swap b [] s = further_ok (spend b s)
swap b (l ∷ ls) s = further_assoc (spend b s) (charge b ls) (spend b) ∙ ap (further (spend b s)) (λ j z. swap b ls z j)

module _ (b : ℕ) (m : Meanings) (f : ℕ → Expr) where
  pub chain_value : (x : Expr) (ls : List Link) (s : State) → value b m (chained f x ls) s ≡ chain b m f x ls s
  chain_value x [] s = same (value b m x s)
  chain_value x (l ∷ ls) s =
      chain_value (binary (op_of l.operator) x (f l.operand)) ls s
      ∙ ap (λ g. there (charge b ls s.0) s.1 >>= g) (λ j u. assoc (spent b u.1) (λ w. body w.1) rest j)
      ∙ sym (there_further (charge b ls s.0) (spend b) s.1 (λ z. body z >>= rest))
      ∙ ap (λ o. there o s.1 >>= λ u. (body u.1 >>= rest)) (swap b ls s.0)
      ∙ ap (λ g. there (charge b (l ∷ ls) s.0) s.1 >>= g) (λ j u. assoc (value b m x u.1) (λ p. operated (op_of l.operator) p.0 (value b m (f l.operand)) p.1) rest j)
    where
      body : State → Outcome Val
      body z = value b m x z >>= λ p. operated (op_of l.operator) p.0 (value b m (f l.operand)) p.1

      rest : Val × State → Outcome Val
      rest v = linked b m f ls v.0 v.1

-- a chain in which arguments stand for parameters
chained_with : (a : Arguments) (f : ℕ → Expr) (x : Expr) (ls : List Link) → expr_with a (chained f x ls) ≡ chained (λ k. expr_with a (f k)) (expr_with a x) ls
chained_with a f x [] = refl
chained_with a f x (l ∷ ls) = chained_with a f (binary (op_of l.operator) x (f l.operand)) ls

pub chain_seen : (b : ℕ) (m : Meanings) (a : Arguments) (f : ℕ → Expr) (x : Expr) (ls : List Link) (s : State) → value b m (expr_with a (chained f x ls)) s ≡ chain b m (λ k. expr_with a (f k)) (expr_with a x) ls s
chain_seen b m a f x ls s = ap (λ z. value b m z s) (chained_with a f x ls) ∙ chain_value b m (λ k. expr_with a (f k)) (expr_with a x) ls s
