-- What stands before the rest of a text, as a function of that rest.
use Rattle.std.proofs.Common.{◌≡◌, ℕ, List, [], ◌∷◌, ◌++◌, refl, sym, ap, ◌∙◌, append_assoc, append-nil}

-- a front that goes before any rest
pub record Lead : Type 0 where
  pub put : List ℕ → List ℕ
  pub joins : (x : List ℕ) → put x ≡ put [] ++ x

abbrev pub none : Lead
none = record { put = λ x. x; joins = λ x. refl }

abbrev pub one : ℕ → Lead
one b = record { put = λ x. b ∷ x; joins = λ x. refl }

pub both_join : (a b : Lead) (x : List ℕ) → a.put (b.put x) ≡ a.put (b.put []) ++ x
both_join a b x = a.joins (b.put x) ∙ ap (λ z. a.put [] ++ z) (b.joins x) ∙ sym (append_assoc (a.put []) (b.put []) x) ∙ ap (λ z. z ++ x) (sym (a.joins (b.put [])))

infixr 20 ◌then◌
abbrev pub ◌then◌ : Lead → Lead → Lead
a then b = record { put = λ x. a.put (b.put x); joins = both_join a b }

pub front_joins : (c x : List ℕ) → c ++ x ≡ (c ++ []) ++ x
front_joins c x = ap (λ z. z ++ x) (sym (append-nil c))

abbrev pub put_front : List ℕ → Lead
put_front c = record { put = λ x. c ++ x; joins = front_joins c }
