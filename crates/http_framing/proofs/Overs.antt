-- What is shown of what is held is shown of all that is left.
use Rattle.std.proofs.Common.{arith, ◌≡◌, ◌≤◌, ℕ, zero, suc, Bool, true, false, ◌||◌, List, [], ◌∷◌, ◌++◌, drop, refl, sym, ap, ◌∙◌, subst, append_assoc, append-nil, Option, Some, None}
use Rattle.std.specs.Io.KnownBytes.{Consumes, Keeps, IsAtEnd}
use Rattle.std.specs.List.{list_any}
use Rattle.http_framing.specs.Stream.{SameBytes, Takes, Over}

-- what is taken, and then more
pub takes_both : (x y z : Option (List ℕ)) → Takes x y → Takes y z → Takes x z
takes_both None y z a b = tt
takes_both (Some xs) None z a b = absurd a
takes_both (Some xs) (Some ys) None a b = b
takes_both (Some xs) (Some ys) (Some zs) (t, e) (u, f) = (t ++ u, e ∙ ap (λ l. t ++ l) f ∙ sym (append_assoc t u zs))

pub takes_none : (x : Option (List ℕ)) → Takes x x
takes_none None = tt
takes_none (Some xs) = ([], refl)

pub takes_consumed : (x y : Option (List ℕ)) (bs : List ℕ) → Consumes x y bs → Takes x y
takes_consumed None y bs h = tt
takes_consumed (Some xs) None bs h = h
takes_consumed (Some xs) (Some ys) bs h = (bs, h)

pub takes_kept : (x y : Option (List ℕ)) → Keeps x y → Takes x y
takes_kept None y h = tt
takes_kept (Some xs) None h = h
takes_kept (Some xs) (Some ys) h = ([], sym h)

-- one more read
pub same_more : (old : List ℕ) (x y : Option (List ℕ)) (bs new : List ℕ) → Consumes x y bs → new ≡ old ++ bs → SameBytes old x new y
same_more old None y bs new took e = tt
same_more old (Some xs) None bs new took e = took
same_more old (Some xs) (Some ys) bs new took e =
    ap (λ l. l ++ ys) e ∙ append_assoc old bs ys ∙ ap (λ l. old ++ l) (sym took)

pub same_both : (old mid new : List ℕ) (x y z : Option (List ℕ)) → SameBytes old x mid y → SameBytes mid y new z → SameBytes old x new z
same_both old mid new None y z a b = tt
same_both old mid new (Some xs) None z a b = absurd a
same_both old mid new (Some xs) (Some ys) None a b = b
same_both old mid new (Some xs) (Some ys) (Some zs) a b = b ∙ a

pub same_kept : (old : List ℕ) (mid new : List ℕ) (x y z : Option (List ℕ)) → SameBytes old x mid y → new ≡ mid → Keeps y z → SameBytes old x new z
same_kept old mid new None y z a e k = tt
same_kept old mid new (Some xs) None z a e k = absurd a
same_kept old mid new (Some xs) (Some ys) None a e k = k
same_kept old mid new (Some xs) (Some ys) (Some zs) a e k = ap (λ l. l ++ zs) e ∙ ap (λ l. mid ++ l) k ∙ a

-- true whatever is left, and so of what is left
pub over : {R : Type 0} (P : List ℕ → List ℕ → List ℕ → R → Type 0) (old : List ℕ) (x : Option (List ℕ)) (held new : List ℕ) (y : Option (List ℕ)) (result : R)
    → SameBytes old x held y → ((ys : List ℕ) → P (held ++ ys) new ys result) → Over P old x new y result
over P old None held new y result same h = tt
over P old (Some xs) held new None result same h = same
over P old (Some xs) held new (Some ys) result same h = let Q : List ℕ → Type 0 = λ l. P l new ys result in subst Q same (h ys)

-- true at the end
pub over_end : {R : Type 0} (P : List ℕ → List ℕ → List ℕ → R → Type 0) (old : List ℕ) (x : Option (List ℕ)) (held new : List ℕ) (y : Option (List ℕ)) (result : R)
    → SameBytes old x held y → IsAtEnd y → P held new [] result → Over P old x new y result
over_end P old None held new y result same at_end h = tt
over_end P old (Some xs) held new None result same at_end h = same
over_end P old (Some xs) held new (Some ys) result same at_end h =
    let Q : List ℕ → Type 0 = λ l. P l new ys result in
    let T : List ℕ → Type 0 = λ l. P held new l result in
    subst Q (sym (append-nil held) ∙ ap (λ l. held ++ l) (sym at_end) ∙ same) (subst T (sym at_end) h)

-- true of all bytes
pub over_any : {R : Type 0} (P : List ℕ → List ℕ → List ℕ → R → Type 0) (old : List ℕ) (x : Option (List ℕ)) (new : List ℕ) (y : Option (List ℕ)) (result : R)
    → Takes x y → ((all ys : List ℕ) → P all new ys result) → Over P old x new y result
over_any P old None new y result told h = tt
over_any P old (Some xs) new None result told h = absurd told
over_any P old (Some xs) new (Some ys) result told h = h (old ++ xs) ys

-- one step after the other
pub over_both : {A B C : Type 0} (P : List ℕ → List ℕ → List ℕ → A → Type 0) (Q : List ℕ → List ℕ → List ℕ → B → Type 0) (T : List ℕ → List ℕ → List ℕ → C → Type 0)
    (old : List ℕ) (x : Option (List ℕ)) (mid : List ℕ) (y : Option (List ℕ)) (new : List ℕ) (z : Option (List ℕ)) (a : A) (b : B) (c : C)
    → Over P old x mid y a → Over Q mid y new z b → ((all m l n k : List ℕ) → P all m l a → Q (m ++ l) n k b → T all n k c) → Over T old x new z c
over_both P Q T old None mid y new z a b c p q h = tt
over_both P Q T old (Some xs) mid None new z a b c p q h = absurd p
over_both P Q T old (Some xs) mid (Some ys) new None a b c p q h = q
over_both P Q T old (Some xs) mid (Some ys) new (Some zs) a b c p q h = h (old ++ xs) mid ys new zs p q

pub over_to : {A C : Type 0} (P : List ℕ → List ℕ → List ℕ → A → Type 0) (T : List ℕ → List ℕ → List ℕ → C → Type 0)
    (old : List ℕ) (x : Option (List ℕ)) (mid : List ℕ) (y : Option (List ℕ)) (a : A) (c : C)
    → Over P old x mid y a → ((all m l : List ℕ) → P all m l a → T all m l c) → Over T old x mid y c
over_to P T old None mid y a c p h = tt
over_to P T old (Some xs) mid None a c p h = p
over_to P T old (Some xs) mid (Some ys) a c p h = h (old ++ xs) mid ys p

-- what is among later bytes is among all
any_all : (p : ℕ → Bool) (xs : List ℕ) (a : ℕ) → list_any p (drop a xs) ≡ true → list_any p xs ≡ true
any_all p xs zero h = h
any_all p [] (suc a) h = h
any_all p (x ∷ xs) (suc a) h = (elim (p x) as (λ t. (t || list_any p xs) ≡ true) [
  | true ↦ refl
  | false ↦ any_all p xs a h
])

pub any_later : (p : ℕ → Bool) (xs : List ℕ) (a b : ℕ) → b ≤ a → list_any p (drop a xs) ≡ true → list_any p (drop b xs) ≡ true
any_later p xs a zero le h = any_all p xs a h
any_later p xs zero (suc b) le h = absurd (omega (arith, le))
any_later p [] (suc a) (suc b) le h = h
any_later p (x ∷ xs) (suc a) (suc b) le h = any_later p xs a b (omega (arith, le)) h
