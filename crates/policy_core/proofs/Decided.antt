-- What a policy decides.
use Rattle.std.proofs.Common.{◌≡◌, ℕ, zero, suc, ◌<◌, Bool, true, false, not, ◌&&◌, ltb, cond, List, [], ◌∷◌, length, get_or, Option, Some, None, refl, ap, ◌∙◌, sym, arith}
use Rattle.std.specs.Prelude.{slice_get, position}
use Rattle.std.specs.List.{list_any, position_or_len, Any}
use Rattle.std.specs.Str.{chars}
use Rattle.std.proofs.lemmas.List.Folds.{Any-from_list_any, list_any-from_Any}
use Rattle.std.proofs.lemmas.List.Sums.{passes_at_first, fails_before_first}
use borrow.Author.Tests.{ltb-true, ltb-false}
use Rattle.policy_core.specs.declared.policy.Decision.{Decision}
use Rattle.policy_core.specs.declared.policy.Decision.TheVariants.{Allow, Deny, NoAllow}
use Rattle.policy_core.specs.declared.policy.Policy.{Policy}
use Rattle.policy_core.specs.declared.policy.Statement.{Statement}
use Rattle.policy_core.specs.Decisions.{exactly, ignoring_case, invoke, CoversRequest, IsCovering, NoneCovers, IsFirst, Decides, action_covers, resource_covers, statement_covers, has_effect, is_covering, decision_by, decision}
use Rattle.policy_core.proofs.Drawn.{passes, drawn}

got : {A : Type 0} (xs : List A) (i : ℕ) (x d : A) → slice_get xs i ≡ Some x → get_or xs i d ≡ x
got [] i x d e = absurd (cc)
got (y ∷ ys) zero x d e = cc
got (y ∷ ys) (suc i) x d e = got ys i x d e

got_within : {A : Type 0} (xs : List A) (i : ℕ) (x : A) → slice_get xs i ≡ Some x → i < length xs
got_within [] i x e = absurd (cc)
got_within (y ∷ ys) zero x e = omega arith
got_within (y ∷ ys) (suc i) x e = omega (arith, got_within ys i x e)

some_there : {A : Type 0} (xs : List A) (i : ℕ) → i < length xs → (x : A) × (slice_get xs i ≡ Some x)
some_there [] i less = absurd (omega (arith, less))
some_there (y ∷ ys) zero less = (y, refl)
some_there (y ∷ ys) (suc i) less = some_there ys i (omega (arith, less))

-- the first place that passes, or that none does
abbrev FirstPass : {A : Type 0} → (A → Bool) → List A → Option ℕ → Type 0
FirstPass {A} p xs None = (k : ℕ) (y : A) → slice_get xs k ≡ Some y → p y ≡ false
FirstPass {A} p xs (Some i) = (x : A) × (slice_get xs i ≡ Some x) × (p x ≡ true) × ((k : ℕ) (y : A) → k < i → slice_get xs k ≡ Some y → p y ≡ false)

position_is : {A : Type 0} (p : A → Bool) (xs : List A) → FirstPass p xs (position p xs)
position_is {A = A} p xs = by_test (ltb (position_or_len p xs) (length xs)) refl
  where
    before : (k : ℕ) (y : A) → k < position_or_len p xs → slice_get xs k ≡ Some y → p y ≡ false
    before k y less e = ap p (sym (got xs k y y e)) ∙ fails_before_first p xs k y less

    by_test : (t : Bool) → ltb (position_or_len p xs) (length xs) ≡ t → FirstPass p xs (cond t (Some (position_or_len p xs)) None)
    by_test true h =
        let less = ltb-true _ _ h in
        let found = some_there xs (position_or_len p xs) less in
        (found.0, found.1, ap p (sym (got xs (position_or_len p xs) found.0 found.0 found.1)) ∙ passes_at_first p xs found.0 less, before)
    by_test false h = λ k y e. before k y (omega (arith, ltb-false _ _ h, got_within xs k y e)) e

split_and : (a b : Bool) → (a && b) ≡ true → (a ≡ true) × (b ≡ true)
split_and true b e = (refl, e)
split_and false b e = absurd (cc)

effect_is : (allow : Bool) (s : Statement) → has_effect allow s ≡ true → s.allow ≡ allow
effect_is true s e = e
effect_is false s e = by_test s.allow refl e
  where
    by_test : (t : Bool) → s.allow ≡ t → not t ≡ true → s.allow ≡ false
    by_test false h e = h
    by_test true h e = absurd (cc)

effect_passes : (allow : Bool) (s : Statement) → s.allow ≡ allow → has_effect allow s ≡ true
effect_passes true s e = e
effect_passes false s e = ap not e

-- a statement that passes the test covers
request_covered : (arn : List ℕ) (s : Statement) → statement_covers arn s ≡ true → CoversRequest arn s
request_covered arn s e =
    let both = split_and (list_any action_covers s.actions) (list_any (resource_covers arn) s.resources) e in
    let a : Any (λ x. action_covers x ≡ true) s.actions = Any-from_list_any action_covers s.actions both.0 in
    let r : Any (λ x. resource_covers arn x ≡ true) s.resources = Any-from_list_any (resource_covers arn) s.resources both.1 in
    record {
      action = a.1;
      among_actions = (a.0, a.2, a.3);
      covers_action = drawn ignoring_case (chars a.1) (chars invoke) a.4;
      resource = r.1;
      among_resources = (r.0, r.2, r.3);
      covers_name = drawn exactly (chars r.1) (chars arn) r.4;
    }

and_true : (a b : Bool) → a ≡ true → b ≡ true → (a && b) ≡ true
and_true a b e f = ap (λ t. t && b) e ∙ f

covered_passes : (arn : List ℕ) (s : Statement) → CoversRequest arn s → statement_covers arn s ≡ true
covered_passes arn s h =
    let a : Any (λ x. action_covers x ≡ true) s.actions = (h.among_actions.0, h.action, h.among_actions.1, h.among_actions.2, passes ignoring_case (chars h.action) (chars invoke) h.covers_action) in
    let r : Any (λ x. resource_covers arn x ≡ true) s.resources = (h.among_resources.0, h.resource, h.among_resources.1, h.among_resources.2, passes exactly (chars h.resource) (chars arn) h.covers_name) in
    and_true (list_any action_covers s.actions) (list_any (resource_covers arn) s.resources) (list_any-from_Any action_covers s.actions a) (list_any-from_Any (resource_covers arn) s.resources r)

covering_passes : (allow : Bool) (arn : List ℕ) (ss : List Statement) (at : ℕ) (h : IsCovering allow arn ss at) → is_covering allow arn h.statement ≡ true
covering_passes allow arn ss at h = and_true (has_effect allow h.statement) (statement_covers arn h.statement) (effect_passes allow h.statement h.effect) (covered_passes arn h.statement h.covering)

first_found : (allow : Bool) (arn : List ℕ) (ss : List Statement) (at : ℕ) → FirstPass (is_covering allow arn) ss (Some at) → IsFirst allow arn ss at
first_found allow arn ss at f =
    let both = split_and (has_effect allow f.0) (statement_covers arn f.0) f.2 in
    record {
      covering = record { statement = f.0; there = f.1; effect = effect_is allow f.0 both.0; covering = request_covered arn f.0 both.1 };
      before = λ k less h. let yes = covering_passes allow arn ss k h in let no = f.3 k h.statement less h.there in cc;
    }

none_found : (allow : Bool) (arn : List ℕ) (ss : List Statement) → FirstPass (is_covering allow arn) ss None → NoneCovers allow arn ss
none_found allow arn ss f = λ at h. let yes = covering_passes allow arn ss at h in let no = f at h.statement h.there in cc

-- what the test answers is decided
pub decides : (policy : Policy) (arn : List ℕ) → Decides policy arn (decision policy arn)
unfolding decision
decides policy arn = by_denied (position (is_covering false arn) policy.statements) (position_is (is_covering false arn) policy.statements) (position (is_covering true arn) policy.statements) (position_is (is_covering true arn) policy.statements)
  where
    by_denied : (d : Option ℕ) → FirstPass (is_covering false arn) policy.statements d → (a : Option ℕ) → FirstPass (is_covering true arn) policy.statements a → Decides policy arn (decision_by d a)
    by_denied (Some at) f a g = first_found false arn policy.statements at f
    by_denied None f (Some at) g = (none_found false arn policy.statements f, first_found true arn policy.statements at g)
    by_denied None f None g = (none_found false arn policy.statements f, none_found true arn policy.statements g)

one_first : (allow : Bool) (arn : List ℕ) (ss : List Statement) (i j : ℕ) → IsFirst allow arn ss i → IsFirst allow arn ss j → i ≡ j
one_first allow arn ss i j f g = by_test (ltb i j) (ltb j i) refl refl
  where
    by_test : (s t : Bool) → ltb i j ≡ s → ltb j i ≡ t → i ≡ j
    by_test true t h k = absurd (g.before i (ltb-true i j h) f.covering)
    by_test false true h k = absurd (f.before j (ltb-true j i k) g.covering)
    by_test false false h k = omega (arith, ltb-false i j h, ltb-false j i k)

one_decision : (policy : Policy) (arn : List ℕ) (d e : Decision) → Decides policy arn d → Decides policy arn e → d ≡ e
one_decision policy arn (Deny i) (Deny j) f g = ap (λ n. Deny n) (one_first false arn policy.statements i j f g)
one_decision policy arn (Deny i) (Allow j) f g = absurd (g.0 i f.covering)
one_decision policy arn (Deny i) NoAllow f g = absurd (g.0 i f.covering)
one_decision policy arn (Allow i) (Deny j) f g = absurd (f.0 j g.covering)
one_decision policy arn (Allow i) (Allow j) f g = ap (λ n. Allow n) (one_first true arn policy.statements i j f.1 g.1)
one_decision policy arn (Allow i) NoAllow f g = absurd (g.1 i f.1.covering)
one_decision policy arn NoAllow (Deny j) f g = absurd (f.0 j g.covering)
one_decision policy arn NoAllow (Allow j) f g = absurd (f.1 j g.1.covering)
one_decision policy arn NoAllow NoAllow f g = refl

-- and nothing else is
pub decided : (policy : Policy) (arn : List ℕ) (d : Decision) → Decides policy arn d → decision policy arn ≡ d
decided policy arn d h = one_decision policy arn (decision policy arn) d (decides policy arn) h
