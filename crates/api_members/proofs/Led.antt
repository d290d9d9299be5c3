-- Which references come back: the test agrees with the relation.
use Rattle.std.proofs.Common.{◌≡◌, ℕ, zero, suc, ◌+◌, ◌<◌, ◌≤◌, Bool, true, false, List, [], ◌∷◌, length, Option, Some, None, Ok, Err, refl, sym, ap, ◌∙◌, subst, arith, ◌⊎◌, inl, inr, eqb, ltb}
use Rattle.std.specs.Prelude.{◌==◌, ◌&&◌, ◌||◌, Result, slice_get}
use Rattle.std.specs.List.{list_any}
use borrow.Author.Tests.{eqb-true, eqb-false, ltb-true, ltb-false}
use Rattle.std.proofs.lemmas.Bool.Decides.{nat_tests}
use Rattle.schema_order.specs.Leads.{Leads, IsAmong, here, behind, arrived, onward, edges_of, or_empty}
use Rattle.schema_rules.specs.Rules.{Schemas, target}
use Rattle.schema_draft4.specs.Cycles.{Reference, ComesBack, ComesBackBy, FirstBack, comes_back as first_comes, goes_on as first_goes_on, NoneBack, reading_order, steps, target_name, up_from}
use Rattle.schema_draft4.specs.Reading.{Fault, definitions_of}
use Rattle.json_subset.specs.Tree.{Tree}
use Rattle.api_parts.specs.Reading.{here as at_value}
use Rattle.api_parts.specs.declared.fault.ApiCause.TheVariants.{Model}
use Rattle.api_parts.specs.declared.fault.ModelFault.TheVariants as model
use Rattle.api_members.specs.Models.{comes_back, first_back, leads_by, model_by, stands_on, unless_back}

-- one of the two
either : (a b : Bool) → (a || b) ≡ true → (a ≡ true) ⊎ (b ≡ true)
either true b h = inl refl
either false b h = inr h

both : (a b : Bool) → (a && b) ≡ true → (a ≡ true) × (b ≡ true)
both true b h = (refl, h)
both false b h = cc

or_left : (a b : Bool) → a ≡ true → (a || b) ≡ true
or_left true b h = refl
or_left false b h = cc

or_right : (a b : Bool) → b ≡ true → (a || b) ≡ true
or_right true b h = refl
or_right false b h = h

and_both : (a b : Bool) → a ≡ true → b ≡ true → (a && b) ≡ true
and_both true b h k = k
and_both false b h k = cc

same_number : (a : ℕ) → eqb a a ≡ true
same_number a = grind (arith, nat_tests)

among_found : (c : ℕ) (xs : List ℕ) → list_any (λ x. c == x) xs ≡ true → IsAmong c xs
among_found c [] h = cc
among_found c (x ∷ xs) h = by_test (eqb c x) refl (either (eqb c x) (list_any (λ x. c == x) xs) h) (among_found c xs)
  where
    by_test : (t : Bool) → eqb c x ≡ t → (eqb c x ≡ true) ⊎ (list_any (λ x. c == x) xs ≡ true) → (list_any (λ x. c == x) xs ≡ true → IsAmong c xs) → IsAmong c (x ∷ xs)
    by_test t e (inl is) more = subst (λ y. IsAmong c (y ∷ xs)) (eqb-true c x is) (here c xs)
    by_test t e (inr is) more = behind c x xs (more is)

among_is : (c : ℕ) (xs : List ℕ) → IsAmong c xs → list_any (λ x. c == x) xs ≡ true
among_is c xs (here d ds) = or_left (eqb d d) (list_any (λ x. d == x) ds) (same_number d)
among_is c xs (behind d x ds h) = or_right (eqb d x) (list_any (λ x. d == x) ds) (among_is d ds h)

-- paths that meet
led_on : (es : List (List ℕ)) (a b c : ℕ) → Leads es a b → Leads es b c → Leads es a c
led_on es a b c (arrived k) next = next
led_on es a b c (onward j d m h more) next = onward j d c h (led_on es d m c more next)

-- what the test finds, leads there
pub found_leads : (es : List (List ℕ)) (ks : List ℕ) (a c : ℕ) → leads_by es ks a c ≡ true → Leads es a c
found_leads es [] a c h = by_case (either (eqb a c) (stands_on es a c) h)
  where
    by_case : (eqb a c ≡ true) ⊎ (stands_on es a c ≡ true) → Leads es a c
    by_case (inl is) = subst (Leads es a) (eqb-true a c is) (arrived a)
    by_case (inr is) = onward a c c (among_found c (edges_of es a) is) (arrived c)
found_leads es (k ∷ ks) a c h = by_case (either (leads_by es ks a c) (leads_by es ks a k && leads_by es ks k c) h) (found_leads es ks a c) (found_leads es ks a k) (found_leads es ks k c)
  where
    by_case : (leads_by es ks a c ≡ true) ⊎ ((leads_by es ks a k && leads_by es ks k c) ≡ true) → (leads_by es ks a c ≡ true → Leads es a c) → (leads_by es ks a k ≡ true → Leads es a k) → (leads_by es ks k c ≡ true → Leads es k c) → Leads es a c
    by_case (inl is) direct first second = direct is
    by_case (inr is) direct first second = let x = both (leads_by es ks a k) (leads_by es ks k c) is in led_on es a k c (first x.0) (second x.1)

-- a step is found
step_found : (es : List (List ℕ)) (ks : List ℕ) (a c : ℕ) → IsAmong c (edges_of es a) → leads_by es ks a c ≡ true
step_found es [] a c h = or_right (eqb a c) (stands_on es a c) (among_is c (edges_of es a) h)
step_found es (k ∷ ks) a c h = or_left (leads_by es ks a c) (leads_by es ks a k && leads_by es ks k c) (step_found es ks a c h)

none_found : (es : List (List ℕ)) (ks : List ℕ) (a : ℕ) → leads_by es ks a a ≡ true
none_found es [] a = or_left (eqb a a) (stands_on es a a) (same_number a)
none_found es (k ∷ ks) a = or_left (leads_by es ks a a) (leads_by es ks a k && leads_by es ks k a) (none_found es ks a)

to_last : (es : List (List ℕ)) (ks : List ℕ) (a k : ℕ) → (leads_by es ks a k ≡ true) ⊎ ((leads_by es ks a k && leads_by es ks k k) ≡ true) → leads_by es ks a k ≡ true
to_last es ks a k (inl is) = is
to_last es ks a k (inr is) = (both (leads_by es ks a k) (leads_by es ks k k) is).0

from_last : (es : List (List ℕ)) (ks : List ℕ) (k c : ℕ) → (leads_by es ks k c ≡ true) ⊎ ((leads_by es ks k k && leads_by es ks k c) ≡ true) → leads_by es ks k c ≡ true
from_last es ks k c (inl is) = is
from_last es ks k c (inr is) = (both (leads_by es ks k k) (leads_by es ks k c) is).1

-- paths that meet at the first of these
meet : (es : List (List ℕ)) (ks : List ℕ) (a k c : ℕ) → leads_by es (k ∷ ks) a k ≡ true → leads_by es (k ∷ ks) k c ≡ true → leads_by es (k ∷ ks) a c ≡ true
meet es ks a k c first second =
    let x : leads_by es ks a k ≡ true = to_last es ks a k (either (leads_by es ks a k) (leads_by es ks a k && leads_by es ks k k) first) in
    let y : leads_by es ks k c ≡ true = from_last es ks k c (either (leads_by es ks k c) (leads_by es ks k k && leads_by es ks k c) second) in
    or_right (leads_by es ks a c) (leads_by es ks a k && leads_by es ks k c) (and_both (leads_by es ks a k) (leads_by es ks k c) x y)

-- paths that meet at another, each round the first or through it
split : (es : List (List ℕ)) (ks : List ℕ) (a b c k : ℕ) → (leads_by es ks a b ≡ true) ⊎ ((leads_by es ks a k && leads_by es ks k b) ≡ true) → (leads_by es ks b c ≡ true) ⊎ ((leads_by es ks b k && leads_by es ks k c) ≡ true)
    → (leads_by es ks a b ≡ true → leads_by es ks b c ≡ true → leads_by es ks a c ≡ true)
    → (leads_by es ks a b ≡ true → leads_by es ks b k ≡ true → leads_by es ks a k ≡ true)
    → (leads_by es ks k b ≡ true → leads_by es ks b c ≡ true → leads_by es ks k c ≡ true)
    → leads_by es (k ∷ ks) a c ≡ true
split es ks a b c k (inl p) (inl q) direct to from = or_left (leads_by es ks a c) (leads_by es ks a k && leads_by es ks k c) (direct p q)
split es ks a b c k (inl p) (inr q) direct to from = let y = both (leads_by es ks b k) (leads_by es ks k c) q in
    or_right (leads_by es ks a c) (leads_by es ks a k && leads_by es ks k c) (and_both (leads_by es ks a k) (leads_by es ks k c) (to p y.0) y.1)
split es ks a b c k (inr p) (inl q) direct to from = let x = both (leads_by es ks a k) (leads_by es ks k b) p in
    or_right (leads_by es ks a c) (leads_by es ks a k && leads_by es ks k c) (and_both (leads_by es ks a k) (leads_by es ks k c) x.0 (from x.1 q))
split es ks a b c k (inr p) (inr q) direct to from = let x = both (leads_by es ks a k) (leads_by es ks k b) p in let y = both (leads_by es ks b k) (leads_by es ks k c) q in
    or_right (leads_by es ks a c) (leads_by es ks a k && leads_by es ks k c) (and_both (leads_by es ks a k) (leads_by es ks k c) x.0 y.1)

-- paths that meet at one of these are found
through : (es : List (List ℕ)) (all : List ℕ) (a b c : ℕ) → IsAmong b all → leads_by es all a b ≡ true → leads_by es all b c ≡ true → leads_by es all a c ≡ true
through es all a b c (here k ks) first second = meet es ks a k c first second
through es all a b c (behind d k ks h) first second =
    split es ks a d c k (either (leads_by es ks a d) (leads_by es ks a k && leads_by es ks k d) first) (either (leads_by es ks d c) (leads_by es ks d k && leads_by es ks k c) second)
    (through es ks a d c h) (through es ks a d k h) (through es ks k d c h)

-- the numbers from one on
up_among : (from n k : ℕ) → from ≤ k → k < from + n → IsAmong k (up_from from n)
up_among from zero k low high = absurd (omega (arith, low, high))
up_among from (suc n) k low high = by_test (eqb from k) refl (λ more. up_among (suc from) n k more (omega (arith, high)))
  where
    by_test : (t : Bool) → eqb from k ≡ t → (suc from ≤ k → IsAmong k (up_from (suc from) n)) → IsAmong k (up_from from (suc n))
    by_test true e more = subst (λ y. IsAmong k (y ∷ up_from (suc from) n)) (sym (eqb-true from k e)) (here k (up_from (suc from) n))
    by_test false e more = behind k from (up_from (suc from) n) (more (apart (eqb-false from k e)))
      where
        apart : (from ≡ k → ⊥) → suc from ≤ k
        apart other = omega (arith, low, other)

no_edges : (es : List (List ℕ)) (k : ℕ) → length es ≤ k → edges_of es k ≡ []
no_edges [] k h = refl
no_edges (xs ∷ es) zero h = absurd (omega (arith, h))
no_edges (xs ∷ es) (suc k) h = no_edges es k (omega (arith, h))

HasSome : List ℕ → Type 0
HasSome [] = ⊥
HasSome (x ∷ xs) = Unit {0}

among_some : (b : ℕ) (xs : List ℕ) → IsAmong b xs → HasSome xs
unfolding HasSome
among_some b xs (here c cs) = tt
among_some b xs (behind c x cs h) = tt

none_among : (b : ℕ) (xs : List ℕ) → xs ≡ [] → IsAmong b xs → ⊥
unfolding HasSome
none_among b xs e h = subst HasSome e (among_some b xs h)

-- what nothing leads out of, leads to itself alone
last_found : (es : List (List ℕ)) (a b c : ℕ) → IsAmong b (edges_of es a) → edges_of es b ≡ [] → Leads es b c → leads_by es (up_from 0 (length es)) a c ≡ true
last_found es a b c h none (arrived k) = step_found es (up_from 0 (length es)) a k h
last_found es a b c h none (onward j d m g rest) = absurd (none_among d (edges_of es j) none g)

onward_found : (es : List (List ℕ)) (a b c : ℕ) → IsAmong b (edges_of es a) → Leads es b c → leads_by es (up_from 0 (length es)) b c ≡ true → leads_by es (up_from 0 (length es)) a c ≡ true
onward_found es a b c h more found = by_test (ltb b (length es)) refl
  where
    by_test : (t : Bool) → ltb b (length es) ≡ t → leads_by es (up_from 0 (length es)) a c ≡ true
    by_test true e = through es (up_from 0 (length es)) a b c (up_among 0 (length es) b (omega arith) (omega (arith, ltb-true b (length es) e))) (step_found es (up_from 0 (length es)) a b h) found
    by_test false e = last_found es a b c h (no_edges es b (ltb-false b (length es) e)) more

-- what leads there, is found
pub leads_found : (es : List (List ℕ)) (a c : ℕ) → Leads es a c → leads_by es (up_from 0 (length es)) a c ≡ true
leads_found es a c (arrived k) = none_found es (up_from 0 (length es)) k
leads_found es a c (onward j b m h more) = onward_found es j b m h more (leads_found es b m more)

-- references
back_found : (ss : Schemas) (r : Reference) → ComesBack ss r → comes_back ss r ≡ true
unfolding comes_back
back_found ss r h = leads_found (steps ss) (target ss r.1) r.0 h

not_back : (ss : Schemas) (r : Reference) → (ComesBack ss r → ⊥) → comes_back ss r ≡ false
unfolding comes_back
not_back ss r h = by_test (leads_by (steps ss) (up_from 0 (length (steps ss))) (target ss r.1) r.0) refl
  where
    by_test : (t : Bool) → leads_by (steps ss) (up_from 0 (length (steps ss))) (target ss r.1) r.0 ≡ t → t ≡ false
    by_test true e = absurd (h (found_leads (steps ss) (up_from 0 (length (steps ss))) (target ss r.1) r.0 e))
    by_test false e = refl

first_none : (ss : Schemas) (rs : List Reference) → NoneBack ss rs → first_back ss rs ≡ None
first_none ss [] h = refl
first_none ss (r ∷ rs) h = rw (not_back ss r h.0) (first_none ss rs h.1)

first_some : (ss : Schemas) (rs : List Reference) (t : ℕ) → FirstBack ss rs t → first_back ss rs ≡ Some t
first_some ss all t (first_comes k u rs h) = rw (back_found ss (k, u) h) refl
first_some ss all t (first_goes_on r u rs h more) = rw (not_back ss r h) (first_some ss rs u more)

-- what a model is read as
pub none_back : (t : Tree) (s : Schemas × ℕ) (r : Result (Schemas × ℕ) Fault) → r ≡ Ok s → NoneBack s.0 (reading_order s.0) → model_by t r ≡ Ok s
none_back t s r e h = ap (model_by t) e ∙ ap (unless_back t s) (first_none s.0 (reading_order s.0) h)

pub cycle_back : (t : Tree) (s : Schemas × ℕ) (r : Result (Schemas × ℕ) Fault) (x : List ℕ) → r ≡ Ok s → ComesBackBy s.0 (definitions_of t) x → model_by t r ≡ Err (at_value (Model (model.RefCycle x)))
cycle_back t s r x e h = ap (model_by t) e ∙ ap (unless_back t s) (first_some s.0 (reading_order s.0) h.target h.first) ∙ ap (λ y. Err (at_value (Model (model.RefCycle y)))) (sym h.names)
