-- The counts that are kept, by the receipts that are charged to the period.
use Rattle.std.proofs.Common.{◌≡◌, ◌∙◌, sym, ap, subst, refl, ℕ, ◌+◌, ◌==◌, ◌≤◌, ◌<◌, Bool, true, false, ◌||◌, List, [], ◌∷◌, Option, Some, None, is_none, option_map, cond, IfSome, arith}
use Rattle.usage_meter.specs.declared.period.TheConstants.{YEAR_2100}
use Rattle.usage_meter.specs.declared.period.Period.{Period}
use Rattle.usage_meter.specs.declared.period.PeriodKind.{PeriodKind}
use Rattle.usage_meter.specs.declared.allowance.Quota.{Quota}
use Rattle.usage_meter.specs.declared.allowance.Allowance.{Allowance}
use Rattle.usage_meter.specs.Periods.{number_at, period_at, is_standing}
use Rattle.usage_meter.specs.Allowances.{opened_allowance, allowance_at}
use Rattle.usage_meter.proofs.PeriodLemmas.{numbers_in_order}
use Rattle.usage_plans.specs.Tallies.{one_used, more_allowed}
use Rattle.usage_plans.specs.Deeds.{Account, What, Receipt, terms_by, same_period, is_of, own_by, period_by, is_open, used_by, opens_with, allowed_by, first_by, counts_of, standing_by}
use Rattle.usage_plans.specs.Deeds.What.{admission, granted, revised}
use Rattle.usage_plans.specs.Laws.{IsOpened}
use Rattle.usage_plans.specs.declared.terms.Terms.{Terms}
use Rattle.usage_plans.proofs.Counting.{same-itself, same-period, unused, allowed-unopened, allowed-open}

-- The row's own period is the one that was charged last, with its counts; every other that was opened is over.
pub record CountShown (opening : Account) (own : Allowance) (rs : List Receipt) (x : ℕ) : Type 0 where
  pub period : own.period ≡ own_by opening rs
  pub first : own.first ≡ first_by opening rs
  pub allowed : IfSome (own_by opening rs) (λ p. own.allowance ≡ allowed_by opening rs p)
  pub used : IfSome (own_by opening rs) (λ p. own.used ≡ used_by opening rs p)
  pub opened : IfSome (own_by opening rs) (λ p. is_open opening rs p ≡ true)
  pub begun : IfSome (own_by opening rs) (λ p. p.number ≤ number_at p.kind x)
  pub past : (p : Period) → is_open opening rs p ≡ true → is_of p (own_by opening rs) ≡ false → p.number < number_at p.kind x

allowance-same : (a b : Allowance) → a.period ≡ b.period → a.allowance ≡ b.allowance → a.used ≡ b.used → a.first ≡ b.first → a ≡ b
allowance-same a b p m u f =
    ap (λ i. record a { period = i }) p ∙ ap (λ i. record a { period = b.period; allowance = i }) m
    ∙ ap (λ i. record a { period = b.period; allowance = b.allowance; used = i }) u
    ∙ ap (λ i. record a { period = b.period; allowance = b.allowance; used = b.used; first = i }) f

number-same : (a b : ℕ) → (a == b) ≡ true → a ≡ b
number-same a b e = grind arith

not-true : (b : Bool) → (b ≡ true → ⊥) → b ≡ false
not-true true h = absurd (h refl)
not-true false h = refl

some-same : {A : Type 0} (a b : A) → Some a ≡ Some b → a ≡ b
some-same a b same = cc

if-some : {A : Type 0} (P : A → Type 0) (o : Option A) (a : A) → IfSome o P → o ≡ Some a → P a
if-some P None a h e = absurd cc
if-some P (Some b) a h e = subst P (some-same b a e) h

less : (n m : ℕ) → n ≤ m → (m == n) ≡ false → n < m
less n m le differ = grind arith

not-below-itself : (n : ℕ) → n < n → ⊥
not-below-itself n h = omega (arith, h)

-- What stands at a later moment t.
module _ (opening : Account) (own : Allowance) (rs : List Receipt) (x t : ℕ)
    (h : CountShown opening own rs x) (le : x ≤ t) (early : t < YEAR_2100) where
  own-later : (p : Period) → own_by opening rs ≡ Some p → p.number ≤ number_at p.kind t
  own-later p e =
      omega (arith, if-some (λ q. q.number ≤ number_at q.kind x) (own_by opening rs) p h.begun e, numbers_in_order p.kind x t le early)

  of-last : (last : Option Period) (p : Period) → own_by opening rs ≡ last → is_standing last t ≡ false → is_of p last ≡ true
      → p.number < number_at p.kind t
  of-last None p e over here = absurd cc
  of-last (Some q) p e over here =
      subst (λ (i : Period). i.number < number_at i.kind t) (sym (same-period p q here)) (less q.number (number_at q.kind t) (own-later q e) over)

  -- where the one that was charged last is over, each that was opened is
  all-over : is_standing (own_by opening rs) t ≡ false → (p : Period) → is_open opening rs p ≡ true → p.number < number_at p.kind t
  all-over over p here = pick (is_of p (own_by opening rs)) refl
    where
      pick : (b : Bool) → is_of p (own_by opening rs) ≡ b → p.number < number_at p.kind t
      pick false e = omega (arith, h.past p here e, numbers_in_order p.kind x t le early)
      pick true e = of-last (own_by opening rs) p refl over e

  -- so none is opened twice
  pub anew : is_standing (own_by opening rs) t ≡ false → (kind : PeriodKind) → is_open opening rs (period_at kind t) ≡ false
  anew over kind =
      not-true (is_open opening rs (period_at kind t)) (λ here. not-below-itself (number_at kind t) (all-over over (period_at kind t) here))

  opens : is_standing (own_by opening rs) t ≡ false → (quota : Option Quota) → (terms_by opening rs).quota ≡ quota
      → option_map (λ q. opened_allowance q t (is_none (own_by opening rs))) quota ≡ option_map (counts_of opening rs) (option_map (λ q. period_at q.kind t) quota)
  opens over None e = refl
  opens over (Some q) e = ap Some (allowance-same _ (counts_of opening rs (period_at q.kind t)) refl
      (sym (allowed-unopened opening rs (period_at q.kind t) (anew over q.kind) ∙ ap (λ i. opens_with i (is_none (own_by opening rs))) e))
      (sym (unused opening rs (period_at q.kind t) (anew over q.kind)))
      (ap (λ b. cond b (first_by opening rs) (is_none (own_by opening rs))) (sym (anew over q.kind))))

  stays : (last : Option Period) → own_by opening rs ≡ last → is_standing last t ≡ true → Some own ≡ option_map (counts_of opening rs) last
  stays None e standing = absurd cc
  stays (Some p) e standing = ap Some (allowance-same own (counts_of opening rs p)
      (h.period ∙ e)
      (if-some (λ q. own.allowance ≡ allowed_by opening rs q) (own_by opening rs) p h.allowed e)
      (if-some (λ q. own.used ≡ used_by opening rs q) (own_by opening rs) p h.used e)
      (h.first ∙ ap (λ b. cond b (first_by opening rs) (is_none (own_by opening rs))) (sym (if-some (λ q. is_open opening rs q ≡ true) (own_by opening rs) p h.opened e))))

  pub standing-shown : allowance_at own (terms_by opening rs).quota t ≡ standing_by opening rs t
  standing-shown =
      ap (λ i. cond (is_standing i t) (Some own) (option_map (λ q. opened_allowance q t (is_none i)) (terms_by opening rs).quota)) h.period
      ∙ pick (is_standing (own_by opening rs) t) refl
    where
      pick : (b : Bool) → is_standing (own_by opening rs) t ≡ b
          → cond b (Some own) (option_map (λ q. opened_allowance q t (is_none (own_by opening rs))) (terms_by opening rs).quota)
          ≡ option_map (counts_of opening rs) (cond b (own_by opening rs) (option_map (λ q. period_at q.kind t) (terms_by opening rs).quota))
      pick true e = stays (own_by opening rs) refl e
      pick false e = opens e (terms_by opening rs).quota refl

  pub count-later : CountShown opening own rs t
  count-later =
      record {
        period = h.period;
        first = h.first;
        allowed = h.allowed;
        used = h.used;
        opened = h.opened;
        begun = begun-on (own_by opening rs) refl;
        past = λ p here apart. omega (arith, h.past p here apart, numbers_in_order p.kind x t le early);
      }
    where
      begun-on : (last : Option Period) → own_by opening rs ≡ last → IfSome last (λ p. p.number ≤ number_at p.kind t)
      begun-on None e = tt
      begun-on (Some p) e = own-later p e

-- A receipt that is charged to no period changes nothing of it.
module _ (opening : Account) (own : Allowance) (rs : List Receipt) (x : ℕ) (h : CountShown opening own rs x) where
  still : (r : Receipt) → (last : Option Period) → own_by opening rs ≡ last
      → ((p : Period) → own_by opening rs ≡ Some p → allowed_by opening (r ∷ rs) p ≡ allowed_by opening rs p)
      → IfSome last (λ p. own.allowance ≡ allowed_by opening (r ∷ rs) p)
  still r None e same = tt
  still r (Some p) e same = if-some (λ q. own.allowance ≡ allowed_by opening rs q) (own_by opening rs) p h.allowed e ∙ sym (same p e)

  is-opened : (p : Period) → own_by opening rs ≡ Some p → is_open opening rs p ≡ true
  is-opened p e = if-some (λ q. is_open opening rs q ≡ true) (own_by opening rs) p h.opened e

  pub count-uncharged : (at : ℕ) → CountShown opening own (record { at = at; what = admission None } ∷ rs) x
  count-uncharged at =
      record {
        period = h.period;
        first = h.first;
        allowed = still r (own_by opening rs) refl (λ p e. allowed-open opening r rs p (is-opened p e));
        used = h.used;
        opened = h.opened;
        begun = h.begun;
        past = h.past;
      }
    where
      r : Receipt
      r = record { at = at; what = admission None }

  pub count-revised : (at : ℕ) (terms : Terms) → CountShown opening own (record { at = at; what = revised terms } ∷ rs) x
  count-revised at terms =
      record {
        period = h.period;
        first = h.first;
        allowed = still r (own_by opening rs) refl (λ p e. allowed-open opening r rs p (is-opened p e));
        used = h.used;
        opened = h.opened;
        begun = h.begun;
        past = h.past;
      }
    where
      r : Receipt
      r = record { at = at; what = revised terms }

-- A receipt that is charged to the period which stands at x.
module _ (opening : Account) (own : Allowance) (rs : List Receipt) (x : ℕ)
    (h : CountShown opening own rs x) (early : x < YEAR_2100) (p : Period) (here : period_by opening rs x ≡ Some p) where
  at-number : (last : Option Period) → cond (is_standing last x) last (option_map (λ quota. period_at quota.kind x) (terms_by opening rs).quota) ≡ Some p
      → p.number ≡ number_at p.kind x
  at-number last e = pick last (is_standing last x) refl (terms_by opening rs).quota e
    where
      pick : (last : Option Period) (b : Bool) → is_standing last x ≡ b → (quota : Option Quota)
          → cond b last (option_map (λ q. period_at q.kind x) quota) ≡ Some p → p.number ≡ number_at p.kind x
      pick None true standing quota e = absurd cc
      pick (Some l) true standing quota e = subst (λ (i : Period). i.number ≡ number_at i.kind x) (some-same l p e) (sym (number-same (number_at l.kind x) l.number standing))
      pick last false standing None e = absurd cc
      pick last false standing (Some q) e = subst (λ (i : Period). i.number ≡ number_at i.kind x) (some-same (period_at q.kind x) p e) refl

  pub charged-begun : p.number ≤ number_at p.kind x
  charged-begun = omega (arith, at-number (own_by opening rs) here)

  -- one that was opened and is not this one is over
  own-over : (last : Option Period) (q : Period) → own_by opening rs ≡ last → is_of q last ≡ true → same_period q p ≡ false
      → q.number < number_at q.kind x
  own-over None q e mine other = absurd cc
  own-over (Some l) q e mine other = pick (is_standing (Some l) x) refl
    where
      le : x ≤ x
      le = omega arith

      pick : (b : Bool) → is_standing (Some l) x ≡ b → q.number < number_at q.kind x
      pick true standing = absurd (apart (same_period q p) (ap (λ i. same_period q i) (sym l-is-p) ∙ mine) other)
        where
          l-is-p : l ≡ p
          l-is-p = some-same l p (ap (λ b. cond b (Some l) (option_map (λ quota. period_at quota.kind x) (terms_by opening rs).quota)) (sym standing)
              ∙ ap (λ i. cond (is_standing i x) i (option_map (λ quota. period_at quota.kind x) (terms_by opening rs).quota)) (sym e) ∙ here)

          apart : (b : Bool) → b ≡ true → b ≡ false → ⊥
          apart true e f = absurd cc
          apart false e f = absurd cc
      pick false over = of-last opening own rs x x h le early (Some l) q e over mine

  pub charged-past : (q : Period) (b : Bool) → same_period q p ≡ b → (b || is_open opening rs q) ≡ true → b ≡ false → q.number < number_at q.kind x
  charged-past q true e opened other = absurd cc
  charged-past q false e opened other = pick (is_of q (own_by opening rs)) refl
    where
      pick : (b : Bool) → is_of q (own_by opening rs) ≡ b → q.number < number_at q.kind x
      pick true mine = own-over (own_by opening rs) q refl mine e
      pick false mine = h.past q opened mine

  pub charged-open : (w : What) → (same_period p p || is_open opening rs p) ≡ true
  charged-open w = ap (λ b. b || is_open opening rs p) (same-itself p)

  pub count-admission : (at : ℕ) → CountShown opening (one_used (counts_of opening rs p)) (record { at = at; what = admission (Some p) } ∷ rs) x
  count-admission at =
      record {
        period = refl;
        first = refl;
        allowed = sym (allowed-open opening r rs p opened);
        used = ap (λ b. cond b (used_by opening rs p + 1) (used_by opening rs p)) (sym (same-itself p));
        opened = opened;
        begun = charged-begun;
        past = λ q here other. charged-past q (same_period q p) refl here other;
      }
    where
      r : Receipt
      r = record { at = at; what = admission (Some p) }

      opened : (same_period p p || is_open opening rs p) ≡ true
      opened = charged-open r.what

  pub count-granted : (at amount : ℕ) → CountShown opening (more_allowed amount (counts_of opening rs p)) (record { at = at; what = granted amount p } ∷ rs) x
  count-granted at amount =
      record {
        period = refl;
        first = refl;
        allowed = ap (λ b. cond b (allowed_by opening rs p + amount) (allowed_by opening rs p)) (sym (same-itself p)) ∙ sym (allowed-open opening r rs p opened);
        used = refl;
        opened = opened;
        begun = charged-begun;
        past = λ q here other. charged-past q (same_period q p) refl here other;
      }
    where
      r : Receipt
      r = record { at = at; what = granted amount p }

      opened : (same_period p p || is_open opening rs p) ≡ true
      opened = charged-open r.what

pub count-opening : (opening : Account) → IsOpened opening.tally.allowance opening.tally.bucket.at
    → CountShown opening opening.tally.allowance [] opening.tally.bucket.at
count-opening opening ok = by-last opening.tally.allowance.period refl
  where
    own : Allowance
    own = opening.tally.allowance

    by-last : (last : Option Period) → own.period ≡ last → CountShown opening own [] opening.tally.bucket.at
    by-last last e =
        record {
          period = refl;
          first = refl;
          allowed = on last e (λ p. own.allowance ≡ allowed_by opening [] p) (λ p f. sym (mine own.allowance (opens_with opening.terms.quota (is_none own.period)) p f));
          used = on last e (λ p. own.used ≡ used_by opening [] p) (λ p f. sym (mine own.used 0 p f));
          opened = on last e (λ p. is_open opening [] p ≡ true) (λ p f. ap (is_of p) f ∙ same-itself p);
          begun = ok.begun;
          past = λ p here other. absurd (apart (is_of p own.period) here other);
        }
      where
        on : (last : Option Period) → own.period ≡ last → (P : Period → Type 0) → ((p : Period) → own.period ≡ Some p → P p) → IfSome own.period P
        on None f P each = subst (λ o. IfSome o P) (sym f) tt
        on (Some p) f P each = subst (λ o. IfSome o P) (sym f) (each p f)

        mine : (n m : ℕ) (p : Period) → own.period ≡ Some p → cond (is_of p own.period) n m ≡ n
        mine n m p f = ap (λ o. cond (is_of p o) n m) f ∙ ap (λ b. cond b n m) (same-itself p)

        apart : (b : Bool) → b ≡ true → b ≡ false → ⊥
        apart true e f = absurd cc
        apart false e f = absurd cc
