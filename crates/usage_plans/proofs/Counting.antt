-- The counts of a period by its receipts.
use Rattle.std.proofs.Common.{◌≡◌, sym, ap, subst, refl, ℕ, ◌+◌, ◌==◌, ◌≤◌, ◌<◌, nat_le, Bool, true, false, ◌&&◌, ◌||◌, List, [], ◌∷◌, Option, Some, None, is_none, option_map, cond, arith}
use Rattle.std.specs.Bool.{⊤}
use Rattle.usage_meter.specs.declared.period.Period.{Period}
use Rattle.usage_meter.specs.declared.period.PeriodKind.{PeriodKind}
use Rattle.usage_meter.specs.declared.period.PeriodKind.TheVariants.{Day, Week, Month}
use Rattle.usage_plans.specs.declared.terms.TheConstants.{MOST_UNITS}
use Rattle.usage_plans.specs.Tallies.{is_spent, is_used_up}
use Rattle.usage_plans.specs.Deeds.{Account, Deed, What, Receipt, terms_by, same_period, is_of, charged_of, own_by, period_by, is_open, one_more, used_by, opens_with, more_granted, allowed_by, counts_of, standing_by, level_by, call_receipts, grant_receipts, deed_receipts, receipts_of, terms_put}
use Rattle.usage_plans.specs.Deeds.Deed.{call, grant, put}
use Rattle.usage_plans.specs.Deeds.What.{admission, granted, revised}
use Rattle.usage_plans.specs.Laws.{NoneIsOverused}

pub kind-itself : (kind : PeriodKind) (n : ℕ) → same_period record { kind = kind; number = n } record { kind = kind; number = n } ≡ true
kind-itself Day n = grind arith
kind-itself Week n = grind arith
kind-itself Month n = grind arith

pub same-itself : (p : Period) → same_period p p ≡ true
same-itself p = kind-itself p.kind p.number

second_of : (a b : Bool) → (a && b) ≡ true → b ≡ true
second_of true b e = e
second_of false b e = absurd cc

number-same : (a b : ℕ) → (a == b) ≡ true → a ≡ b
number-same a b e = grind arith

abbrev numbered : PeriodKind → ℕ → Period
numbered kind n = record { kind = kind; number = n }

kind-same : (k l : PeriodKind) (n m : ℕ) → same_period (numbered k n) (numbered l m) ≡ true → numbered k n ≡ numbered l m
kind-same Day Day n m e = ap (numbered Day) (number-same n m e)
kind-same Week Week n m e = ap (numbered Week) (number-same n m e)
kind-same Month Month n m e = ap (numbered Month) (number-same n m e)
kind-same Day Week n m e = absurd cc
kind-same Day Month n m e = absurd cc
kind-same Week Day n m e = absurd cc
kind-same Week Month n m e = absurd cc
kind-same Month Day n m e = absurd cc
kind-same Month Week n m e = absurd cc

-- periods that are told to be the same are
pub same-period : (p q : Period) → same_period p q ≡ true → p ≡ q
same-period p q e = kind-same p.kind q.kind p.number q.number e

-- a period that was never opened was not used
unused-more : (p : Period) (w : What) (older : ℕ) (more : Bool) → (is_of p (charged_of w) || more) ≡ false → (more ≡ false → older ≡ 0)
    → one_more p w older ≡ 0
unused-more p (admission charged) older more e before = pick (is_of p charged) more e before
  where
    pick : (b c : Bool) → (b || c) ≡ false → (c ≡ false → older ≡ 0) → cond b (older + 1) older ≡ 0
    pick true c e before = absurd cc
    pick false c e before = before e
unused-more p (granted amount period) older more e before = before (rest (same_period p period) more e)
  where
    rest : (b c : Bool) → (b || c) ≡ false → c ≡ false
    rest true c e = absurd cc
    rest false c e = e
unused-more p (revised terms) older more e before = before e

pub unused : (opening : Account) (rs : List Receipt) (p : Period) → is_open opening rs p ≡ false → used_by opening rs p ≡ 0
unused opening [] p e = pick (is_of p opening.tally.allowance.period) e
  where
    pick : (b : Bool) → b ≡ false → cond b opening.tally.allowance.used 0 ≡ 0
    pick true e = absurd cc
    pick false e = refl
unused opening (r ∷ rs) p e = unused-more p r.what (used_by opening rs p) (is_open opening rs p) e (unused opening rs p)

-- one that is not open allows what it would be opened with
pub allowed-unopened : (opening : Account) (rs : List Receipt) (p : Period) → is_open opening rs p ≡ false
    → allowed_by opening rs p ≡ opens_with (terms_by opening rs).quota (is_none (own_by opening rs))
allowed-unopened opening [] p e = pick (is_of p opening.tally.allowance.period) e
  where
    fresh : ℕ
    fresh = opens_with opening.terms.quota (is_none opening.tally.allowance.period)

    pick : (b : Bool) → b ≡ false → cond b opening.tally.allowance.allowance fresh ≡ fresh
    pick true e = absurd cc
    pick false e = refl
allowed-unopened opening (r ∷ rs) p e = pick (is_open opening (r ∷ rs) p) e
  where
    fresh : ℕ
    fresh = opens_with (terms_by opening (r ∷ rs)).quota (is_none (own_by opening (r ∷ rs)))

    pick : (b : Bool) → b ≡ false → cond b (more_granted p r.what (allowed_by opening rs p)) fresh ≡ fresh
    pick true e = absurd cc
    pick false e = refl

-- one that is open allows what it did, and what is granted
pub allowed-open : (opening : Account) (r : Receipt) (rs : List Receipt) (p : Period) → is_open opening (r ∷ rs) p ≡ true
    → allowed_by opening (r ∷ rs) p ≡ more_granted p r.what (allowed_by opening rs p)
allowed-open opening r rs p e = pick (is_open opening (r ∷ rs) p) e
  where
    pick : (b : Bool) → b ≡ true
        → cond b (more_granted p r.what (allowed_by opening rs p)) (opens_with (terms_by opening (r ∷ rs)).quota (is_none (own_by opening (r ∷ rs))))
        ≡ more_granted p r.what (allowed_by opening rs p)
    pick true e = refl
    pick false e = absurd cc

-- NO PERIOD IS OVERUSED: an admission that is charged to one found less used than it allows
abbrev IsWithin : Account → List Receipt → Period → Type 0
IsWithin opening rs p = used_by opening rs p ≤ allowed_by opening rs p

-- a receipt that finds room where it is charged
abbrev FindsRoom : Account → List Receipt → What → Type 0
FindsRoom opening rs (admission None) = ⊤
FindsRoom opening rs (admission (Some p)) = used_by opening rs p < allowed_by opening rs p
FindsRoom opening rs (granted amount period) = ⊤
FindsRoom opening rs (revised terms) = ⊤

found-more : (opening : Account) (rs : List Receipt) (p : Period) (w : What) → FindsRoom opening rs w → IsWithin opening rs p
    → one_more p w (used_by opening rs p) ≤ more_granted p w (allowed_by opening rs p)
found-more opening rs p (admission None) room h = h
found-more opening rs p (admission (Some q)) room h = pick (same_period p q) refl
  where
    pick : (b : Bool) → same_period p q ≡ b → cond b (used_by opening rs p + 1) (used_by opening rs p) ≤ allowed_by opening rs p
    pick true e = subst (λ (i : Period). used_by opening rs i + 1 ≤ allowed_by opening rs i) (sym (same-period p q e)) (omega (arith, room))
    pick false e = h
found-more opening rs p (granted amount q) room h = pick (same_period p q)
  where
    pick : (b : Bool) → used_by opening rs p ≤ cond b (allowed_by opening rs p + amount) (allowed_by opening rs p)
    pick true = omega (arith, h)
    pick false = h
found-more opening rs p (revised terms) room h = h

within-more : (opening : Account) (r : Receipt) (rs : List Receipt) (p : Period) → FindsRoom opening rs r.what → IsWithin opening rs p → IsWithin opening (r ∷ rs) p
within-more opening r rs p room h = pick (is_open opening (r ∷ rs) p) refl
  where
    pick : (b : Bool) → is_open opening (r ∷ rs) p ≡ b → IsWithin opening (r ∷ rs) p
    pick true e = subst (λ n. used_by opening (r ∷ rs) p ≤ n) (sym (allowed-open opening r rs p e)) (found-more opening rs p r.what room h)
    pick false e = subst (λ n. n ≤ allowed_by opening (r ∷ rs) p) (sym (unused opening (r ∷ rs) p e)) (omega arith)

not-used-up : (opening : Account) (rs : List Receipt) (spent : Bool) (charged : Option Period)
    → (spent || is_used_up (option_map (counts_of opening rs) charged)) ≡ false → FindsRoom opening rs (admission charged)
not-used-up opening rs true charged e = absurd cc
not-used-up opening rs false None e = tt
not-used-up opening rs false (Some p) e = less (used_by opening rs p) (allowed_by opening rs p) e
  where
    less : (used allowed : ℕ) → nat_le allowed used ≡ false → used < allowed
    less used allowed e = grind arith

module _ (opening : Account) (rs : List Receipt) (p : Period) (h : IsWithin opening rs p) where
  within-call : (t : ℕ) → IsWithin opening (call_receipts opening rs t) p
  within-call t = pick (is_spent (level_by opening rs t) || is_used_up (standing_by opening rs t)) refl
    where
      r : Receipt
      r = record { at = t; what = admission (period_by opening rs t) }

      pick : (b : Bool) → (is_spent (level_by opening rs t) || is_used_up (standing_by opening rs t)) ≡ b → IsWithin opening (cond b rs (r ∷ rs)) p
      pick true e = h
      pick false e = within-more opening r rs p (not-used-up opening rs (is_spent (level_by opening rs t)) (period_by opening rs t) e) h

  within-grant : (amount t : ℕ) (charged : Option Period) → IsWithin opening (grant_receipts opening rs amount t charged) p
  within-grant amount t None = h
  within-grant amount t (Some q) = pick (nat_le (allowed_by opening rs q + amount) MOST_UNITS)
    where
      r : Receipt
      r = record { at = t; what = granted amount q }

      pick : (b : Bool) → IsWithin opening (cond b (r ∷ rs) rs) p
      pick true = within-more opening r rs p tt h
      pick false = h

  within-deed : (t : ℕ) (deed : Deed) → IsWithin opening (deed_receipts opening rs t deed) p
  within-deed t call = within-call t
  within-deed t (grant amount) = within-grant amount t (period_by opening rs t)
  within-deed t (put throttle quota) =
      within-more opening (record { at = t; what = revised (terms_put (terms_by opening rs) throttle quota) }) rs p tt h

pub none-overused : NoneIsOverused
none-overused opening [] p ok = pick (is_of p opening.tally.allowance.period)
  where
    pick : (b : Bool) → cond b opening.tally.allowance.used 0 ≤ cond b opening.tally.allowance.allowance (opens_with opening.terms.quota (is_none opening.tally.allowance.period))
    pick true = ok.opened.within
    pick false = omega arith
none-overused opening (e ∷ es) p ok = pick e.kept (none-overused opening es p ok)
  where
    pick : (b : Bool) → IsWithin opening (receipts_of opening es) p
        → IsWithin opening (cond b (deed_receipts opening (receipts_of opening es) e.at e.deed) (receipts_of opening es)) p
    pick true before = within-deed opening (receipts_of opening es) p before e.at e.deed
    pick false before = before
