-- The laws of the definitions.
use Rattle.std.proofs.Common.{◌≡◌, ℕ, zero, suc, ◌+◌, ◌*◌, ◌<◌, nat_lt, Bool, true, false, not, ◌||◌, cond, List, [], ◌∷◌, take, filter, slice_get, Option, Some, None, option_and_then, refl, sym, ap, subst, ◌∙◌, arith}
use Rattle.std.proofs.lemmas.Bool.Decides.{nat_tests}
use Rattle.std.specs.List.{list_any}
use Rattle.policy_memory.specs.declared.names.PolicyName.{PolicyName}
use Rattle.policy_memory.specs.Laws.{PlacesMayBeLeftOut, UsedWithinItsSeconds, FlushForgets, FlushForgetsNoOther, FlushedKeepsItsPlace, OldestGoesFirst}
use Rattle.policy_memory.specs.Names.{same_name, same_name_equiv, same_name-equal, is_of}
use Rattle.policy_memory.specs.Remembered.{Learned, Happening, learned, flushed, learned_names, each_once, latest_names, standing, usable, remembered}
use Rattle.policy_memory.proofs.Keys.{pushed-out}
use Rattle.policy_memory.proofs.Recalling.{each_once-apart, remembers-later}

pub places-left-out : PlacesMayBeLeftOut
places-left-out happened next later kept r le = remembers-later happened next later kept r le

pub used-within : UsedWithinItsSeconds
unfolding remembered
used-within happened name what t lt =
    let below : nat_lt t (what.at + 1000 * what.ttl) ≡ true = grind (arith, nat_tests, lt) in
    ap (λ b. cond (b || list_any (same_name name) (take 1023 (filter (λ other. not (same_name name other)) (each_once (learned_names happened))))) (option_and_then (usable t) (cond b (Some what) (standing name happened))) None) (same_name_equiv.refl name)
    ∙ ap (λ b. cond b (Some what.policy) None) below

module _ (happened : List Happening) (api stage : List ℕ) (name : PolicyName) (t : ℕ) where
  flushed-is : (b : Bool) → is_of api stage name ≡ b
      → remembered (flushed api stage ∷ happened) name t ≡ cond (list_any (same_name name) (latest_names happened)) (option_and_then (usable t) (cond b None (standing name happened))) None
  unfolding remembered
  flushed-is b e = ap (λ x. cond (list_any (same_name name) (latest_names happened)) (option_and_then (usable t) (cond x None (standing name happened))) None) e

  nothing : (b : Bool) → cond b (option_and_then (usable t) None) None ≡ None
  nothing true = refl
  nothing false = refl

pub flush-forgets : FlushForgets
flush-forgets happened api stage name t e = flushed-is happened api stage name t true e ∙ nothing happened api stage name t (list_any (same_name name) (latest_names happened))

pub flush-forgets-no-other : FlushForgetsNoOther
unfolding remembered
flush-forgets-no-other happened api stage name t e = flushed-is happened api stage name t false e

pub flushed-keeps-its-place : FlushedKeepsItsPlace
flushed-keeps-its-place happened api stage = refl

pub oldest-goes-first : OldestGoesFirst
unfolding remembered
oldest-goes-first happened name oldest what t last none =
    let out : list_any (same_name oldest) (latest_names (learned name what ∷ happened)) ≡ false = pushed-out same_name same_name_equiv.symm 1023 (each_once (learned_names happened)) name oldest last (each_once-apart (learned_names happened)) none in
    ap (λ b. cond b (option_and_then (usable t) (standing oldest (learned name what ∷ happened))) None) out
