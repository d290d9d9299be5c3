-- Whether a session has a next one, and why no further one is served.
use Rattle.std.proofs.Common.{◌≡◌, ◌≤◌, Bool, true, false, ◌&&◌, List, map, length, Result, Ok, Err, OnOk, IfOk, IfErr, sym, ◌∙◌, refl, ℕ, arith}
use Rattle.std.specs.Result.{is_ok}
use Rattle.std.proofs.lemmas.List.{length-map}
use Rattle.book_core.specs.declared.start.StartFault.{StartFault}
use Rattle.gw_base.specs.Outside.{Rose}
use Rattle.outside_core.specs.Told.{LaneTold}
use Rattle.session_chain.specs.Served.{IfRefused}
use Rattle.session_chain.specs.declared.fault.AllFault.{AllFault}
use Rattle.session_chain.specs.declared.fault.AllFault.TheVariants as all

pub first_of_and : (a b : Bool) → (a && b) ≡ true → a ≡ true
first_of_and true b e = refl
first_of_and false b e = e

pub second_of_and : (a b : Bool) → (a && b) ≡ true → b ≡ true
second_of_and true b e = e
second_of_and false b e = absurd (differ e)
  where
    differ : false ≡ true → ⊥
    differ e = cc

pub on_ok : {A E : Type 0} (r : Result A E) (P : Type 0) → is_ok r ≡ true → OnOk r P → P
on_ok (Ok a) P is h = h
on_ok (Err e) P is h = absurd (differ is)
  where
    differ : false ≡ true → ⊥
    differ e = cc

pub refused_none : (fault : AllFault) (P : StartFault → Type 0) → IfRefused fault (λ f. ⊥) → IfRefused fault P
refused_none (all.Start f) P none = absurd none
refused_none all.Output P none = tt
refused_none all.Memory P none = tt

pub refused_by : (fault : AllFault) (P Q : StartFault → Type 0) → ((f : StartFault) → P f → Q f) → IfRefused fault P → IfRefused fault Q
refused_by (all.Start f) P Q h p = h f p
refused_by all.Output P Q h p = tt
refused_by all.Memory P Q h p = tt

pub rose_from : (first before now : ℕ) → first ≤ before → Rose before now → Rose first now
rose_from first before now h r = omega (arith, h, r)

-- as many lanes as their told facts
pub as_many_lanes : {L : Type 0} (told : L → LaneTold) (before now : List L) → length (map told now) ≡ length (map told before) → length now ≡ length before
as_many_lanes told before now same = sym (length-map now told) ∙ same ∙ length-map before told

pub ok_by : {A E : Type 0} (r : Result A E) (P Q : A → Type 0) → ((a : A) → P a → Q a) → IfOk r P → IfOk r Q
ok_by (Ok a) P Q h p = h a p
ok_by (Err e) P Q h p = tt

pub err_by : {A E : Type 0} (r : Result A E) (P Q : E → Type 0) → ((e : E) → P e → Q e) → IfErr r P → IfErr r Q
err_by (Ok a) P Q h p = tt
err_by (Err e) P Q h p = h e p
