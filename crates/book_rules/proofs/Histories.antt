-- One entry more.
use Rattle.std.proofs.Common.{◌≡◌, ℕ, ◌+◌, List, [], ◌∷◌, ◌++◌, Bool, refl, ap, sym, ◌∙◌}
use Rattle.std.specs.Prelude.{is_some}
use Rattle.std.proofs.lemmas.List.{reverse-append}
use Rattle.keeper_core.specs.Lists.{Lists}
use Rattle.keeper_core.specs.Keeping.{Planned}
use Rattle.book_rules.specs.Machine.{opened, after, row_of}
use Rattle.book_rules.specs.History.{state_of, state_after, plan_of, plan_after, calls_of, is_changing, rewrites}
use Rattle.book_rules.specs.declared.events.Entry.{Entry}

-- what stands after a history and one entry more
pub state_after-more : (opening : Lists) (history : List Entry) (entry : Entry) → state_after opening (history ++ entry ∷ []) ≡ after (state_after opening history) entry
unfolding state_after
state_after-more opening history entry = ap (state_of (opened opening)) (reverse-append history (entry ∷ []))

-- what stands before the first entry
pub state_after-nil : (opening : Lists) → state_after opening [] ≡ opened opening
unfolding state_after
state_after-nil opening = refl

-- the keeper's calls after a history and one entry more
pub plan_after-more : (opening : Lists) (plan : Planned) (history : List Entry) (entry : Entry)
    → plan_after opening plan (history ++ entry ∷ []) ≡ calls_of (rewrites entry.event) (is_changing opening history entry.event) (plan_after opening plan history)
unfolding plan_after state_after
plan_after-more opening plan history entry = ap (plan_of opening plan) (reverse-append history (entry ∷ []))

pub plan_after-nil : (opening : Lists) (plan : Planned) → plan_after opening plan [] ≡ plan
unfolding plan_after
plan_after-nil opening plan = refl
