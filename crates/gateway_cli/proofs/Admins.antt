-- Lines of commands over a script's limit, and within it.
use Rattle.std.proofs.Common.{◌≡◌, ◌<◌, ◌≤◌, inl, inr, ℕ, List, length, Option, Result, Ok, Err, IfOk, OnOk, sym, subst}
use Rattle.std.specs.Io.KnownBytes.{Appends}
use Rattle.gw_base.specs.Whole.{AppendsFront}
use Rattle.book_rules.specs.declared.events.Limits.{Limits}
use Rattle.script_records.specs.Coding.{lines_of}
use Rattle.play_script.specs.Play.{session_limits, too_long}
use Rattle.serve_command.specs.Shelves.{Shelves}
use Rattle.admin_command.specs.Ends.{AdminEnds, IsCutShort, WantsMemory}
use Rattle.gateway_cli.specs.Admin.{AdminCut, Administered, AdminWantsMemory, CutBy, EndsBy}
use Rattle.gateway_cli.proofs.Scripts.{over, within}

module _ (store lines : List ℕ) (old new : Shelves) (written now : Option (List ℕ)) where
  pub ends_within : (limits : Limits) (status : ℕ) → limits ≡ session_limits → length lines ≤ 67108864 → AdminEnds limits store (lines_of lines) old new written now status → Administered store lines old new written now status
  unfolding Administered
  ends_within limits status same h ends =
      subst (λ b. EndsBy b store lines old new written now status) (sym (within lines h)) (subst (λ (l : Limits). AdminEnds l store (lines_of lines) old new written now status) same ends)

  pub cut_within : (limits : Limits) → limits ≡ session_limits → length lines ≤ 67108864 → IsCutShort limits store (lines_of lines) old new written now → AdminCut store lines old new written now
  unfolding AdminCut
  cut_within limits same h cut =
      subst (λ b. CutBy b store lines old new written now) (sym (within lines h)) (subst (λ (l : Limits). IsCutShort l store (lines_of lines) old new written now) same cut)

  pub wants_within : (limits : Limits) → limits ≡ session_limits → length lines ≤ 67108864 → WantsMemory limits store (lines_of lines) old new written now → AdminWantsMemory store lines old new written now
  wants_within limits same h (inl cut) = inl (cut_within limits same h cut)
  wants_within limits same h (inr none) = inr none

  pub ends_over : (status : ℕ) → 67108864 < length lines → new ≡ old → status ≡ 1 → Appends written now too_long.text → Administered store lines old new written now status
  unfolding Administered
  ends_over status h same is wrote = subst (λ b. EndsBy b store lines old new written now status) (sym (over lines h)) (same, (is, wrote))

  pub cut_over : 67108864 < length lines → new ≡ old → AppendsFront written now too_long.text → AdminCut store lines old new written now
  unfolding AdminCut
  cut_over h same wrote = subst (λ b. CutBy b store lines old new written now) (sym (over lines h)) (same, wrote)

-- the same, of an answer
pub ends_over_if : {E : Type 0} (r : Result ℕ E) (store lines : List ℕ) (old new : Shelves) (written now : Option (List ℕ)) → 67108864 < length lines → new ≡ old
    → IfOk r (λ status. status ≡ 1) → OnOk r (Appends written now too_long.text) → IfOk r (Administered store lines old new written now)
ends_over_if (Ok status) store lines old new written now h same is wrote = ends_over store lines old new written now status h same is wrote
ends_over_if (Err e) store lines old new written now h same is wrote = tt
