use Rattle.std.proofs.Common.{◌≡◌, ◌%◌, ◌^◌, ℕ, []}
use Rattle.turn_desk.specs.Views.{view}
use Rattle.turn_desk.specs.declared.view.Phase.TheVariants.{Waiting}
use Rattle.turn_desk.proofs.turn.wait_for_turn.Given as goal

abbrev pub invariant-loop : goal.invariant-loop
invariant-loop g l = record { desk : l.token.table_id ≡ l.fn.token.table_id; waits : (k : ℕ) × (l.token.me ≡ (view (Waiting k) l.fn.token.me.0.known, [])) × (l.ticket ≡ k % 2 ^ 64) }
