-- What an event comes to: its reply, and the row that it writes.
use Rattle.std.specs.Prelude.{Bool, List, [], ◌∷◌, Option, Some, None, if◌then◌else◌}
use Rattle.keeper_core.specs.declared.rows.Row.{Row}
use Rattle.book_rules.specs.declared.replies.Refusal.{Refusal}
use Rattle.book_rules.specs.declared.replies.Reply.{Reply}
use Rattle.book_rules.specs.declared.replies.Reply.TheVariants.{Refused}

-- what an event comes to if its change is kept: its reply, and the row that it writes. It is changing where it writes one
pub record Outcome : Type 0 where
  pub reply : Reply
  pub row : Option Row

abbrev pub says : Reply → Outcome
says reply = record { reply = reply; row = None }

abbrev pub writes : Row → Reply → Outcome
writes row reply = record { reply = reply; row = Some row }

-- the first test that holds refuses
abbrev pub first_refusal : List (Bool × Refusal) → Option Refusal
first_refusal [] = None
first_refusal (test ∷ tests) = if test.0 then Some test.1 else first_refusal tests

abbrev pub unless : Option Refusal → Outcome → Outcome
unless None outcome = outcome
unless (Some refusal) outcome = says (Refused refusal)

abbrev pub unless_refused : List (Bool × Refusal) → Outcome → Outcome
unless_refused tests outcome = unless (first_refusal tests) outcome
