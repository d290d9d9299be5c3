-- What a backend in memory holds, and what an exchange changes of it.
use Rattle.std.specs.Prelude.{ℕ, ◌≤◌, List, [], ◌∷◌, ◌++◌, drop, ⊤}
use Rattle.gw_base.specs.Feed.{raised}
use Rattle.backend_core.specs.declared.request.WireRequest.{WireRequest}
use Rattle.backend_core.specs.declared.outcome.Outcome.{Outcome}
use Rattle.backend_core.specs.declared.outcome.Outcome.TheVariants as outcome
use Rattle.backend_core.specs.declared.memory.Scripted.{Scripted}
use Rattle.backend_core.specs.declared.memory.Scripted.TheVariants.{Reply, Failed, TimedOut}

-- the requests and the outcomes so far, the outcomes that are to come, and how often it failed and time lapsed
pub record BackendFacts : Type 0 where
  pub sent : List WireRequest
  pub given : List Outcome
  pub to_come : List Outcome
  pub faults : ℕ
  pub lapses : ℕ

-- what an exchange comes to by a script
abbrev pub outcome_of : Scripted → Outcome
outcome_of (Reply reply) = outcome.Reply reply
outcome_of Failed = outcome.Failed
outcome_of TimedOut = outcome.TimedOut

-- a reply of a script has a status from 200 to 999
abbrev pub HasReplyStatus : Scripted → Type 0
HasReplyStatus (Reply reply) = (200 ≤ reply.status) × (reply.status ≤ 999)
HasReplyStatus other = ⊤

-- a count of failures, and one of lapses, after an outcome
abbrev pub with_failure : Outcome → ℕ → ℕ
with_failure outcome.Failed count = raised count
with_failure other count = count

abbrev pub with_lapse : Outcome → ℕ → ℕ
with_lapse outcome.TimedOut count = raised count
with_lapse other count = count

-- a backend after an exchange of this request that came to this outcome
abbrev pub exchanged : BackendFacts → WireRequest → Outcome → BackendFacts
exchanged facts request result = record {
  sent = facts.sent ++ request ∷ [];
  given = facts.given ++ result ∷ [];
  to_come = drop 1 facts.to_come;
  faults = with_failure result facts.faults;
  lapses = with_lapse result facts.lapses;
}
