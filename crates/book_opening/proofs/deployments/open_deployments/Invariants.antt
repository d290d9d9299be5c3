use Rattle.book_rules.specs.Good.{takes_deployment}
use Rattle.book_rules.specs.Stored.{deployed_of}
use Rattle.book_opening.proofs.Walks.{IsRead}
use Rattle.book_opening.proofs.deployments.open_deployments.Given as goal

-- the rows so far are taken and read
abbrev pub invariant-loop-i : goal.invariant-loop-i
invariant-loop-i l = IsRead (takes_deployment l.tables.lists) deployed_of l.tables.lists.deployments l.i l.deployments.items
