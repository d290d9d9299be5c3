use Rattle.std.proofs.Common.{◌≡◌, [], take}
use Rattle.wire_text.specs.Queries.{query_of}
use Rattle.wire_text.proofs.query.query_text.Given as goal

-- the query so far is that of the first pairs
abbrev pub invariant-loop-pair : goal.invariant-loop-pair
invariant-loop-pair l = (l.query.prefix ≡ []) × (l.query.form ≡ query_of (take l.pair-index l.pairs))
