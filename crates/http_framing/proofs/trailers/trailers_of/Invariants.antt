use Rattle.std.proofs.Common.{◌≡◌, drop}
use Rattle.http_framing.specs.Chunks.{trailers_from}
use Rattle.http_framing.specs.declared.trailers.Spot.TheVariants.{Fresh}
use Rattle.http_framing.proofs.trailers.trailers_of.Given as goal

-- going on from here gives what the whole gives
abbrev pub invariant-loop-at : goal.invariant-loop-at
invariant-loop-at l = trailers_from l.at l.spot (drop l.at l.bytes) ≡ trailers_from 0 Fresh l.bytes
