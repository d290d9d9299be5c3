use Rattle.http_framing.proofs.ChunkGrows.{trailers_done, trailers_room, trailers_stopped}
use Rattle.http_framing.proofs.trailers.read_trailers.Goals as goal

pub skip-requires : goal.skip-requires
skip-requires g c = trailers_room c.await_trailers.new.held c.in-Ok.n c.in-Ok.ensures.trailers

pub returns-in-Ok-clause-trailers : goal.returns-in-Ok-clause-trailers
returns-in-Ok-clause-trailers g c = trailers_done _ _ c.await_trailers.new.held _ _ c.in-Ok.n c.in-Ok.ensures.trailers c.skip.ensures (c.in-Ok.ensures.same (λ e. cc))

pub returns-in-Err-clause-trailers : goal.returns-in-Err-clause-trailers
returns-in-Err-clause-trailers g c = trailers_stopped _ _ c.await_trailers.new.held _ c.in-Err.fault c.in-Err.ensures.trailers c.await_trailers.ensures.taken (λ n. c.in-Err.ensures.same (λ e. n (cc)))
