use Rattle.std.proofs.Common.{arith, ◌≡◌, ◌++◌, take}
use Rattle.std.proofs.lemmas.Grind.{common_steps}
use Rattle.http_framing.proofs.ChunkGrows.{data_done, data_room}
use Rattle.http_framing.proofs.chunk.read_data.Goals as goal

pub skip-requires : goal.skip-requires
skip-requires g c = data_room c.args.n c.await_data.new.held c.in-Ok.ensures.data

pub returns-clause-data : goal.returns-clause-data
returns-clause-data g c =
    let added : c.extend_from_slice.new.self.items ≡ c.args.body.now.items ++ take c.args.n c.await_data.new.held = grind (arith, common_steps) in
    data_done _ _ c.await_data.new.held _ _ _ _ c.args.n c.in-Ok.ensures.data added c.skip.ensures (c.in-Ok.ensures.same (λ e. cc))
