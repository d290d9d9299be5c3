use Rattle.std.proofs.Common.{arith, ◌≡◌, take}
use Rattle.std.proofs.lemmas.Grind.{common_steps}
use Rattle.http_framing.proofs.Steps.{bytes_done}
use Rattle.http_framing.proofs.body.read_bytes.Goals as goal

pub returns-clause-bytes : goal.returns-clause-bytes
returns-clause-bytes g c =
    let held = c.await_bytes.new.held in
    let body : c.of.result ≡ take c.args.n held = grind (arith, common_steps) in
    bytes_done _ _ held c.skip.new.self c.of.result _ c.args.n c.in-Ok.ensures.bytes body c.skip.ensures (c.in-Ok.ensures.same (λ e. cc))
