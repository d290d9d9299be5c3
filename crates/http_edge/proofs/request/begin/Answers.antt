use Rattle.std.proofs.Common.{arith}
use Rattle.std.proofs.lemmas.List.{length-take}
use Rattle.http_edge.proofs.request.begin.Goals as goal

pub skip-requires : goal.skip-requires
skip-requires c = omega (arith, c.requires.within.section.len_fits, length-take 10240 c.args.held.now)
