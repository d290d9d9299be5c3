use Rattle.std.proofs.Common.{◌∙◌}
use Rattle.policy_memory.proofs.Recalling.{found-remembered}
use Rattle.policy_memory.proofs.lessons.PolicyMemory.recall.Goals as goal

pub returns : goal.returns
returns c = λ happened next r. c.look.ensures ∙ found-remembered happened next c.args.self.now c.args.name.now c.args.t r
