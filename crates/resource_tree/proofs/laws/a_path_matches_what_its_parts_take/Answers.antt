use Rattle.std.proofs.Common.{subst}
use Rattle.resource_tree.specs.Matching.{Takes}
use Rattle.resource_tree.proofs.Taken.{matched_takes, taken_matches}
use Rattle.resource_tree.proofs.laws.a_path_matches_what_its_parts_take.Goals as goal

pub returns : goal.returns
returns c = λ parts segments found last. (λ m. subst (Takes parts segments) m.1 (matched_takes parts segments last m.0), λ takes. taken_matches takes)
