-- What reading answers, and what a text is.
use Rattle.std.proofs.Common.{◌≡◌, ℕ, List, Ok, refl, subst}
use Rattle.jsonpath_core.specs.declared.fault.PathFault.{PathFault}
use Rattle.jsonpath_core.specs.declared.fault.PathFault.TheVariants.{BadPath, Memory}
use Rattle.jsonpath_core.specs.Faults.{IsBadAt}
use Rattle.jsonpath_core.specs.Reading.{path_of}
use Rattle.jsonpath_core.specs.Spelling.{IsPath}
use Rattle.jsonpath_core.specs.Steps.{Step}
use Rattle.jsonpath_core.specs.Views.{Fails}
use Rattle.jsonpath_core.proofs.Complete.{path_read}
use Rattle.jsonpath_core.proofs.Stuck.{path_stuck}

-- a path is refused for want of memory alone
pub fails_a_path : (text : List ℕ) (steps : List Step) (fault : PathFault) → Fails fault (path_of text) → IsPath text steps → fault ≡ Memory
fails_a_path text steps Memory h p = refl
fails_a_path text steps (BadPath at) h p = let read = path_read text steps p in absurd (cc)

pub reads_steps : (text : List ℕ) (first second : List Step) → path_of text ≡ Ok first → IsPath text second → first ≡ second
reads_steps text first second e p = let read = path_read text second p in cc

-- and any other fault is where the text is bad
pub fails_where_bad : (text : List ℕ) (at : ℕ) (fault : PathFault) → Fails fault (path_of text) → fault ≡ BadPath at → IsBadAt text at
fails_where_bad text at fault h e = path_stuck text at (subst (λ f. Fails f (path_of text)) e h)
