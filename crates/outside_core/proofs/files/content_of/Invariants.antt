use Rattle.std.proofs.Common.{◌≡◌, length}
use Rattle.outside_core.specs.Files.{content_of}
use Rattle.outside_core.proofs.files.content_of.Given as goal

abbrev pub invariant-loop-rest : goal.invariant-loop-rest
invariant-loop-rest l = content_of l.name l.rest ≡ content_of l.name l.files

abbrev pub decreases-loop-rest : goal.decreases-loop-rest
decreases-loop-rest l = length l.rest
