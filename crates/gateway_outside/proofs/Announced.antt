-- Before a line is written, none of its fronts but the empty one was.
use Rattle.std.proofs.Common.{ℕ, List, [], Option, refl}
use Rattle.std.proofs.KnownBytes.{Appends-nil}
use Rattle.gw_base.specs.Whole.{AppendsFront}

pub nothing_yet : (written : Option (List ℕ)) (bytes : List ℕ) → AppendsFront written written bytes
nothing_yet written bytes = (bytes, ([], refl, Appends-nil written))
