-- What writing one line behind another comes to.
use Rattle.std.proofs.Common.{ℕ, List, [], ◌++◌, Option, ap, sym, ◌∙◌, append_assoc, refl}
use Rattle.std.specs.Io.KnownBytes.{Appends}
use Rattle.std.proofs.KnownBytes.{Appends-nil, Appends-trans}
use Rattle.gw_base.specs.Whole.{AppendsFront}

pub nothing_yet : (written : Option (List ℕ)) (bytes : List ℕ) → AppendsFront written written bytes
nothing_yet written bytes = (bytes, ([], refl, Appends-nil written))

-- the second was cut
pub cut_second : (old mid new : Option (List ℕ)) (first second : List ℕ) → Appends old mid first → AppendsFront mid new second → AppendsFront old new (first ++ second)
cut_second old mid new first second a f = (f.0, (first ++ f.1.0, ap (λ l. first ++ l) f.1.1 ∙ sym (append_assoc first f.1.0 f.0), Appends-trans old mid new first f.1.0 a f.1.2))
