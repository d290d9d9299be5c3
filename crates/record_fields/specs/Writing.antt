-- How fields are written.
use Rattle.std.specs.Prelude.{ℕ, List, [], ◌∷◌, codes}
use Rattle.percent_encoding.specs.Percent.{percent_encode}
use Rattle.record_fields.specs.declared.coding.TheConstants.{CODED}

-- bytes in a line: each outside 33 to 126, and `%`, is coded by `%` and two upper-case hexadecimal digits
abbrev pub coded : List ℕ → List ℕ
coded bytes = percent_encode CODED bytes

-- bytes as a field of a line; of no bytes it is `~`
abbrev pub field : List ℕ → List ℕ
field [] = codes "~"
field (b ∷ bs) = coded (b ∷ bs)
