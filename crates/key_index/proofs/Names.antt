-- Look-ups in the map of names.
use Rattle.std.proofs.Common.{◌≡◌, ◌∙◌, sym, ap, refl, ℕ, Bool, true, false, List, [], ◌∷◌, map, Option, Some, cond}
use Rattle.std.specs.Prelude.{String}
use Rattle.std.specs.Str.{bytes_eq}
use Rattle.std.specs.String.{string_bytes}
use Rattle.std.specs.Ordering.{is_eq, nat_cmp}
use Rattle.std.specs.Cmp.Lexicographic.{slice_cmp}
use Rattle.std.specs.Map.{lookup}
use Rattle.std.specs.BTreeMap.{BTreeMap, get_by_text}
use Rattle.std.specs.declared.alloc.Global.{Global}
use Rattle.std.proofs.lemmas.Map.Text.{is_eq-slice_cmp}
use Rattle.key_index.specs.Indexes.{key_in}

abbrev named : String Global × List ℕ → List ℕ × List ℕ
named entry = (string_bytes entry.0, entry.1)

in-entries : (es : List (String Global × List ℕ)) (v : List ℕ) → lookup (λ k. is_eq (slice_cmp nat_cmp v (string_bytes k))) es ≡ key_in (map named es) v
in-entries [] v = refl
in-entries (e ∷ es) v =
    ap (λ b. cond b (Some e.1) (lookup (λ k. is_eq (slice_cmp nat_cmp v (string_bytes k))) es)) (is_eq-slice_cmp v (string_bytes e.0))
    ∙ ap (λ rest. cond (bytes_eq v (string_bytes e.0)) (Some e.1) rest) (in-entries es v)

-- a name is found by its bytes
pub by-text : (m : BTreeMap (String Global) (List ℕ)) (v : List ℕ) → get_by_text m v ≡ key_in (map (λ (entry : String Global × List ℕ). (string_bytes entry.0, entry.1)) m.entries) v
by-text m v = in-entries m.entries v
