-- Dropping white space cuts no character.
use Rattle.std.proofs.Common.{◌≡◌, ℕ, ◌<◌, List, [], ◌∷◌, ◌++◌, refl, sym, subst, arith, Bool, true, false, append_assoc}
use Rattle.std.specs.Prelude.{if◌then◌else◌}
use Rattle.std.specs.Str.{IsUtf8}
use Rattle.std.proofs.lemmas.Str.{IsUtf8-append}
use Rattle.json_subset.specs.Compact.{Place, outside, in_string, behind_backslash, next_place, is_dropped, compact_from}
use Rattle.json_subset.proofs.Choices.{white_byte}
use Rattle.json_subset.proofs.Cut.{utf8_front, utf8_back}

dropped_white : (p : Place) (b : ℕ) → is_dropped p b ≡ true → b < 128
dropped_white outside b e = let h = white_byte b e in omega (arith, h)
dropped_white in_string b e = cc
dropped_white behind_backslash b e = cc

pub compact_utf8 : (p : Place) (before bs : List ℕ) → IsUtf8 (before ++ bs) → IsUtf8 (before ++ compact_from p bs)
compact_utf8 p before [] u = u
compact_utf8 p before (b ∷ bs) u = go (λ v. compact_utf8 p before bs v) (λ v. compact_utf8 (next_place p b) (before ++ b ∷ []) bs v) (is_dropped p b) refl
  where
    go : (IsUtf8 (before ++ bs) → IsUtf8 (before ++ compact_from p bs)) → (IsUtf8 ((before ++ b ∷ []) ++ bs) → IsUtf8 ((before ++ b ∷ []) ++ compact_from (next_place p b) bs)) → (v : Bool) → is_dropped p b ≡ v → IsUtf8 (before ++ (if v then compact_from p bs else b ∷ compact_from (next_place p b) bs))
    go skip keep true e = skip (IsUtf8-append before bs (utf8_front before b bs (dropped_white p b e) u) (utf8_back before b bs (dropped_white p b e) u))
    go skip keep false e =
        let P : List ℕ → Type 0 = IsUtf8 in
        subst P (append_assoc before (b ∷ []) (compact_from (next_place p b) bs)) (keep (subst P (sym (append_assoc before (b ∷ []) bs)) u))
