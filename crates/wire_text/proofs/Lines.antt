-- Bytes behind bytes.
use Rattle.std.proofs.Common.{◌≡◌, ℕ, List, ◌++◌, append_assoc, ap, ◌∙◌}

-- four pieces, one behind another
pub four : (made a b c d : List ℕ) → (((made ++ a) ++ b) ++ c) ++ d ≡ made ++ (((a ++ b) ++ c) ++ d)
four made a b c d = ap (λ x. (x ++ c) ++ d) (append_assoc made a b) ∙ ap (λ x. x ++ d) (append_assoc made (a ++ b) c) ∙ append_assoc made ((a ++ b) ++ c) d
