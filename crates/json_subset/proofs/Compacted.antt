-- The compact text spells the same tree but for places; so does the text of a part alone.
use Rattle.std.proofs.Common.{◌≡◌, ℕ, ◌≤◌, List, [], length, Bool, false, refl, sym, ap, ◌∙◌, subst}
use Rattle.json_subset.specs.Tree.{Tree}
use Rattle.json_subset.specs.Bare.{IsSameBare}
use Rattle.json_subset.specs.Scan.{after_white}
use Rattle.json_subset.specs.Compact.{outside, compact_from, compacted}
use Rattle.json_subset.specs.Grammar.{Value, IsText, Spells}
use Rattle.json_subset.proofs.Bares.{same_depth, same_distinct}
use Rattle.json_subset.proofs.Moved.{Calm, no_white, dropped}
use Rattle.json_subset.proofs.MovedTrees.{Stands, SameValue, value_moved}
use Rattle.json_subset.proofs.Squeeze.{compact_utf8}

pub calm_end : Calm []
calm_end = record { digit = refl; point = refl; e = refl }

-- a value that stands alone
pub alone : {m : Bool} (t : Tree) {bs rest : List ℕ} (cs : List ℕ) (p : Stands m (SameValue t) bs rest) → cs ≡ p.lead.put [] → (u : Tree) × IsText cs u × IsSameBare t u
alone t cs p e =
    let q = p.moved (length cs) [] calm_end in
    let V : List ℕ → Type 0 = λ z. Value (length cs) z q.0 [] in
    (q.0, record { behind = []; value = subst V (sym (ap after_white e ∙ no_white (p.lead.put []) (p.clean []))) q.2; ended = refl }, sym q.1)

compact_alone : {bs : List ℕ} {t : Tree} (d : IsText bs t) → compacted bs ≡ (value_moved false d.value).lead.put []
compact_alone {bs = bs} d =
    let p = value_moved false d.value in
    dropped bs ∙ p.cut ∙ ap p.lead.put (dropped d.behind ∙ ap (compact_from outside) d.ended)

pub compact_text : (bs : List ℕ) (t : Tree) → IsText bs t → (u : Tree) × IsText (compacted bs) u × IsSameBare t u
compact_text bs t d = alone t (compacted bs) (value_moved false d.value) (compact_alone d)

pub compact_spells : (bs : List ℕ) (t : Tree) → Spells bs t → (u : Tree) × Spells (compacted bs) u × IsSameBare t u
compact_spells bs t s =
    let p = compact_text bs t s.text in
    (p.0, record { utf8 = compact_utf8 outside [] bs s.utf8; text = p.1; shallow = subst (λ k. k ≤ 64) (sym (same_depth t p.0 (sym p.2))) s.shallow; distinct = same_distinct t p.0 (sym p.2) s.distinct }, p.2)
