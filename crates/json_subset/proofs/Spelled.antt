-- Reading and the grammar say the same.
use Rattle.std.proofs.Common.{◌≡◌, ℕ, List, sym, ◌∙◌, subst}
use Rattle.std.specs.Prelude.{Ok, Err, Result, IfOk}
use Rattle.std.specs.Str.{is_utf8}
use Rattle.std.specs.Str.Lossy.{utf8_valid_len}
use Rattle.std.proofs.lemmas.Str.{IsUtf8-from_is_utf8}
use Rattle.json_subset.specs.declared.fault.JsonFault.{JsonFault}
use Rattle.json_subset.specs.declared.fault.JsonFault.TheVariants.{NotUtf8}
use Rattle.json_subset.specs.Tree.{Tree}
use Rattle.json_subset.specs.Grammar.{Spells}
use Rattle.json_subset.specs.Reading.{json, document}
use Rattle.json_subset.specs.Views.{Gives}
use Rattle.json_subset.proofs.Choices.{ok_if, ok_map}
use Rattle.json_subset.proofs.Complete.{document_complete}
use Rattle.json_subset.proofs.Sound.{Texted, document_read}
use Rattle.json_subset.proofs.Spans.{known}
use Rattle.json_subset.proofs.Whole.{json_document}

pub json_spelled : (bs : List ℕ) → IfOk (json bs) (Spells bs)
json_spelled bs =
    ok_if (Spells bs) (is_utf8 bs) (document bs) (Err (NotUtf8 (utf8_valid_len bs)))
    (λ h. ok_map (Texted bs) (Spells bs) (document bs) (document_read bs) (λ t k. record { utf8 = IsUtf8-from_is_utf8 bs h; text = k.text; shallow = k.shallow; distinct = k.distinct }))
    (λ h. tt)

pub read_is_spelled : (bs : List ℕ) (t : Tree) → json bs ≡ Ok t → Spells bs t
read_is_spelled bs t e = known (Spells bs) (json bs) t (json_spelled bs) e

pub spelled_is_read : (bs : List ℕ) (t : Tree) → Spells bs t → json bs ≡ Ok t
spelled_is_read bs t s = json_document bs s.utf8 ∙ document_complete bs t s.text s.shallow s.distinct

right : Tree → Result Tree JsonFault
right t = Ok t

pub one_tree : (bs : List ℕ) (t u : Tree) → Spells bs t → Spells bs u → t ≡ u
one_tree bs t u p q = let e = sym (spelled_is_read bs t p) ∙ spelled_is_read bs u q in cc

-- of what was read
pub gives_spelled : {X : Type 0} (view : X → Tree) (bs : List ℕ) (r : Result X JsonFault) → Gives view r (json bs) → IfOk r (λ d. Spells bs (view d))
gives_spelled view bs (Ok d) h = read_is_spelled bs (view d) h
gives_spelled view bs (Err e) h = tt

pub gives_only : {X : Type 0} (view : X → Tree) (bs : List ℕ) (r : Result X JsonFault) → Gives view r (json bs) → (t : Tree) → Spells bs t → Gives view r (Ok t)
gives_only view bs r h t s = let P : Result Tree JsonFault → Type 0 = Gives view r in subst P (spelled_is_read bs t s) h
