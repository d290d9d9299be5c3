-- The entries of a map, as a list of keys and values.
use Rattle.std.proofs.Common.{◌≡◌, ℕ, suc, List, [], ◌∷◌, map, length, refl, ap}
use Rattle.std.specs.Rc.{rc_str_bytes}
use Rattle.std.specs.declared.rc.RcStr.{RcStr}
use Rattle.std.specs.declared.alloc.Global.{Global}
use Rattle.vtl_values.specs.Val.{Val, text}
use Rattle.vtl_values.specs.Vals.{rows_of}
use Rattle.vtl_values.specs.Parts.{entry_keys}
use Rattle.vtl_methods.specs.Methods.{pair, pairs}

pub keys_are : (es : List (RcStr Global × Val)) → entry_keys (rows_of es) ≡ map (λ e. rc_str_bytes e.0) es
keys_are [] = refl
keys_are (e ∷ es) = ap (λ (ks : List (List ℕ)). rc_str_bytes e.0 ∷ ks) (keys_are es)

pub pairs_are : (es : List (RcStr Global × Val)) → pairs (rows_of es) ≡ map (λ e. pair (rc_str_bytes e.0) e.1) es
pairs_are [] = refl
pairs_are (e ∷ es) = ap (λ (vs : List Val). pair (rc_str_bytes e.0) e.1 ∷ vs) (pairs_are es)

pub texts_are : (es : List (RcStr Global × Val)) → map text (entry_keys (rows_of es)) ≡ map (λ e. text (rc_str_bytes e.0)) es
texts_are [] = refl
texts_are (e ∷ es) = ap (λ (vs : List Val). text (rc_str_bytes e.0) ∷ vs) (texts_are es)

pub keys_count : (es : List (RcStr Global × Val)) → length (entry_keys (rows_of es)) ≡ length es
keys_count [] = refl
keys_count (e ∷ es) = ap suc (keys_count es)
