-- Parts of a line, decoded one by one.
use Rattle.std.proofs.Common.{◌≡◌, ℕ, ◌+◌, ◌<◌, List, [], ◌∷◌, ◌++◌, length, get_or, drop, Option, Some, None, ap, sym, refl, ◌∙◌, append_assoc, append-nil, arith}
use Rattle.std.proofs.lemmas.List.{drop_more, at_drop_all}
use Rattle.std.specs.Option.{option_and_then, option_map}
use Rattle.record_fields.specs.Coding.{decoded, before_all, all_decoded}

-- some fields, and those of the parts behind them
abbrev pub with_rest : List (List ℕ) → Option (List (List ℕ)) → Option (List (List ℕ))
with_rest fields rest = option_map (λ others. fields ++ others) rest

-- the part that is read next is the first of those left
next_part : (parts : List (List ℕ)) (n : ℕ) (part : List ℕ) → n < length parts → part ≡ get_or parts n part → all_decoded (drop n parts) ≡ option_and_then (λ field. before_all field (all_decoded (drop (n + 1) parts))) (decoded part)
next_part parts n part less is = ap all_decoded (drop_more parts n part less) ∙ ap (λ first. option_and_then (λ field. before_all field (all_decoded (drop (n + 1) parts))) (decoded first)) (sym is)

onto_fields : (fields : List (List ℕ)) (field : List ℕ) (rest : Option (List (List ℕ))) → with_rest (fields ++ field ∷ []) rest ≡ with_rest fields (before_all field rest)
onto_fields fields field None = refl
onto_fields fields field (Some others) = ap (λ all. Some all) (append_assoc fields (field ∷ []) others)

-- where it stands for a field, that one is next
pub field_next : (parts : List (List ℕ)) (n : ℕ) (part field : List ℕ) (fields : List (List ℕ)) → n < length parts → part ≡ get_or parts n part → Some field ≡ decoded part
    → with_rest (fields ++ field ∷ []) (all_decoded (drop (n + 1) parts)) ≡ with_rest fields (all_decoded (drop n parts))
field_next parts n part field fields less is field_is =
    let rest = all_decoded (drop (n + 1) parts) in
    onto_fields fields field rest
    ∙ ap (with_rest fields) (ap (option_and_then (λ first. before_all first rest)) field_is ∙ sym (next_part parts n part less is))

-- where it stands for none, nor do all
pub none_next : (parts : List (List ℕ)) (n : ℕ) (part : List ℕ) (fields : List (List ℕ)) → n < length parts → part ≡ get_or parts n part → decoded part ≡ None → with_rest fields (all_decoded (drop n parts)) ≡ None
none_next parts n part fields less is none =
    ap (with_rest fields) (next_part parts n part less is ∙ ap (option_and_then (λ field. before_all field (all_decoded (drop (n + 1) parts)))) none)

-- where no part is left, the fields are those of all
pub none_left : (parts : List (List ℕ)) (n : ℕ) (fields : List (List ℕ)) → n ≡ length parts → with_rest fields (all_decoded (drop n parts)) ≡ Some fields
none_left parts n fields all = ap (with_rest fields) (at_drop_all all_decoded parts n (omega (arith, all))) ∙ ap (λ them. Some them) (append-nil fields)
