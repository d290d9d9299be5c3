use Rattle.std.proofs.Common.{◌≡◌, ◌<◌, ℕ, ℤ, ◌+ℤ◌, List, [], ◌∷◌, ◌++◌, codes, map, ap, sym, ◌∙◌, append_assoc, length-append, arith, rules, to_z, of_z, w64}
use Rattle.std.specs.String.{string_bytes}
use Rattle.std.proofs.lemmas.Int.{to_z-of_z}
use Rattle.std.specs.Fmt.{signed_decimal}
use Rattle.vtl_values.specs.Ranges.{span, counted, toward, distance}
use Rattle.vtl_values.specs.Printed.{joined, more}
use Rattle.vtl_values.proofs.Fronts.{front_within, last_front, refused}
use Rattle.vtl_values.proofs.Numbers.{span_takes}
use Rattle.vtl_values.proofs.printing.print_range.Goals as goal

pub returns-then-most-abs_diff-clause-writes : goal.returns-then-most-abs_diff-clause-writes
returns-then-most-abs_diff-clause-writes c =
    let far : c.args.most < distance c.args.first c.args.last = search rules in
    omega (arith, far, span_takes c.args.first c.args.last, length-append (joined (map signed_decimal (span c.args.first c.args.last))) (93 ∷ []))

-- the numbers of a range behind its first
abbrev others : ℤ → ℤ → List ℕ
others f l = more (map signed_decimal (counted (toward f l) (f +ℤ toward f l) (distance f l)))

-- and between its brackets
whole_range : (f l : ℤ) → codes "[" ++ joined (map signed_decimal (span f l)) ++ codes "]" ≡ codes "[" ++ (signed_decimal f ++ (others f l ++ codes "]"))
unfolding span
whole_range f l = ap (λ z. 91 ∷ z) (append_assoc (signed_decimal f) (others f l) (93 ∷ []))

whole_as : (first last f l : ℤ) → f ≡ first → l ≡ last → codes "[" ++ joined (map signed_decimal (span first last)) ++ codes "]" ≡ codes "[" ++ (signed_decimal f ++ (others f l ++ codes "]"))
whole_as first last f l ef el =
    ap (λ z. codes "[" ++ joined (map signed_decimal (span z last)) ++ codes "]") (sym ef)
    ∙ ap (λ z. codes "[" ++ joined (map signed_decimal (span f z)) ++ codes "]") (sym el)
    ∙ whole_range f l

behind_first : (t0 t u f : List ℕ) → t ≡ t0 ++ 91 ∷ [] → u ≡ t ++ f → u ≡ t0 ++ (91 ∷ f)
behind_first t0 t u f e h = h ∙ ap (λ z. z ++ f) e ∙ append_assoc t0 (91 ∷ []) f

pub returns-in_err-write_whole-clause-front : goal.returns-in_err-write_whole-clause-front
returns-in_err-write_whole-clause-front c =
    let f : ℤ = to_z w64 (of_z w64 c.args.first) in
    let l : ℤ = to_z w64 (of_z w64 c.args.last) in
    let whole = whole_as c.args.first c.args.last f l (to_z-of_z w64 c.args.first c.ranges.first) (to_z-of_z w64 c.args.last c.ranges.last) in
    refused c.from_residual-in_err-write_whole.result
    (front_within (string_bytes c.args.text.now) (string_bytes c.write.new.text) (string_bytes c.write_whole.new.text) (codes "[") (signed_decimal f) (others f l ++ codes "]") _
    c.in_ok-write.ensures.writes.0 whole c.in_err-write_whole.ensures.front)

pub returns-in_err-write_counted-clause-front : goal.returns-in_err-write_counted-clause-front
returns-in_err-write_counted-clause-front c =
    let f : ℤ = to_z w64 (of_z w64 c.args.first) in
    let l : ℤ = to_z w64 (of_z w64 c.args.last) in
    let whole = whole_as c.args.first c.args.last f l (to_z-of_z w64 c.args.first c.ranges.first) (to_z-of_z w64 c.args.last c.ranges.last) in
    refused c.from_residual-in_err-write_counted.result
    (front_within (string_bytes c.args.text.now) (string_bytes c.write_whole.new.text) (string_bytes c.write_counted.new.text) (91 ∷ signed_decimal f) (others f l) (codes "]") _
    (behind_first (string_bytes c.args.text.now) (string_bytes c.write.new.text) (string_bytes c.write_whole.new.text) (signed_decimal f) c.in_ok-write.ensures.writes.0 c.in_ok-write_whole.ensures.writes.0)
    whole c.in_err-write_counted.ensures.front)

pub returns-clause-front : goal.returns-clause-front
returns-clause-front c =
    let f : ℤ = to_z w64 (of_z w64 c.args.first) in
    let l : ℤ = to_z w64 (of_z w64 c.args.last) in
    let whole = whole_as c.args.first c.args.last f l (to_z-of_z w64 c.args.first c.ranges.first) (to_z-of_z w64 c.args.last c.ranges.last) in
    let text = string_bytes c.args.text.now in
    last_front text (string_bytes c.write_counted.new.text) (string_bytes c.write-2.new.text) (91 ∷ (signed_decimal f ++ others f l)) (codes "]") _ c.write-2.result
    (c.in_ok-write_counted.ensures.writes.0
    ∙ ap (λ z. z ++ others f l) (behind_first text (string_bytes c.write.new.text) (string_bytes c.write_whole.new.text) (signed_decimal f) c.in_ok-write.ensures.writes.0 c.in_ok-write_whole.ensures.writes.0)
    ∙ append_assoc text (91 ∷ signed_decimal f) (others f l))
    (whole ∙ ap (λ z. 91 ∷ z) (sym (append_assoc (signed_decimal f) (others f l) (93 ∷ []))))
    c.write-2.ensures.front
