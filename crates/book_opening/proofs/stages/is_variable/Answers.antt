use Rattle.std.proofs.Common.{◌≡◌, true, false, ◌&&◌, nat_le, length, sym, ap, ◌∙◌}
use Rattle.gw_base.specs.Names.{is_name}
use Rattle.record_fields.specs.Coding.{is_utf8}
use Rattle.book_rules.specs.Names.{is_variable}
use Rattle.book_opening.proofs.Reading.{told_utf8, third}
use Rattle.book_opening.proofs.stages.is_variable.Goals as goal

pub returns-then-is_name : goal.returns-then-is_name
unfolding is_variable
returns-then-is_name c =
    let pair = c.args.pair.now in
    let named : is_name pair.0 ≡ true = ap is_name (sym c.as_str.ensures) ∙ sym c.is_name.ensures ∙ c.if-is_name.true in
    let utf8 : is_utf8 pair.1 ≡ true = told_utf8 pair.1 c.as_str-value.result.now c.as_str-value.ensures c.as_str-value.utf8 in
    ap (λ text. nat_le (length text) 2048) c.as_str-value.ensures ∙ third (is_name pair.0) (is_utf8 pair.1) (nat_le (length pair.1) 2048) named utf8

pub returns-else-is_name : goal.returns-else-is_name
unfolding is_variable
returns-else-is_name c =
    let pair = c.args.pair.now in
    let named : is_name pair.0 ≡ false = ap is_name (sym c.as_str.ensures) ∙ sym c.is_name.ensures ∙ c.if-is_name.false in
    c.if-is_name.false ∙ ap (λ b. b && is_utf8 pair.1 && nat_le (length pair.1) 2048) (sym named)
