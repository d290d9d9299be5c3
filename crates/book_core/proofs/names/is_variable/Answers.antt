use Rattle.std.proofs.Common.{rules, ◌≡◌, ℕ, ◌≤◌, length, Bool, true, false, ◌&&◌, refl, ap, sym, ◌∙◌, arith}
use Rattle.std.specs.Prelude.{nat_le}
use Rattle.gw_base.specs.Names.{is_name}
use Rattle.record_fields.specs.Coding.{is_utf8}
use Rattle.record_fields.proofs.Utf8.{told_utf8}
use Rattle.book_rules.specs.Names.{is_variable}
use Rattle.book_core.proofs.names.is_variable.Goals as goal

both_hold : (a b c : Bool) → a ≡ true → b ≡ true → (a && b && c) ≡ c
both_hold true true c e f = refl
both_hold true false c e f = absurd cc
both_hold false b c e f = absurd cc

pub returns-then-is_name : goal.returns-then-is_name
unfolding is_variable
returns-then-is_name c =
    let told : is_utf8 c.args.value.now ≡ true = told_utf8 c.args.value.now c.as_str-text.result.now c.as_str-text.ensures c.as_str-text.utf8 in
    let named : is_name c.args.name.now ≡ true = ap is_name (sym c.as_str.ensures) ∙ sym c.is_name.ensures ∙ c.if-is_name.true in
    ap (λ text. nat_le (length text) 2048) c.as_str-text.ensures ∙ sym (both_hold (is_name c.args.name.now) (is_utf8 c.args.value.now) (nat_le (length c.args.value.now) 2048) named told)
