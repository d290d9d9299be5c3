use Rattle.std.proofs.Common.{rules, ◌≡◌, ◌∙◌, ap, sym, find, Some, None, Option, List, ℕ}
use Rattle.std.specs.Option.{option_and_then, option_copied}
use Rattle.keeper_core.specs.Lists.{is_key, key_row}
use Rattle.key_index.specs.Indexes.{key_in}
use Rattle.book_opening.proofs.Keyed.{key_found}
use Rattle.book_rules.specs.PlanCommands.{key_with}
use Rattle.book_core.proofs.Written.{key_stands}
use Rattle.book_core.proofs.finds.find_key.Goals as goal

pub returns-in-Some-clause-value : goal.returns-in-Some-clause-value
returns-in-Some-clause-value c =
    let lists = c.args.tables.now.lists in
    let found = key_found lists.keys (key_in c.args.ready.now.keys) c.args.value.now (rw c.keys.ensures.rows at c.keys.ensures.order) c.requires.ready.keys in
    let named : key_in c.args.ready.now.keys c.args.value.now ≡ Some c.in-Some.key.now = sym c.find.ensures ∙ ap option_copied c.in-Some.is in
    c.key.ensures ∙ ap (key_row lists) c.as_str.ensures ∙ sym (found ∙ ap (option_and_then (λ k. find (is_key k) lists.keys)) named)

pub returns-in-Some-clause-row : goal.returns-in-Some-clause-row
returns-in-Some-clause-row c = key_stands c.args.tables.now.lists c.as_str.result.now (option_copied c.key.result) c.key.ensures

pub returns-in-None-clause-value : goal.returns-in-None-clause-value
returns-in-None-clause-value c =
    let lists = c.args.tables.now.lists in
    let found = key_found lists.keys (key_in c.args.ready.now.keys) c.args.value.now (rw c.keys.ensures.rows at c.keys.ensures.order) c.requires.ready.keys in
    let named : key_in c.args.ready.now.keys c.args.value.now ≡ None = sym c.find.ensures ∙ ap option_copied c.in-None.is in
    sym (found ∙ ap (option_and_then (λ k. find (is_key k) lists.keys)) named)
