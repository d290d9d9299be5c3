use Rattle.std.proofs.Common.{◌≡◌, ◌∙◌, ap, sym, subst, IsErr, OnErr, Result, Ok, Err, Option, Some, None, IfSome}
use Rattle.std.specs.Prelude.{IsSome}
use Rattle.std.proofs.lemmas.List.{get_or-set_same}
use Rattle.keeper_core.specs.Joins.{join_at, no_join, numbers_in, with_numbers}
use Rattle.keeper_core.specs.Keeping.{HasJoin}
use Rattle.keeper_core.specs.Lists.{Lists, join_row}
use Rattle.keeper_core.specs.declared.rows.JoinRow.{JoinRow}
use Rattle.keeper_core.proofs.Rewriting.{written_back}
use Rattle.keeper_core.proofs.keeping.rewrite_at.Goals as goal

has_join : (tables : Option Lists) (lists : Lists) (row : JoinRow) → IfSome tables (λ told. told ≡ lists) → IsSome (join_row lists row.plan row.key) → HasJoin tables row
has_join None lists row told there = tt
has_join (Some here) lists row told there = subst (λ (l : Lists). IsSome (join_row l row.plan row.key)) (sym told) there

pub rewrite-kept-requires-clause-there : goal.rewrite-kept-requires-clause-there
rewrite-kept-requires-clause-there g c =
    let lists = c.args.tables.now.lists in
    let row : c.join_at-2.result.now ≡ with_numbers (join_at lists c.args.at) c.args.numbers =
    c.join_at-2.ensures.row ∙ ap (λ l. join_at l c.args.at) c.write_join.ensures.joins ∙ get_or-set_same lists.joins c.args.at _ no_join c.requires.inside in
    subst (HasJoin (g.K.Keeper.facts c.args.keeper.now).tables) (sym row)
    (has_join (g.K.Keeper.facts c.args.keeper.now).tables lists (with_numbers (join_at lists c.args.at) c.args.numbers) c.requires.told
    (subst (λ (r : JoinRow). IsSome (join_row lists r.plan r.key)) c.join_at.ensures.row c.join_at.ensures.there))

pub returns-then-is_err-clause-err : goal.returns-then-is_err-clause-err
returns-then-is_err-clause-err g c =
    let lists = c.args.tables.now.lists in
    on_err c.rewrite-kept.result
    (written_back lists c.args.at c.args.numbers c.numbers-earlier.result c.requires.inside (c.numbers-earlier.ensures ∙ ap numbers_in c.join_at.ensures.row)
    c.write_join.new.self.lists c.write_join-then-is_err.new.self.lists c.write_join.ensures.joins c.write_join-then-is_err.ensures.joins)
  where
    on_err : {T E : Type 0} {P : Type 0} (r : Result T E) → P → OnErr r P
    on_err (Ok v) p = tt
    on_err (Err e) p = p
