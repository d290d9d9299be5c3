use Rattle.std.proofs.Common.{◌≡◌, ◌<◌, List, [], arith, length, subst, ◌∙◌}
use Rattle.std.specs.Prelude.{slice_index_or}
use Rattle.std.proofs.lemmas.List.{get_or_default}
use Rattle.sqlite_value.specs.declared.value.Value.{Value}
use Rattle.keeper_sqlite.specs.Answers.{IsRowOf}
use Rattle.keeper_sqlite.proofs.Putting.{put_next}
use Rattle.keeper_sqlite.proofs.loading.put_answer.Goals as goal

pub loop-values-preserved : goal.loop-values-preserved
loop-values-preserved c =
    let put = c.in_ok-put_values.ensures.ok in
    let inside : c.loop-values.values-index < length c.args.answer.now = omega arith in
    let item : c.values-item.result ≡ slice_index_or c.args.answer.now c.loop-values.values-index [] =
    c.values-item.is ∙ get_or_default c.args.answer.now c.loop-values.values-index c.values-item.result [] inside in
    let is : IsRowOf c.args.table (slice_index_or c.args.answer.now c.loop-values.values-index []) put.0 = subst (λ (values : List Value). IsRowOf c.args.table values put.0) item put.1 in
    record {
      number = omega (arith, c.loop-values.invariant.number);
      put = put_next c.args.table c.args.answer.now c.loop-values.values-index put.0 c.args.tables.now.lists c.loop-values.tables.lists c.put_values.new.tables.lists inside c.loop-values.invariant.put is put.2;
    }
