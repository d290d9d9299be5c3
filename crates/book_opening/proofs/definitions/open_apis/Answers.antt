use Rattle.std.proofs.Common.{sym, refl, ◌∙◌}
use Rattle.book_rules.specs.Good.{takes_api}
use Rattle.book_rules.specs.Stored.{definition_of}
use Rattle.book_opening.proofs.Walks.{read_goes_on, read_stops}
use Rattle.book_opening.proofs.definitions.open_apis.Goals as goal

pub returns-in_default-clause-refused : goal.returns-in_default-clause-refused
returns-in_default-clause-refused c = (
  refl,
  read_stops takes_api definition_of c.args.rows.now c.loop-i.i c.loop-i.definitions.items c.index-rows-i.result c.loop-i-test.true c.index-rows-i.is
      (sym c.in_default.is ∙ c.in_ok-definition.ensures) c.loop-i.invariant,
)

pub loop-i-preserved : goal.loop-i-preserved
loop-i-preserved c =
    let more =
    read_goes_on takes_api definition_of c.args.rows.now c.loop-i.i c.loop-i.definitions.items c.index-rows-i.result c.in-Some.definition c.loop-i-test.true c.index-rows-i.is
    (sym c.in-Some.is ∙ c.in_ok-definition.ensures) c.loop-i.invariant in
    rw c.in_ok-push.ensures.items more
