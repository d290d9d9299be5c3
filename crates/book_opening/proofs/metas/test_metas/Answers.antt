use Rattle.std.proofs.Common.{refl, sym, ◌∙◌}
use Rattle.book_rules.specs.Good.{takes_meta}
use Rattle.book_opening.proofs.Walks.{walk_begins, walk_goes_on, walk_stops, walk_ends}
use Rattle.book_opening.proofs.metas.test_metas.Goals as goal

pub loop-i-init : goal.loop-i-init
loop-i-init c = walk_begins takes_meta c.args.rows.now

pub loop-i-preserved : goal.loop-i-preserved
loop-i-preserved c = walk_goes_on takes_meta c.args.rows.now c.loop-i.i _ _ c.loop-i-test.true refl (sym c.takes_meta.ensures ∙ c.if-not-takes_meta.false) c.loop-i.invariant

pub returns-then-not-takes_meta-clause-refused : goal.returns-then-not-takes_meta-clause-refused
returns-then-not-takes_meta-clause-refused c = (refl, walk_stops takes_meta c.args.rows.now c.loop-i.i _ _ c.loop-i-test.true refl (sym c.takes_meta.ensures ∙ c.if-not-takes_meta.true) c.loop-i.invariant)

pub returns-clause-taken : goal.returns-clause-taken
returns-clause-taken c = walk_ends takes_meta c.args.rows.now c.loop-i.i c.loop-i-test.false c.loop-i.invariant
