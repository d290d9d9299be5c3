use Rattle.std.proofs.Common.{◌≡◌, true, false, Some, Err, ◌∙◌, ap}
use Rattle.keeper_core.specs.declared.keeper.KeepFault.TheVariants.{Failed, Memory}
use Rattle.book_core.specs.Keeps.{Went}
use Rattle.book_core.proofs.Asking.{went_kept, went_lost, stays_as_it_was}
use Rattle.book_core.proofs.current.write.Goals as goal

pub returns-in-Ok-clause-keeper : goal.returns-in-Ok-clause-keeper
returns-in-Ok-clause-keeper g c =
    let before = g.K.Keeper.facts c.args.keeper.now in
    let now = g.K.Keeper.facts c.keep.new.keeper in
    went_kept c.args.change.row before now c.keep.result c.in-Ok.field-0 c.in-Ok.is c.keep.ensures.ok c.keep.ensures.staged c.keep.ensures.cause c.keep.ensures.planned

pub returns-in-Err-Failed-clause-keeper : goal.returns-in-Err-Failed-clause-keeper
returns-in-Err-Failed-clause-keeper g c =
    let before = g.K.Keeper.facts c.args.keeper.now in
    let now = g.K.Keeper.facts c.keep.new.keeper in
    went_lost c.args.change.row before now c.keep.result (c.in-Err-Failed.is ∙ ap Err c.in-Err-Failed.field-0-is) c.keep.ensures.err c.keep.ensures.staged c.keep.ensures.cause c.keep.ensures.planned

pub returns-clause-stays : goal.returns-clause-stays
returns-clause-stays g c =
    let before = g.K.Keeper.facts c.args.keeper.now in
    let now = g.K.Keeper.facts c.keep.new.keeper in
    stays_as_it_was before now c.keep.result (c.in-Err-Memory.is ∙ ap Err c.in-Err-Memory.field-0-is) c.keep.ensures.err c.keep.ensures.staged c.keep.ensures.cause c.keep.ensures.planned
