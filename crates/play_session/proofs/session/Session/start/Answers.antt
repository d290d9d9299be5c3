use Rattle.std.proofs.Common.{◌≡◌, [], Some, ap, sym, subst, ◌∙◌}
use Rattle.play_session.specs.Sessions.{IsOfPlay, IsSeated}
use Rattle.play_session.proofs.Sitting.{first_seated}
use Rattle.play_session.proofs.Taking.{fresh, started_is, none_is_named}
use Rattle.play_session.proofs.session.Session.start.Goals as goal

pub unreachable-requires : goal.unreachable-requires
unreachable-requires g c =
    let keeper : c.new-keeper.result ≡ fresh c.args.fails.items =
    c.new-keeper.ensures ∙ ap (λ l. record { lists = l; staged = []; faults = 0; loads = 0; planned = record { fails = c.args.fails.items; calls = 0 } }) c.new.ensures in
    none_is_named c.args.fails.items c.new-keeper.result c.in-Err-default-BadStore.field-0-1 _ _ _ keeper c.in-Err-default-BadStore.field-0-1-is c.in-Err-default-BadStore.ensures.failed

pub invariant_of-result : goal.invariant_of-result
invariant_of-result g c =
    let keeper : c.new-keeper.result ≡ fresh c.args.fails.items =
    c.new-keeper.ensures ∙ ap (λ l. record { lists = l; staged = []; faults = 0; loads = 0; planned = record { fails = c.args.fails.items; calls = 0 } }) c.new.ensures in
    let same = ap (λ b. b.base) c.of-started.ensures in
    subst (λ base. IsSeated c.in-Ok-start.desk base (Some c.in-Ok-start.seat) × IsOfPlay base) (sym same) (
      first_seated c.in-Ok-start.desk c.in-Ok.book.base c.in-Ok-start.seat c.in-Ok-start.ensures.first,
      (c.args.limits, c.args.fails.items, started_is c.args.fails.items c.args.limits c.new-keeper.result c.in-Ok.book.base c.in-Ok.book.history _ keeper c.in-Ok.ensures.started),
    )
