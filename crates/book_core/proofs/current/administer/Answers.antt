use Rattle.std.proofs.Common.{rules, ◌≡◌, ◌+◌, true, not, ◌&&◌, OnOk, OnErr, subst, sym}
use Rattle.policy_memory.specs.Kept.{Remembers}
use Rattle.book_rules.specs.Commands.{commanded}
use Rattle.book_rules.specs.History.{rewrites_by, wants_memory}
use Rattle.book_rules.specs.Machine.{happened_by, is_flush, takes_memory}
use Rattle.book_rules.specs.declared.events.Event.TheVariants.{Admin}
use Rattle.book_core.specs.Standing.{standing}
use Rattle.book_core.proofs.Remembering.{always, on_err, or_first, remembers_next, unflushed}
use Rattle.book_core.proofs.current.administer.Goals as goal

pub returns-in_default : goal.returns-in_default
returns-in_default g c =
    let e = c.command.ensures in
    let old = c.args.current.now in
    let asked = c.args.asked.now in
    let outcome = commanded old.tables.lists c.args.at asked in
    record {
      reply = e.reply;
      lists = e.lists;
      remembers = λ happened r.
          always c.command.result (Remembers (happened_by (standing happened old) asked) (c.args.place + 1) c.command.new.current.policies)
          (subst (λ h. Remembers h (c.args.place + 1) c.command.new.current.policies) (sym (unflushed (standing happened old) asked c.in_default.not-Flush))
          (subst (λ k. Remembers happened (c.args.place + 1) k) (sym e.policies) (remembers_next happened c.args.place old.policies r)));
      keeper = e.keeper;
      ready = e.ready;
      latest = e.latest;
      closing = e.closing;
      err = e.err;
      unchanged = search rules;
      stays = e.stays;
      memory = λ moment.
          on_err c.command.result ((takes_memory outcome && not (g.K.Keeper.IN_PLACE && rewrites_by asked)) ≡ true) (wants_memory g.K.Keeper.IN_PLACE (Admin moment asked) outcome ≡ true)
          (λ t. or_first (takes_memory outcome && not (g.K.Keeper.IN_PLACE && rewrites_by asked)) (is_flush (Admin moment asked)) t) e.memory;
    }
