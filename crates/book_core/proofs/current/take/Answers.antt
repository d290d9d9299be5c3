use Rattle.std.proofs.Common.{rules, ◌≡◌, ◌∙◌, ◌+◌, true, false, ap, is_some, sym, subst}
use Rattle.book_rules.specs.History.{rewrites, wants_memory}
use Rattle.book_rules.specs.Machine.{happened_behind, is_shared, outcome_of, recalled, row_of, time_of, told}
use Rattle.book_rules.specs.Commands.{commanded}
use Rattle.book_rules.specs.declared.events.Event.TheVariants.{Admin}
use Rattle.policy_memory.specs.Kept.{Remembers}
use Rattle.policy_memory.specs.Remembered.{remembered}
use Rattle.book_core.specs.Changes.{IsMeant, outcome_in}
use Rattle.book_core.specs.Keeps.{Went}
use Rattle.book_core.specs.Standing.{standing}
use Rattle.book_core.proofs.Remembering.{always_err, remembers_next, shared_wants}
use Rattle.book_core.proofs.current.take.Goals as goal

pub returns-in_ok-taken-in-Admit-clause-keeper : goal.returns-in_ok-taken-in-Admit-clause-keeper
returns-in_ok-taken-in-Admit-clause-keeper g c = λ happened.
    let before = g.K.Keeper.facts c.args.keeper.now in
    let now = g.K.Keeper.facts c.carry_out.new.keeper in
    let prepared = c.admit-prepared.result in
    let same : row_of (standing happened c.args.current.now) c.args.event.now ≡ (outcome_in c.args.current.now.tables.lists prepared).row = search rules in
    let meant : IsMeant (rewrites c.args.event.now) prepared = search rules in
    subst (λ row. Went (rewrites c.args.event.now) row c.in_ok-taken-in-Admit.taken.kept before now) (sym same)
    (c.in_ok-taken-in-Admit.ensures.keeper (rewrites c.args.event.now) meant)

pub returns-in_ok-reply-in-Recall-clause-reply : goal.returns-in_ok-reply-in-Recall-clause-reply
returns-in_ok-reply-in-Recall-clause-reply g c = λ happened r.
    let state = standing happened c.args.current.now in
    let found = c.in_ok-reply-in-Recall.ensures.reply happened c.args.place r
    ∙ ap (λ t. recalled (remembered happened c.in-Recall.name t)) c.time-at-in-Recall.ensures.value in
    subst (λ e. c.in_ok-reply-in-Recall.reply ≡ told (is_some (row_of state e)) (outcome_of state c.args.place e).reply true) (sym c.in-Recall.is) found

pub returns-in_ok-reply-in-Recall-clause-remembers : goal.returns-in_ok-reply-in-Recall-clause-remembers
returns-in_ok-reply-in-Recall-clause-remembers g c = λ happened r.
    let current = c.args.current.now in
    subst (λ e. Remembers (happened_behind (standing happened current) e) (c.args.place + 1) current.policies) (sym c.in-Recall.is)
    (remembers_next happened c.args.place current.policies r)

pub returns-in_err-reply-in-Recall-clause-memory : goal.returns-in_err-reply-in-Recall-clause-memory
returns-in_err-reply-in-Recall-clause-memory g c = λ happened r.
    let state = standing happened c.args.current.now in
    let shared = subst (λ t. is_shared (recalled (remembered happened c.in-Recall.name t)) ≡ true) c.time-at-in-Recall.ensures.value
    (c.in_err-reply-in-Recall.ensures.memory happened c.args.place r) in
    always_err c.from_residual-in_err-reply-in-Recall.result _
    (subst (λ e. wants_memory g.K.Keeper.IN_PLACE e (outcome_of state c.args.place e) ≡ true) (sym c.in-Recall.is)
    (shared_wants (is_shared (recalled (remembered happened c.in-Recall.name (time_of state c.in-Recall.moment)))) g.K.Keeper.IN_PLACE false shared))

pub returns-in_err-taken-in-Admin-clause-memory : goal.returns-in_err-taken-in-Admin-clause-memory
returns-in_err-taken-in-Admin-clause-memory g c = λ happened r.
    let state = standing happened c.args.current.now in
    let moment = c.in-Admin.moment in
    let command = c.in-Admin.command in
    always_err c.from_residual-in_err-taken-in-Admin.result _
    (subst (λ e. wants_memory g.K.Keeper.IN_PLACE e (outcome_of state c.args.place e) ≡ true) (sym c.in-Admin.is)
    (subst (λ t. wants_memory g.K.Keeper.IN_PLACE (Admin moment command) (commanded c.args.current.now.tables.lists t command) ≡ true) c.time-at-in-Admin.ensures.value
    (c.in_err-taken-in-Admin.ensures.memory moment)))

pub returns-in_ok-reply-in-Enter-clause-remembers : goal.returns-in_ok-reply-in-Enter-clause-remembers
returns-in_ok-reply-in-Enter-clause-remembers g c = λ happened r.
    let current = c.args.current.now in
    subst (λ e. Remembers (happened_behind (standing happened current) e) (c.args.place + 1) current.policies) (sym c.in-Enter.is)
    (remembers_next happened c.args.place current.policies r)

pub returns-in_ok-taken-in-Admit-clause-remembers : goal.returns-in_ok-taken-in-Admit-clause-remembers
returns-in_ok-taken-in-Admit-clause-remembers g c = λ happened r.
    let current = c.args.current.now in
    subst (λ e. Remembers (happened_behind (standing happened current) e) (c.args.place + 1) c.carry_out.new.current.policies) (sym c.in-Admit.is)
    (subst (λ k. Remembers happened (c.args.place + 1) k) (sym c.in_ok-taken-in-Admit.ensures.policies) (remembers_next happened c.args.place current.policies r))

pub returns-in-Leave-clause-remembers : goal.returns-in-Leave-clause-remembers
returns-in-Leave-clause-remembers g c = λ happened r.
    let current = c.args.current.now in
    subst (λ e. Remembers (happened_behind (standing happened current) e) (c.args.place + 1) current.policies) (sym c.in-Leave.is)
    (remembers_next happened c.args.place current.policies r)
