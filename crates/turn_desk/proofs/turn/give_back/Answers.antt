use Rattle.std.proofs.Common.{arith, subst, sym, ap, ◌∙◌}
use Rattle.turn_desk.specs.Entries.{Grows, HasNoneFrom, history_in}
use Rattle.turn_desk.specs.Steps.{commits_to}
use Rattle.turn_desk.proofs.Keeps.{commits_at, serves_as}
use Rattle.turn_desk.proofs.turn.give_back.Goals as goal

pub commit-requires-clause-turn : goal.commit-requires-clause-turn
commit-requires-clause-turn g c = let t = c.requires.turn in
    let now = commits_at g.M.Machine.history g.M.Machine.seat_of c.args.token.now.me _ t.0 t.1 c.args.machine t.2 c.requires.out c.exchange-nothing.ensures.3 in
    (t.0, t.1, c.args.machine, ap (λ m. m.0.phase) now, ap (λ m. m.1) now, subst (λ m. Grows g.M.Machine.seat_of m.0.known.number c.args.taken t.1 (g.M.Machine.history c.args.machine)) (sym now) t.3)

pub fetch_add-served-requires : goal.fetch_add-served-requires
fetch_add-served-requires g c = let t = c.requires.turn in
    let now = commits_at g.M.Machine.history g.M.Machine.seat_of c.args.token.now.me _ t.0 t.1 c.args.machine t.2 c.requires.out c.exchange-nothing.ensures.3 in
    let all = c.commit.ensures.done ∙ ap (λ m. (commits_to g.M.Machine.history g.M.Machine.seat_of m, m.1)) now in (
      c.commit.ensures.desk ∙ (c.exchange-nothing.ensures.0 ∙ c.requires.desk.0),
      omega arith,
      serves_as _ _ _ _ _ _ _ t.0 _ c.args.machine (ap (λ m. m.0.phase) all) (ap (λ m. m.1) all) (sym (ap (λ m. m.0.known.seen) all)) (ap (λ m. m.0.known.base) all ∙ c.requires.based),
    )
