use Rattle.std.proofs.Common.{arith, subst}
use Rattle.turn_desk.specs.Entries.{Grows}
use Rattle.turn_desk.proofs.Keeps.{commits_as, settles_as}
use Rattle.turn_desk.proofs.turn.commit.Goals as goal

pub fetch_add-requires : goal.fetch_add-requires
fetch_add-requires g c = let t = c.requires.turn in
    let grown = subst (λ b. Grows g.M.Machine.seat_of c.args.token.now.me.0.known.number b t.1 (g.M.Machine.history t.2)) c.if-taken.true t.5 in
    (c.requires.desk.0, omega arith, commits_as _ _ _ _ _ _ _ t.0 t.1 _ t.2 grown.0 t.3 t.4 grown.1 grown.2)

pub fetch_add-requires-else-taken : goal.fetch_add-requires-else-taken
fetch_add-requires-else-taken g c = let t = c.requires.turn in
    let same = subst (λ b. Grows g.M.Machine.seat_of c.args.token.now.me.0.known.number b t.1 (g.M.Machine.history t.2)) c.if-taken.false t.5 in
    (c.requires.desk.0, omega arith, settles_as _ _ _ _ _ _ _ t.0 t.1 _ t.2 t.3 t.4 same)
