use Rattle.std.proofs.Common.{◌≡◌, ◌+◌, ◌-◌, ◌∷◌, ◌++◌, [], length, Some, arith, subst, sym, ap, ◌∙◌}
use Rattle.std.proofs.lemmas.List.FromFn.{length-range_with_len}
use Rattle.atomic_table.specs.Table.{opening}
use Rattle.turn_desk.specs.Entries.{entries_of}
use Rattle.turn_desk.specs.Rule.{Ruled}
use Rattle.turn_desk.specs.Views.{first_view, AreApart, numbers_of}
use Rattle.turn_desk.proofs.Joins.{opens}
use Rattle.turn_desk.proofs.Shares.{first_apart}
use Rattle.turn_desk.proofs.desk.Desk.start.Goals as goal

pub new-requires : goal.new-requires
new-requires g c = let m = g.M.Machine in
    let items = c.in_default-push.ensures.items ∙ ap (λ l. l ++ Some c.args.machine ∷ []) c.in-Ok.ensures.items in
    subst (λ xs. Ruled m.history m.base m.seat_of c.args.seats (m.base c.of.result.value) (opening (0 ∷ 0 ∷ 0 ∷ []) xs (first_view c.args.seats (m.base c.of.result.value)))) (sym items)
    (opens m.history m.base m.seat_of c.args.seats (m.base c.of.result.value) c.args.machine c.requires.fresh (ap m.base (sym c.of.ensures)) c.requires.few.0 (omega (arith, c.requires.few)))

pub invariant_of-result-in-Ok-new : goal.invariant_of-result-in-Ok-new
invariant_of-result-in-Ok-new g c =
    let now = c.in-Ok-new.ensures.ok.4 in
    record {
      idle = ap (λ m. m.0.phase) now;
      free = ap (λ m. m.1) now;
      sized = sym (ap (λ m. m.0.known.seats) now);
      numbered = sym (ap (λ m. m.0.known.number) now);
      spared = sym (length-range_with_len 1 (c.args.seats - 1)) ∙ sym (ap (λ m. length m.0.known.spare) now);
      joined = sym (ap (λ m. length m.0.known.ended) now);
      few = omega (arith, c.requires.few);
      apart = subst (λ m. AreApart m.0.known.seats (numbers_of m.0.known)) (sym now) (first_apart g.row.M-Entry.Denot g.row.M-Base.Denot c.args.seats (g.M.Machine.base c.of.result.value) c.requires.few.0);
      own = ap (λ m. m.0.known.mine) now ∙ sym (ap (λ m. entries_of g.M.Machine.seat_of m.0.known.number m.0.known.seen) now);
    }

pub returns-in-Ok-new-clause-whole : goal.returns-in-Ok-new-clause-whole
returns-in-Ok-new-clause-whole g c =
    subst (λ m. 1 + length m.0.known.ended + length m.0.known.spare ≡ m.0.known.seats) (sym c.in-Ok-new.ensures.ok.4) (omega (arith, length-range_with_len 1 (c.args.seats - 1), c.requires.few))
