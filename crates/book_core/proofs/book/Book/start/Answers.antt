use Rattle.std.proofs.Common.{arith, rules, ap, sym, subst, refl, ◌∙◌, ◌≡◌, [], Err, IfSome}
use Rattle.std.proofs.lemmas.Grind.{common_steps}
use Rattle.keeper_core.specs.Held.{Held}
use Rattle.book_rules.specs.History.{Base}
use Rattle.book_opening.specs.Ready.{AreReady}
use Rattle.book_rules.specs.Fits.{AreFit}
use Rattle.book_core.specs.Books.{counts_of}
use Rattle.book_core.proofs.Counted.{counts_of-none}
use Rattle.fit_rows.proofs.Fitting.{opens_fit}
use Rattle.book_core.specs.Starts.{StartFails, FailsAt, is_store_fault}
use Rattle.book_core.proofs.Starting.{by_load, fails_by, keeps_first, remembers_first, stands_first, stands_happened, stated_first}
use Rattle.book_core.specs.Standing.{standing}
use Rattle.book_core.proofs.book.Book.start.Goals as goal

pub returns-in-Err-clause-failed : goal.returns-in-Err-clause-failed
returns-in-Err-clause-failed g c =
    subst (λ f. StartFails (g.K.Keeper.facts c.args.keeper) f (g.K.Keeper.facts c.load.new.self)) (sym c.fault_of.ensures)
    (by_load c.in-Err.fault (g.K.Keeper.facts c.args.keeper) (g.K.Keeper.facts c.load.new.self) c.in-Err.ensures.cause c.in-Err.ensures.good_rows)

pub returns-in-Err-clause-planned : goal.returns-in-Err-clause-planned
returns-in-Err-clause-planned g c =
    subst (λ f. FailsAt (g.K.Keeper.facts c.args.keeper).planned (is_store_fault f)) (sym c.fault_of.ensures)
    (fails_by Held _ _ c.in-Err.fault c.in-Err.ensures.planned)

pub invariant_of-result : goal.invariant_of-result
invariant_of-result g c =
    let base : Base = record { opening = c.in-Ok.tables.lists; limits = c.args.limits; start = g.K.Keeper.facts c.of-started.result.value } in
    let now = g.K.Keeper.facts c.load.new.self in
    let lists : c.in-Ok-stand.current.tables.lists ≡ c.in-Ok.tables.lists = ap (λ s. s.lists) c.in-Ok-stand.ensures.stands in
    record {
      good = c.in-Ok-open.ensures.good;
      order = c.are_in_order.ensures;
      stated = stated_first c.in-Ok-stand.history.items c.in-Ok-stand.ensures.empty;
      stands = ap (λ h. standing h c.in-Ok-stand.current) (sym (stands_happened base.opening c.in-Ok-stand.history.items c.in-Ok-stand.ensures.empty))
          ∙ c.in-Ok-stand.ensures.stands ∙ stands_first base.opening c.in-Ok-stand.history.items c.in-Ok-stand.ensures.empty;
      remembers = remembers_first base.opening c.in-Ok-stand.history.items c.in-Ok-stand.current.policies c.in-Ok-stand.ensures.empty c.in-Ok-stand.ensures.remembers;
      ready = subst (λ l. AreReady l c.in-Ok-stand.current.ready) (sym lists) (subst (λ r. AreReady c.in-Ok.tables.lists r) (sym c.in-Ok-stand.ensures.ready) c.in-Ok-open.ensures.ready);
      fits = subst (λ s. AreFit s.lists s.latest) (sym c.in-Ok-stand.ensures.stands) (opens_fit c.in-Ok.tables.lists c.in-Ok-open.ensures.good);
      counted = c.none.ensures ∙ sym (counts_of-none base.opening) ∙ ap (counts_of base.opening) (sym c.in-Ok-stand.ensures.empty);
      keeps = keeps_first base c.in-Ok-stand.history.items now c.in-Ok-stand.ensures.empty (ap g.K.Keeper.facts c.of-started.ensures)
          (c.in-Ok.ensures.staged ∙ c.requires.nothing_staged)
          (subst (λ t. IfSome t (λ l. c.in-Ok.tables.lists ≡ l)) (sym c.in-Ok.ensures.tables) c.in-Ok.ensures.loaded);
      bytes_are = grind (arith, common_steps, c.in-Ok-stand.ensures.empty);
      within = grind (arith, common_steps);
      entries = grind (arith, common_steps, c.in-Ok-stand.ensures.empty);
      reserved = c.in-Ok-stand.ensures.room;
    }
