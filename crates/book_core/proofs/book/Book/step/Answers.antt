use Rattle.std.proofs.Common.{arith, rules, false, ap, sym, subst, refl, ◌∙◌, ◌≡◌, [], ◌∷◌, ◌++◌, ◌+◌, length}
use Rattle.std.specs.Prelude.{is_some}
use Rattle.std.proofs.lemmas.Grind.{common_steps}
use Rattle.std.proofs.lemmas.List.Sums.{sum_by-append}
use Rattle.book_rules.proofs.Histories.{state_after-more}
use Rattle.book_rules.proofs.Times.{reply_in_time, opens_in_time}
use Rattle.book_rules.specs.Fits.{AreFit}
use Rattle.book_rules.specs.History.{Base, Answers, state_after, tables_after, size, is_full, reply, rewrites}
use Rattle.book_rules.specs.Machine.{after, happened_behind, row_of, outcome_of, told}
use Rattle.book_rules.specs.Times.{IsInTime}
use Rattle.book_rules.specs.declared.events.Entry.{Entry}
use Rattle.book_rules.specs.declared.replies.Reply.TheVariants.{Store}
use Rattle.gw_base.specs.Outside.{Rose}
use Rattle.policy_memory.specs.Kept.{Remembers}
use Rattle.book_core.specs.Books.{Keeps, counted_with, counts_of, happened_after, replied}
use Rattle.book_core.proofs.Counted.{AreFew, counts_at, counts_of-more, few_of}
use Rattle.fit_rows.proofs.FitsAfter.{fits_after}
use Rattle.book_core.specs.Keeps.{Went}
use Rattle.book_core.specs.Standing.{standing}
use Rattle.book_core.proofs.Stepping.{keeps_more, answers_at, remembers_more, stated_more}
use Rattle.book_core.proofs.Stores.{rose}
use Rattle.book_core.proofs.book.Book.step.Goals as goal

pub invariant_of-self-2 : goal.invariant_of-self-2
invariant_of-self-2 g c =
    let happened = happened_after c.self.inside.opening.lists c.self.inside.history.items in
    let same : length c.self.inside.history.items ≡ c.len-entries.result = search rules in
    let remembers : Remembers happened c.len-entries.result c.self.inside.current.policies =
    subst (λ n. Remembers happened n c.self.inside.current.policies) same c.self.invariant.remembers in
    let entry : Entry = record { seat = c.args.seat; event = c.args.event; kept = c.in-Ok.taken.kept } in
    let base : Base = record { opening = c.self.inside.opening.lists; limits = c.self.inside.limits; start = g.K.Keeper.facts c.self.inside.started.value } in
    let history = c.self.inside.history.items in
    let items : c.push.new.self.items ≡ history ++ entry ∷ [] = rw c.unwrap.ensures at c.push.ensures.items in
    let before = g.K.Keeper.facts c.self.inside.keeper in
    let now = g.K.Keeper.facts c.take-taken.new.keeper in
    let went = subst (λ s. Went (rewrites c.args.event) (row_of s c.args.event) c.in-Ok.taken.kept before now) c.self.invariant.stands (c.in-Ok.ensures.keeper happened) in
    let behind : happened_behind (standing happened c.self.inside.current) c.args.event ≡ happened_after base.opening c.push.new.self.items =
    ap (λ s. happened_behind s c.args.event) c.self.invariant.stands ∙ ap (λ s. s.happened) (sym (state_after-more base.opening history entry)) ∙ ap (happened_after base.opening) (sym items) in
    record {
      good = c.self.invariant.good;
      order = c.self.invariant.order;
      stated = stated_more history entry c.push.new.self.items items c.self.invariant.stated c.check_stated.ensures;
      stands = ap (λ h. standing h c.take-taken.new.current) (sym behind)
          ∙ c.in-Ok.ensures.stands happened c.args.seat ∙ ap (λ s. after s entry) c.self.invariant.stands
          ∙ sym (state_after-more base.opening history entry) ∙ ap (state_after base.opening) (sym items);
      remembers = remembers_more base.opening history entry c.push.new.self.items c.take-taken.new.current.policies items
          (subst (λ s. Remembers (happened_behind s entry.event) (length history + 1) c.take-taken.new.current.policies) c.self.invariant.stands
          (subst (λ n. Remembers (happened_behind (standing happened c.self.inside.current) entry.event) (n + 1) c.take-taken.new.current.policies) (sym same)
          (c.in-Ok.ensures.remembers happened remembers)));
      ready = c.in-Ok.ensures.ready;
      fits = subst (λ s. AreFit s.lists s.latest) (sym (c.in-Ok.ensures.stands happened c.args.seat)) (fits_after (standing happened c.self.inside.current) c.args.event c.in-Ok.taken.kept c.self.invariant.fits);
      counted =
          c.with-self-inside.ensures
          ∙ ap (λ k. counted_with c.args.event c.in-Ok.taken.reply c.in-Ok.taken.kept k) c.self.invariant.counted
          ∙ ap (λ r. counted_with c.args.event r c.in-Ok.taken.kept (counts_of base.opening history)) (c.in-Ok.ensures.reply happened remembers)
          ∙ counts_at (standing happened c.self.inside.current) c.len-entries.result c.args.event c.in-Ok.taken.kept (counts_of base.opening history)
          ∙ ap (λ s. counted_with c.args.event (replied s entry) c.in-Ok.taken.kept (counts_of base.opening history)) c.self.invariant.stands
          ∙ sym (counts_of-more base.opening history entry) ∙ ap (counts_of base.opening) (sym items);
      keeps = subst (λ h. Keeps base h now) (sym items) (keeps_more base history entry before now c.self.invariant.keeps went);
      bytes_are = rw items (grind (arith, common_steps, sum_by-append (λ (e : Entry). size e.event) history (entry ∷ [])));
      within = grind (arith, common_steps);
      entries = grind (arith, common_steps);
      reserved = grind (arith, common_steps);
    }

pub with-self-inside-requires-clause-calls : goal.with-self-inside-requires-clause-calls
with-self-inside-requires-clause-calls g c =
    let history = c.self.inside.history.items in
    let few : AreFew c.self.inside.counts (length history) = subst (λ k. AreFew k (length history)) (sym c.self.invariant.counted) (few_of c.self.inside.opening.lists history) in
    let l = few.calls in
    let e = c.self.invariant.entries in
    grind (arith, common_steps, l, e)

pub with-self-inside-requires-clause-admitted : goal.with-self-inside-requires-clause-admitted
with-self-inside-requires-clause-admitted g c =
    let history = c.self.inside.history.items in
    let few : AreFew c.self.inside.counts (length history) = subst (λ k. AreFew k (length history)) (sym c.self.invariant.counted) (few_of c.self.inside.opening.lists history) in
    let l = few.admitted in
    let e = c.self.invariant.entries in
    grind (arith, common_steps, l, e)

pub with-self-inside-requires-clause-throttled : goal.with-self-inside-requires-clause-throttled
with-self-inside-requires-clause-throttled g c =
    let history = c.self.inside.history.items in
    let few : AreFew c.self.inside.counts (length history) = subst (λ k. AreFew k (length history)) (sym c.self.invariant.counted) (few_of c.self.inside.opening.lists history) in
    let l = few.throttled in
    let e = c.self.invariant.entries in
    grind (arith, common_steps, l, e)

pub with-self-inside-requires-clause-quota : goal.with-self-inside-requires-clause-quota
with-self-inside-requires-clause-quota g c =
    let history = c.self.inside.history.items in
    let few : AreFew c.self.inside.counts (length history) = subst (λ k. AreFew k (length history)) (sym c.self.invariant.counted) (few_of c.self.inside.opening.lists history) in
    let l = few.quota in
    let e = c.self.invariant.entries in
    grind (arith, common_steps, l, e)

pub with-self-inside-requires-clause-not_kept : goal.with-self-inside-requires-clause-not_kept
with-self-inside-requires-clause-not_kept g c =
    let history = c.self.inside.history.items in
    let few : AreFew c.self.inside.counts (length history) = subst (λ k. AreFew k (length history)) (sym c.self.invariant.counted) (few_of c.self.inside.opening.lists history) in
    let l = few.not_kept in
    let e = c.self.invariant.entries in
    grind (arith, common_steps, l, e)

pub returns-clause-taken : goal.returns-clause-taken
returns-clause-taken g c =
    let room : is_full c.self.inside.limits c.self.inside.history.items c.args.event ≡ false = search rules in
    let happened = happened_after c.self.inside.opening.lists c.self.inside.history.items in
    let same : length c.self.inside.history.items ≡ c.len-entries.result = search rules in
    let remembers : Remembers happened c.len-entries.result c.self.inside.current.policies =
    subst (λ n. Remembers happened n c.self.inside.current.policies) same c.self.invariant.remembers in
    let entry : Entry = record { seat = c.args.seat; event = c.args.event; kept = c.in-Ok.taken.kept } in
    let base : Base = record { opening = c.self.inside.opening.lists; limits = c.self.inside.limits; start = g.K.Keeper.facts c.self.inside.started.value } in
    let history = c.self.inside.history.items in
    let items : c.push.new.self.items ≡ history ++ entry ∷ [] = rw c.unwrap.ensures at c.push.ensures.items in
    let before = g.K.Keeper.facts c.self.inside.keeper in
    let now = g.K.Keeper.facts c.take-taken.new.keeper in
    let went = subst (λ s. Went (rewrites c.args.event) (row_of s c.args.event) c.in-Ok.taken.kept before now) c.self.invariant.stands (c.in-Ok.ensures.keeper happened) in
    let answer : c.in-Ok.taken.reply ≡ reply base.opening history c.args.event c.in-Ok.taken.kept =
    subst (λ s. c.in-Ok.taken.reply ≡ told (is_some (row_of s c.args.event)) (outcome_of s (length history) c.args.event).reply c.in-Ok.taken.kept) c.self.invariant.stands
    ((c.in-Ok.ensures.reply happened remembers) ∙ ap (λ n. told (is_some (row_of (standing happened c.self.inside.current) c.args.event)) (outcome_of (standing happened c.self.inside.current) n c.args.event).reply c.in-Ok.taken.kept) (search rules)) in
    let in_time = subst IsInTime (sym answer) (reply_in_time base.opening history c.args.event c.in-Ok.taken.kept (opens_in_time base.opening c.self.invariant.good)) in
    subst (λ v. (x : Entry) × (c.push.new.self.items ≡ v.history ++ x ∷ []) × (x.seat ≡ c.args.seat) × (x.event ≡ c.args.event) × Answers v.base v.history x c.in-Ok.taken.reply)
    c.self.view_is (entry, items, refl, refl, answers_at base history entry c.in-Ok.taken.reply before now c.self.invariant.keeps went room answer in_time)

pub returns-clause-time : goal.returns-clause-time
returns-clause-time g c =
    let happened = happened_after c.self.inside.opening.lists c.self.inside.history.items in
    let same : length c.self.inside.history.items ≡ c.len-entries.result = search rules in
    let remembers : Remembers happened c.len-entries.result c.self.inside.current.policies =
    subst (λ n. Remembers happened n c.self.inside.current.policies) same c.self.invariant.remembers in
    let history = c.self.inside.history.items in
    let opening = c.self.inside.opening.lists in
    let answer : c.in-Ok.taken.reply ≡ reply opening history c.args.event c.in-Ok.taken.kept =
    subst (λ s. c.in-Ok.taken.reply ≡ told (is_some (row_of s c.args.event)) (outcome_of s (length history) c.args.event).reply c.in-Ok.taken.kept) c.self.invariant.stands
    ((c.in-Ok.ensures.reply happened remembers) ∙ ap (λ n. told (is_some (row_of (standing happened c.self.inside.current) c.args.event)) (outcome_of (standing happened c.self.inside.current) n c.args.event).reply c.in-Ok.taken.kept) (search rules)) in
    subst IsInTime (sym answer) (reply_in_time opening history c.args.event c.in-Ok.taken.kept (opens_in_time opening c.self.invariant.good))

pub returns-clause-store : goal.returns-clause-store
returns-clause-store g c =
    let happened = happened_after c.self.inside.opening.lists c.self.inside.history.items in
    let same : length c.self.inside.history.items ≡ c.len-entries.result = search rules in
    let remembers : Remembers happened c.len-entries.result c.self.inside.current.policies =
    subst (λ n. Remembers happened n c.self.inside.current.policies) same c.self.invariant.remembers in
    subst (λ k. c.in-Ok.taken.reply ≡ Store → Rose (g.K.Keeper.facts k).faults (g.K.Keeper.facts c.take-taken.new.keeper).faults) (ap (λ v. v.keeper) c.self.view_is)
    (rose (standing happened c.self.inside.current) _ c.args.event (rewrites c.args.event) c.in-Ok.taken.kept c.in-Ok.taken.reply _ (g.K.Keeper.facts c.self.inside.keeper) (g.K.Keeper.facts c.take-taken.new.keeper) (c.in-Ok.ensures.reply happened remembers) (c.in-Ok.ensures.keeper happened))

pub invariant_of-self : goal.invariant_of-self
invariant_of-self g c =
    let happened = happened_after c.self.inside.opening.lists c.self.inside.history.items in
    let v = c.self.invariant in
    let e = c.in_default.ensures in
    record {
      good = v.good;
      order = v.order;
      stated = v.stated;
      stands = e.err happened ∙ v.stands;
      remembers = subst (λ k. Remembers happened (length c.self.inside.history.items) k) (sym e.unchanged) v.remembers;
      ready = e.ready;
      fits = subst (λ s. AreFit s.lists s.latest) (sym (e.err happened)) v.fits;
      keeps = search rules;
      bytes_are = v.bytes_are;
      within = v.within;
      entries = v.entries;
      reserved = v.reserved;
      counted = v.counted;
    }
