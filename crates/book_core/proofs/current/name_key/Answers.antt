use Rattle.std.proofs.Common.{rules, ◌≡◌, ◌∙◌, ap, sym, subst, List, ℕ, Some, cond}
use Rattle.std.specs.Prelude.{is_some}
use Rattle.std.specs.Map.{update}
use Rattle.std.specs.Str.{bytes_eq}
use Rattle.keeper_core.specs.Lists.{Ascends, key_behind, put}
use Rattle.keeper_core.specs.declared.rows.Row.TheVariants.{Key}
use Rattle.key_index.specs.Indexes.{key_in, value_of}
use Rattle.book_opening.specs.Ready.{AreReady}
use Rattle.book_core.specs.Naming.{left_by}
use Rattle.book_core.proofs.Named.{index_put, is_free}
use Rattle.book_core.proofs.current.name_key.Goals as goal

pub returns-in-Ok-clause-ready : goal.returns-in-Ok-clause-ready
returns-in-Ok-clause-ready g c =
    let lists = c.args.current.now.tables.lists in
    let row = c.args.row in
    let old = key_in c.args.current.now.ready.keys in
    let entered = key_in c.enter_value.new.keys in
    let new = key_in c.leave_old.new.keys in
    let own = c.in_ok-is_own.is_own in
    let put_so : c.put.new.self.lists ≡ put (Key row) lists = search rules in
    let order : Ascends (λ r. key_behind r.key) lists.keys = search rules in
    let own_is : own ≡ is_some (old row.value) = search rules in
    let entered_is : (v : List ℕ) → entered v ≡ cond own (old v) (update bytes_eq old row.value (Some row.key) v) = λ v. search rules in
    let new_is : (v : List ℕ) → new v ≡ left_by (value_of lists.keys row.key) row.value entered v = λ v. search rules in
    subst (λ l. AreReady l (record {
      definitions = c.args.current.now.ready.definitions;
      deployments = c.args.current.now.ready.deployments;
      stages = c.args.current.now.ready.stages;
      keys = c.leave_old.new.keys;
      plans = c.args.current.now.ready.plans;
    })) (sym put_so)
    (record {
      definitions = c.requires.ready.definitions;
      deployments = c.requires.ready.deployments;
      stages = c.requires.ready.stages;
      plans = c.requires.ready.plans;
      keys = index_put lists.keys row old c.requires.ready.keys (is_free lists old row order c.requires.ready.keys c.requires.free) own entered new own_is entered_is new_is;
    })
