use Rattle.std.proofs.Common.{◌≡◌, Some, None, position, rules}
use Rattle.outside_core.proofs.Naming.{has_name, tables_there, tables_new}
use Rattle.outside_core.proofs.stores.put_back.Goals as goal

pub returns-in-Some-clause-stores : goal.returns-in-Some-clause-stores
returns-in-Some-clause-stores c =
    let place : position (has_name c.args.name) c.args.stores.now.items ≡ Some c.in-Some.place = search rules in
    let there = tables_there c.args.name c.args.keeper.lists c.index_mut-store.result.now c.args.stores.now.items c.in-Some.place place in
    search rules

pub returns-in-None-clause-stores : goal.returns-in-None-clause-stores
returns-in-None-clause-stores c =
    let place : position (has_name c.args.name) c.args.stores.now.items ≡ None = search rules in
    let new = tables_new c.args.name c.args.keeper.lists c.args.stores.now.items place in
    search rules
