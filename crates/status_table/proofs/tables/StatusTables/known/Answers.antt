use Rattle.std.proofs.Common.{◌≡◌, ℕ, List, Some, IfSome, true, subst, ◌∙◌, rules}
use Rattle.std.specs.BTreeMap.{get_by_text}
use Rattle.status_table.specs.Statuses.{is_whole_pattern}
use Rattle.status_table.proofs.tables.StatusTables.known.Goals as goal

pub returns-in_ok-share-in-Some-clause-table : goal.returns-in_ok-share-in-Some-clause-table
returns-in_ok-share-in-Some-clause-table c =
    let got : get_by_text c.self.inside.tables c.args.pattern.now ≡ Some c.in-Some.table.now = search rules in
    let same : c.in_ok-share-in-Some.field-0 ≡ c.in-Some.table.now = search rules in
    same ∙ (subst (λ o. IfSome o (λ table. (table ≡ c.args.pattern.now) × (is_whole_pattern c.args.pattern.now ≡ true))) got (c.self.invariant c.args.pattern.now)).0

pub returns-in_ok-share-in-Some-clause-read : goal.returns-in_ok-share-in-Some-clause-read
returns-in_ok-share-in-Some-clause-read c =
    let got : get_by_text c.self.inside.tables c.args.pattern.now ≡ Some c.in-Some.table.now = search rules in
    (subst (λ o. IfSome o (λ table. (table ≡ c.args.pattern.now) × (is_whole_pattern c.args.pattern.now ≡ true))) got (c.self.invariant c.args.pattern.now)).1
