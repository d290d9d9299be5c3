use Rattle.std.proofs.Common.{ℕ, List, Some, subst, sym}
use Rattle.std.specs.Cmp.Lexicographic.{slice_cmp}
use Rattle.std.specs.Ordering.{nat_cmp}
use Rattle.std.specs.BTreeMap.{UpdatesBy}
use Rattle.vtl_words.specs.Names.{get_by_bytes}
use Rattle.vtl_words.proofs.Named.{taken_place, kept_place}
use Rattle.vtl_words.proofs.names.enter.Goals as goal

pub returns-then-contains_key-clause-entered : goal.returns-then-contains_key-clause-entered
returns-then-contains_key-clause-entered c = kept_place (get_by_bytes c.args.places.now) c.args.name.now c.args.n (sym c.if-contains_key.ensures)

pub returns-clause-entered : goal.returns-clause-entered
returns-clause-entered c =
    let P : List ℕ → Type 0 = λ z. UpdatesBy (λ x y. slice_cmp nat_cmp x.items y.items) (λ x. slice_cmp nat_cmp z x.items) c.args.places.now c.insert.new.self (Some c.args.n) in
    taken_place c.args.name.now c.args.n c.args.places.now c.insert.new.self (subst P c.in_ok-key.ensures.items c.in_ok-insert.ensures.updates) (sym c.if-contains_key.ensures)
