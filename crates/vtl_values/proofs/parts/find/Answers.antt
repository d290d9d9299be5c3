use Rattle.std.proofs.Common.{rules, ◌≡◌, ◌<◌, IfOk, Some, None, length, sym, subst, ap, ◌∙◌}
use Rattle.vtl_values.specs.Val.{Val}
use Rattle.vtl_values.specs.Vals.{rows_of}
use Rattle.vtl_values.specs.Places.{place_of}
use Rattle.vtl_values.proofs.Rows.{row_within, row_found, none_found}
use Rattle.vtl_values.proofs.parts.find.Goals as goal

pub bounds-entries-n : goal.bounds-entries-n
bounds-entries-n c =
    let got : place_of c.args.name.now (rows_of c.args.entries.now) ≡ Some c.in-Some.n = search rules in
    row_within c.args.entries.now c.args.name.now c.in-Some.n got

pub offset_bounds-entries-n : goal.offset_bounds-entries-n
offset_bounds-entries-n c =
    let got : place_of c.args.name.now (rows_of c.args.entries.now) ≡ Some c.in-Some.n = search rules in
    let h : c.in-Some.n < length c.args.entries.now = row_within c.args.entries.now c.args.name.now c.in-Some.n got in
    search (rules, h)

pub returns-in-Some : goal.returns-in-Some
returns-in-Some c =
    let got : place_of c.args.name.now (rows_of c.args.entries.now) ≡ Some c.in-Some.n = search rules in
    let at = row_found c.args.entries.now c.args.name.now c.in-Some.n c.index-entries-n.result got c.index-entries-n.is in
    subst (λ (z : Val). IfOk c.copied.result (λ v. v ≡ z)) (ap (λ e. e.1) (sym c.index-entries-n.is) ∙ sym at) c.copied.ensures

pub returns-in-None : goal.returns-in-None
returns-in-None c =
    let none : place_of c.args.name.now (rows_of c.args.entries.now) ≡ None = search rules in
    c.null.ensures ∙ sym (none_found (rows_of c.args.entries.now) c.args.name.now none)
