use Rattle.std.proofs.Common.{◌≡◌, ◌<◌, ℕ, Some, None, Option, length, sym, ◌∙◌, ap, rules}
use Rattle.std.specs.Prelude.{if◌then◌else◌}
use Rattle.std.specs.Rc.{rc_str_bytes}
use Rattle.std.specs.Str.{bytes_eq}
use Rattle.std.specs.BTreeMap.{get_by_text}
use Rattle.vtl_values.specs.Vals.{rows_of}
use Rattle.vtl_values.specs.Places.{place_of}
use Rattle.vtl_values.specs.Making.{entered}
use Rattle.vtl_values.proofs.Rows.{row_set, row_push, places_stay, places_grow}
use Rattle.vtl_values.proofs.makers.enter.Goals as goal

pub index_mut-requires : goal.index_mut-requires
index_mut-requires c =
    let got : get_by_text c.args.places.now (rc_str_bytes c.args.key) ≡ Some c.in-Some.n = search rules in
    let h : c.in-Some.n < length c.args.entries.now.items = (row_set c.args.entries.now.items c.args.key c.args.value c.in-Some.n (sym (c.requires (rc_str_bytes c.args.key)) ∙ got)).0 in
    search (rules, h)

pub returns-in-Some-clause-entries : goal.returns-in-Some-clause-entries
returns-in-Some-clause-entries c =
    let got : get_by_text c.args.places.now (rc_str_bytes c.args.key) ≡ Some c.in-Some.n = search rules in
    (row_set c.args.entries.now.items c.args.key c.args.value c.in-Some.n (sym (c.requires (rc_str_bytes c.args.key)) ∙ got)).1

pub returns-in-Some-clause-places : goal.returns-in-Some-clause-places
returns-in-Some-clause-places c = λ q.
    let got : get_by_text c.args.places.now (rc_str_bytes c.args.key) ≡ Some c.in-Some.n = search rules in
    let at = sym (c.requires (rc_str_bytes c.args.key)) ∙ got in
    c.requires q
    ∙ sym (places_stay (rows_of c.args.entries.now.items) (rc_str_bytes c.args.key) c.args.value c.in-Some.n q at)
    ∙ ap (place_of q) (sym (row_set c.args.entries.now.items c.args.key c.args.value c.in-Some.n at).1)

pub returns-in_ok-push-in-None-clause-entries : goal.returns-in_ok-push-in-None-clause-entries
returns-in_ok-push-in-None-clause-entries c =
    let got : get_by_text c.args.places.now (rc_str_bytes c.args.key) ≡ None = search rules in
    let more = row_push c.args.entries.now.items c.args.key c.args.value (sym (c.requires (rc_str_bytes c.args.key)) ∙ got) in
    search (rules, more)

pub returns-in_ok-push-in-None-clause-places : goal.returns-in_ok-push-in-None-clause-places
returns-in_ok-push-in-None-clause-places c = λ q.
    let old : Option ℕ = get_by_text c.args.places.now q in
    let got : get_by_text c.args.places.now (rc_str_bytes c.args.key) ≡ None = search rules in
    let at : place_of (rc_str_bytes c.args.key) (rows_of c.args.entries.now.items) ≡ None = sym (c.requires (rc_str_bytes c.args.key)) ∙ got in
    let same : c.as_str-in-None.result.now ≡ rc_str_bytes c.args.key = search rules in
    let count : c.len.result ≡ length c.args.entries.now.items = search rules in
    let pushed : rows_of c.push.new.self.items ≡ entered (rows_of c.args.entries.now.items) (rc_str_bytes c.args.key) c.args.value =
    ap rows_of c.in_ok-push-in-None.ensures.items ∙ row_push c.args.entries.now.items c.args.key c.args.value at in
    c.in_ok-note-in-None.ensures q
    ∙ ap (λ z. if bytes_eq z q then Some c.len.result else old) same
    ∙ ap (λ n. if bytes_eq (rc_str_bytes c.args.key) q then Some n else old) count
    ∙ ap (λ o. if bytes_eq (rc_str_bytes c.args.key) q then Some (length c.args.entries.now.items) else o) (c.requires q)
    ∙ sym (places_grow c.args.entries.now.items (rc_str_bytes c.args.key) c.args.value q at)
    ∙ ap (place_of q) (sym pushed)
