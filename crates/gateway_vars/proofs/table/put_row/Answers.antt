use Rattle.std.proofs.Common.{◌≡◌, rules, ap, sym, ◌∙◌}
use Rattle.vtl_eval.specs.Roots.{put_path}
use Rattle.gateway_vars.specs.Rows.{kept_of, place_of}
use Rattle.gateway_vars.specs.declared.table.Row.{Row}
use Rattle.gateway_vars.proofs.Rows.{row_set, row_end}
use Rattle.gateway_vars.proofs.table.put_row.Goals as goal

pub returns-then-i-len-clause-ok : goal.returns-then-i-len-clause-ok
returns-then-i-len-clause-ok c =
    let rows = c.args.rows.now.items in
    let row : Row = record { path = c.of.result; value = c.in_ok-copied-2.field-0 } in
    let path_is : c.of.result ≡ c.args.path.now = c.of.ensures ∙ c.in_ok-copied.ensures in
    let at : c.place-i.result ≡ place_of rows c.of.result = c.place-i.ensures.value ∙ ap (λ rs. place_of rs c.args.path.now) c.deref.ensures.value ∙ ap (place_of rows) (sym path_is) in
    row_set rows row c.place-i.result at (search rules)
    ∙ ap (λ p. put_path (kept_of rows) p c.in_ok-copied-2.field-0) path_is
    ∙ ap (λ v. put_path (kept_of rows) c.args.path.now v) c.in_ok-copied-2.ensures

pub returns-in_ok-push-clause-ok : goal.returns-in_ok-push-clause-ok
returns-in_ok-push-clause-ok c =
    let rows = c.args.rows.now.items in
    let row : Row = record { path = c.of.result; value = c.in_ok-copied-2.field-0 } in
    let path_is : c.of.result ≡ c.args.path.now = c.of.ensures ∙ c.in_ok-copied.ensures in
    let at : c.place-i.result ≡ place_of rows c.of.result = c.place-i.ensures.value ∙ ap (λ rs. place_of rs c.args.path.now) c.deref.ensures.value ∙ ap (place_of rows) (sym path_is) in
    ap kept_of c.in_ok-push.ensures.items
    ∙ row_end rows row c.place-i.result at (search rules)
    ∙ ap (λ p. put_path (kept_of rows) p c.in_ok-copied-2.field-0) path_is
    ∙ ap (λ v. put_path (kept_of rows) c.args.path.now v) c.in_ok-copied-2.ensures
