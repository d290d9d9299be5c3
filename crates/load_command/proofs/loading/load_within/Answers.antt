use Rattle.std.proofs.Common.{◌≡◌, rules}
use Rattle.play_script.proofs.Playing.{on_err_of}
use Rattle.load_command.proofs.Going.{cut_short}
use Rattle.load_command.proofs.loading.load_within.Goals as goal

pub returns-in_err-write_all-clause-front : goal.returns-in_err-write_all-clause-front
returns-in_err-write_all-clause-front g c =
    let same : c.as_bytes.result.now ≡ c.in_ok-told.told.text = search rules in
    on_err_of c.from_residual-in_err-write_all.result _
    (cut_short c.args.limits c.args.seed c.args.calls _ _ c.in_ok-told.told.text _ c.in_ok-told.told.status same c.in_ok-told.ensures.all c.write_all.ensures.front)
