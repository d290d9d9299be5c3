use Rattle.std.proofs.Common.{ℕ, List, [], subst}
use Rattle.std.specs.Io.KnownBytes.{Appends}
use Rattle.gw_base.specs.Whole.{AppendsFront}
use Rattle.script_records.specs.Coding.{lines_of}
use Rattle.play_script.proofs.Playing.{on_err_of, is_left, says_all_of, says_front_of}
use Rattle.play_script.proofs.play.play_lines.Goals as goal

pub returns-in_err-write_all-clause-front : goal.returns-in_err-write_all-clause-front
returns-in_err-write_all-clause-front g c =
    let left = is_left c.args.session.now.base c.args.number (lines_of c.args.lines.now) _ _ _ c.in_ok-played.played c.in_ok-played.ensures.all c.in_ok-played.ensures.wanting in
    let wrote = subst (λ (t : List ℕ). AppendsFront (g.W.Sink.written c.gather_lines.new.output) (g.W.Sink.written c.write_all.new.sink) t) c.as_bytes.ensures.value c.in_err-write_all.ensures.front in
    on_err_of c.from_residual-in_err-write_all.result _ (says_front_of _ _ _ _ c.args.session.now.base c.args.number [] (lines_of c.args.lines.now) left wrote)

pub returns-in_err-played-2-clause-front : goal.returns-in_err-played-2-clause-front
returns-in_err-played-2-clause-front g c =
    let left = is_left c.args.session.now.base c.args.number (lines_of c.args.lines.now) _ _ _ c.in_ok-played.played c.in_ok-played.ensures.all c.in_ok-played.ensures.wanting in
    let wrote = subst (λ (t : List ℕ). Appends (g.W.Sink.written c.gather_lines.new.output) (g.W.Sink.written c.write_all.new.sink) t) c.as_bytes.ensures.value c.in_ok-write_all.ensures.all in
    on_err_of c.from_residual-in_err-played-2.result _ (says_all_of _ _ _ _ c.args.session.now.base c.args.number [] (lines_of c.args.lines.now) left wrote)
