use Rattle.std.proofs.Common.{inl}
use Rattle.script_records.specs.Coding.{lines_of}
use Rattle.admin_command.proofs.Administered.{all_ends, cut_ends, over_store, unopened_cut, unopened_ends, unopened_memory}
use Rattle.admin_command.proofs.command.administer.Goals as goal

pub returns-in-Err-clause-ends : goal.returns-in-Err-clause-ends
returns-in-Err-clause-ends g c =
    unopened_ends c.args.limits c.args.store.now (lines_of c.args.lines.now) _ _ (g.W.Sink.written c.args.output.now) (g.W.Sink.written c.tell_unopened.new.output) c.tell_unopened.result c.in-Err.stop c.in-Err.ensures.refused
    c.tell_unopened.ensures.told

pub returns-in-Err-clause-cut : goal.returns-in-Err-clause-cut
returns-in-Err-clause-cut g c =
    λ e. unopened_cut c.args.limits c.args.store.now (lines_of c.args.lines.now) _ _ (g.W.Sink.written c.args.output.now) (g.W.Sink.written c.tell_unopened.new.output) c.in-Err.stop c.in-Err.ensures.refused
    (c.tell_unopened.ensures.output e).1

pub returns-in-Err-clause-memory : goal.returns-in-Err-clause-memory
returns-in-Err-clause-memory g c =
    λ e. unopened_memory c.args.limits c.args.store.now (lines_of c.args.lines.now) _ _ (g.W.Sink.written c.args.output.now) (g.W.Sink.written c.tell_unopened.new.output) c.in-Err.stop c.in-Err.ensures.refused
    (c.tell_unopened.ensures.memory e)

pub returns-in-Ok-carried-clause-ends : goal.returns-in-Ok-carried-clause-ends
returns-in-Ok-carried-clause-ends g c =
    let over = over_store c.args.limits c.args.store.now _ _ _ c.in-Ok.book.base c.carry_out_lines-carried.new.book.base c.in-Ok.book.history c.carry_out_lines-carried.new.book.history
    c.carry_out_lines-carried.ensures.base c.in-Ok.ensures.opened c.give_back.ensures in
    all_ends c.args.limits c.args.store.now (lines_of c.args.lines.now) _ _ (g.W.Sink.written c.args.output.now) (g.W.Sink.written c.carry_out_lines-carried.new.output) c.in-Ok-carried.status c.in-Ok.book.base
    c.carry_out_lines-carried.new.book.history over c.in-Ok-carried.ensures.all

pub returns-in-Err-Failed-clause-cut : goal.returns-in-Err-Failed-clause-cut
returns-in-Err-Failed-clause-cut g c =
    let over = over_store c.args.limits c.args.store.now _ _ _ c.in-Ok.book.base c.carry_out_lines-carried.new.book.base c.in-Ok.book.history c.carry_out_lines-carried.new.book.history
    c.carry_out_lines-carried.ensures.base c.in-Ok.ensures.opened c.give_back.ensures in
    λ e. cut_ends c.args.limits c.args.store.now (lines_of c.args.lines.now) _ _ (g.W.Sink.written c.args.output.now) (g.W.Sink.written c.carry_out_lines-carried.new.output) c.in-Ok.book.base
    c.carry_out_lines-carried.new.book.history over c.in-Err-Failed.ensures-1.cut

pub returns-in-Err-Memory-clause-memory : goal.returns-in-Err-Memory-clause-memory
returns-in-Err-Memory-clause-memory g c =
    let over = over_store c.args.limits c.args.store.now _ _ _ c.in-Ok.book.base c.carry_out_lines-carried.new.book.base c.in-Ok.book.history c.carry_out_lines-carried.new.book.history
    c.carry_out_lines-carried.ensures.base c.in-Ok.ensures.opened c.give_back.ensures in
    λ e. inl (cut_ends c.args.limits c.args.store.now (lines_of c.args.lines.now) _ _ (g.W.Sink.written c.args.output.now) (g.W.Sink.written c.carry_out_lines-carried.new.output) c.in-Ok.book.base
    c.carry_out_lines-carried.new.book.history over c.in-Err-Memory.ensures-1.cut)
