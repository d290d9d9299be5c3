use Rattle.std.proofs.Common.{refl}
use Rattle.play_script.specs.Play.{session_limits}
use Rattle.gateway_cli.proofs.Admins.{ends_within, cut_within, wants_within}
use Rattle.gateway_cli.proofs.administering.carry_out.Goals as goal

pub returns-in-Ok-clause-ends : goal.returns-in-Ok-clause-ends
unfolding session_limits
returns-in-Ok-clause-ends g c = ends_within c.args.store.now c.args.lines.now _ _ _ _ _ c.in-Ok.status refl c.requires c.in-Ok.ensures.ends

pub returns-in-Err-clause-output : goal.returns-in-Err-clause-output
unfolding session_limits
returns-in-Err-clause-output g c = λ e.
    let stopped = c.stop_of.ensures.output (cc e) in
    (c.in-Err.ensures.output (cc stopped), cut_within c.args.store.now c.args.lines.now _ _ _ _ _ refl c.requires (c.in-Err.ensures.cut (cc stopped)))

pub returns-in-Err-clause-memory : goal.returns-in-Err-clause-memory
unfolding session_limits
returns-in-Err-clause-memory g c = λ e.
    wants_within c.args.store.now c.args.lines.now _ _ _ _ _ refl c.requires (c.in-Err.ensures.memory (cc (c.stop_of.ensures.memory (cc e))))

pub returns-in-Err-clause-keeper : goal.returns-in-Err-clause-keeper
returns-in-Err-clause-keeper g c = λ e. c.in-Err.ensures.keeper (cc (c.stop_of.ensures.keeper (cc e)))
