use Rattle.std.proofs.Common.{arith, ◌+◌, ◌-◌, ◌∙◌, sym, subst, Ok, Err, Result}
use Rattle.http_framing.specs.Faults.{shifted}
use Rattle.http_framing.specs.Stream.{Over}
use Rattle.http_framing.specs.declared.fault.EdgeFault.{EdgeFault}
use Rattle.http_framing.proofs.Overs.{over_both, takes_both}
use Rattle.http_edge.specs.ReplyReads.{ReplyHeadRead, PassedOver, FinalRead}
use Rattle.http_edge.specs.declared.reply_head.ReplyBegun.{ReplyBegun}
use Rattle.http_edge.proofs.ReplyJoins.{passed_more, final_done, final_fault}
use Rattle.http_edge.proofs.reply_head.read_final_head.Goals as goal

abbrev stop : EdgeFault → Result ReplyBegun EdgeFault
stop f = Err f

pub loop-begun-preserved : goal.loop-begun-preserved
loop-begun-preserved g c =
    let b = c.in-Ok.begun in
    let gone = c.loop-begun.gone in
    record {
      far = over_both (PassedOver gone) (ReplyHeadRead (10240 - gone)) (PassedOver (gone + b.len)) _ _ c.loop-begun.held _ c.read_reply_head.new.held _ tt (Ok b) tt
          c.loop-begun.invariant.far c.in-Ok.ensures.head (λ all m l n k. passed_more b gone all m l n k c.loop-begun.invariant.near (sym c.is_interim.ensures ∙ c.if-not-is_interim.false));
      near = omega (arith, c.in-Ok.ensures.short.1, c.loop-begun.invariant.near);
      taken = takes_both _ _ _ c.loop-begun.invariant.taken c.read_reply_head.ensures.taken;
      later = omega (arith, c.loop-begun.invariant.later, c.read_reply_head.ensures.later);
      beside = c.read_reply_head.ensures.beside ∙ c.loop-begun.invariant.beside;
    }

pub returns-then-not-is_interim-clause-taken : goal.returns-then-not-is_interim-clause-taken
returns-then-not-is_interim-clause-taken g c = takes_both _ _ _ c.loop-begun.invariant.taken c.read_reply_head.ensures.taken

pub returns-then-not-is_interim-clause-head : goal.returns-then-not-is_interim-clause-head
returns-then-not-is_interim-clause-head g c =
    let b = c.in-Ok.begun in
    let gone = c.loop-begun.gone in
    over_both (PassedOver gone) (ReplyHeadRead (10240 - gone)) FinalRead _ _ c.loop-begun.held _ c.read_reply_head.new.held _ tt (Ok b) (Ok c.behind.result)
    c.loop-begun.invariant.far c.in-Ok.ensures.head (λ all m l n k. final_done b c.behind.result gone all m l n k c.behind.ensures (sym c.is_interim.ensures ∙ c.if-not-is_interim.true))

pub returns-in-Err-clause-taken : goal.returns-in-Err-clause-taken
returns-in-Err-clause-taken g c = takes_both _ _ _ c.loop-begun.invariant.taken c.read_reply_head.ensures.taken

pub returns-in-Err-clause-head : goal.returns-in-Err-clause-head
returns-in-Err-clause-head g c =
    let f = c.in-Err.fault in
    let gone = c.loop-begun.gone in
    let left = g.S.Source.left in
    let P : EdgeFault → Type 0 = λ e. Over FinalRead c.args.held.now (left c.args.source.now) c.read_reply_head.new.held (left c.read_reply_head.new.source) (Err e) in
    subst P (sym c.shifted.ensures)
    (over_both (PassedOver gone) (ReplyHeadRead (10240 - gone)) FinalRead _ _ c.loop-begun.held _ c.read_reply_head.new.held _ tt (Err f) (stop (shifted gone f))
    c.loop-begun.invariant.far c.in-Err.ensures.head (final_fault f gone))
