use Rattle.std.proofs.Common.{◌≡◌, [], inl, inr, refl, rules}
use Rattle.gateway_cli.specs.Admin.{AdminCut, Administered, AdminWantsMemory}
use Rattle.gateway_cli.proofs.Inputs.{of_any, of_same, of_longer, if_ok_of_longer, if_ok_map}
use Rattle.gateway_cli.proofs.administering.carry_out_input.Goals as goal

pub returns-in-Ok-clause-ends : goal.returns-in-Ok-clause-ends
returns-in-Ok-clause-ends g c =
    let same : c.deref.result.now ≡ c.in-Ok.lines.items = search rules in
    if_ok_map c.carry_out.result _ _
    (λ status ends. of_same (g.I.Source.left c.args.input.now) c.deref.result.now c.in-Ok.lines.items (λ lines. Administered c.args.store.now lines _ _ _ _ status) same c.in-Ok.ensures.whole ends)
    c.carry_out.ensures.ends

pub returns-in-Ok-clause-cut : goal.returns-in-Ok-clause-cut
returns-in-Ok-clause-cut g c =
    let same : c.deref.result.now ≡ c.in-Ok.lines.items = search rules in
    λ e. of_same (g.I.Source.left c.args.input.now) c.deref.result.now c.in-Ok.lines.items (λ lines. AdminCut c.args.store.now lines _ _ _ _) same c.in-Ok.ensures.whole (c.carry_out.ensures.output e).1

pub returns-in-Ok-clause-memory : goal.returns-in-Ok-clause-memory
returns-in-Ok-clause-memory g c =
    let same : c.deref.result.now ≡ c.in-Ok.lines.items = search rules in
    λ e. of_same (g.I.Source.left c.args.input.now) c.deref.result.now c.in-Ok.lines.items (λ lines. AdminWantsMemory c.args.store.now lines _ _ _ _) same c.in-Ok.ensures.whole (c.carry_out.ensures.memory e)

pub returns-in-Err-TooLong-clause-ends : goal.returns-in-Err-TooLong-clause-ends
returns-in-Err-TooLong-clause-ends g c =
    if_ok_of_longer 67108864 (g.I.Source.left c.args.input.now) c.refuse.result (λ lines status. Administered c.args.store.now lines _ _ _ _ status)
    (c.in-Err-TooLong.ensures.too_long (cc c.in-Err-TooLong.field-0-is)) c.refuse.ensures.ends

pub returns-in-Err-TooLong-clause-cut : goal.returns-in-Err-TooLong-clause-cut
returns-in-Err-TooLong-clause-cut g c =
    λ e. of_longer 67108864 (g.I.Source.left c.args.input.now) (λ lines. AdminCut c.args.store.now lines _ _ _ _) (c.in-Err-TooLong.ensures.too_long (cc c.in-Err-TooLong.field-0-is)) c.refuse.ensures.cut

pub returns-in-Err-TooLong-clause-memory : goal.returns-in-Err-TooLong-clause-memory
returns-in-Err-TooLong-clause-memory g c =
    λ e. of_longer 67108864 (g.I.Source.left c.args.input.now) (λ lines. AdminWantsMemory c.args.store.now lines _ _ _ _) (c.in-Err-TooLong.ensures.too_long (cc c.in-Err-TooLong.field-0-is))
    (λ lines h. inl (c.refuse.ensures.cut lines h))

pub returns-in-Err-Memory-clause-memory : goal.returns-in-Err-Memory-clause-memory
returns-in-Err-Memory-clause-memory g c =
    λ e. of_any [] (g.I.Source.left c.args.input.now) (λ lines. AdminWantsMemory c.args.store.now lines _ _ _ _) (λ lines. inr (record { waiting = refl; returned = refl; sessions = refl }, refl))
