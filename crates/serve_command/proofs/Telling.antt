-- A keeper that told its tables at first tells them behind the last session.
use Rattle.std.proofs.Common.{◌≡◌, List, [], ◌∷◌, Option, ap, ◌∙◌}
use Rattle.std.specs.Prelude.{is_some}
use Rattle.book_rules.specs.History.{Base}
use Rattle.book_rules.specs.declared.events.Entry.{Entry}
use Rattle.book_rules.specs.declared.events.Limits.{Limits}
use Rattle.outside_core.specs.Told.{LaneTold}
use Rattle.session_chain.specs.Chains.{Chain, HeldSession, Lead}

lead_tells : (limits : Limits) (base : Base) (lanes : List LaneTold) (full : List HeldSession) (next : Base) (rest : List LaneTold) → Lead limits base lanes full next rest
    → is_some next.start.tables ≡ is_some base.start.tables
lead_tells limits base lanes [] next rest l = ap (λ (b : Base). is_some b.start.tables) l.0
lead_tells limits base lanes (s ∷ more) next rest l =
    lead_tells limits l.4.0 s.now more next rest l.4.2 ∙ ap is_some l.4.1.started.tables ∙ l.2.keeps.tells ∙ ap (λ (b : Base). is_some b.start.tables) l.0

pub chain_tells : (limits : Limits) (base : Base) (lent back : List LaneTold) (archived archive : Option (List (List Entry))) (full : List HeldSession) (last : HeldSession)
    → Chain limits base lent back archived archive full last → is_some last.keeper.tables ≡ is_some base.start.tables
chain_tells limits base lent back archived archive full last chain = chain.held.keeps.tells ∙ lead_tells limits base lent full last.base last.before chain.lead
