-- Lanes that are given back behind their sessions.
use Rattle.std.proofs.Common.{◌≡◌, ℕ, suc, ◌+◌, ◌≤◌, nat_lt, Bool, true, false, ◌||◌, List, [], ◌∷◌, length, map, ap, refl, arith}
use Rattle.std.specs.List.{list_any}
use Rattle.book_rules.specs.History.{Base}
use Rattle.book_rules.specs.declared.events.Entry.{Entry}
use Rattle.gate_session.specs.Sessions.{LanesDid}
use Rattle.gate_walk.specs.declared.ended.LaneEnd.{LaneEnd}
use Rattle.gate_walk.specs.declared.ended.LaneEnd.TheVariants.{Ended, Closing, PortFault, Full, Memory}
use Rattle.gw_base.specs.Outside.{Rose}
use Rattle.outside_core.specs.Told.{LaneTold}
use Rattle.session_chain.specs.Ends.{has_port_fault}
use Rattle.serve_command.specs.Holding.{has_failed}

pub rose_from : (first before now : ℕ) → first ≤ before → Rose before now → Rose first now
rose_from first before now h r = omega (arith, h, r)

-- a count that rose is above none
pub above_none : (before now : ℕ) → Rose before now → nat_lt 0 now ≡ true
above_none before now r = grind (arith, r)

or_true : (a b : Bool) → b ≡ true → (a || b) ≡ true
or_true true b e = refl
or_true false b e = e

-- where a lane ended at a look that failed, its port has counted that
pub any_failed : (base : Base) (number : ℕ) (before now : List LaneTold) (ends : List LaneEnd) (history : List Entry) → LanesDid base number before now ends history
    → list_any has_port_fault ends ≡ true → list_any has_failed now ≡ true
any_failed base number [] [] [] history d is = is
any_failed base number [] [] (e ∷ es) history d is = absurd d
any_failed base number [] (a ∷ rest) ends history d is = absurd d
any_failed base number (b ∷ bs) [] ends history d is = absurd d
any_failed base number (b ∷ bs) (a ∷ rest) [] history d is = absurd d
any_failed base number (b ∷ bs) (a ∷ rest) (PortFault ∷ es) history d is = ap (λ x. x || list_any has_failed rest) (above_none b.faults a.faults (d.0.tells.failed refl))
any_failed base number (b ∷ bs) (a ∷ rest) (Ended ∷ es) history d is = or_true (has_failed a) (list_any has_failed rest) (any_failed base (number + 1) bs rest es history d.1 is)
any_failed base number (b ∷ bs) (a ∷ rest) (Closing ∷ es) history d is = or_true (has_failed a) (list_any has_failed rest) (any_failed base (number + 1) bs rest es history d.1 is)
any_failed base number (b ∷ bs) (a ∷ rest) (Memory ∷ es) history d is = or_true (has_failed a) (list_any has_failed rest) (any_failed base (number + 1) bs rest es history d.1 is)
any_failed base number (b ∷ bs) (a ∷ rest) (Full entries bytes ∷ es) history d is = or_true (has_failed a) (list_any has_failed rest) (any_failed base (number + 1) bs rest es history d.1 is)

pub any_mapped : {L : Type 0} (told : L → LaneTold) (lanes : List L) → list_any (λ l. has_failed (told l)) lanes ≡ list_any has_failed (map told lanes)
any_mapped told [] = refl
any_mapped told (l ∷ ls) = ap (λ x. has_failed (told l) || x) (any_mapped told ls)
