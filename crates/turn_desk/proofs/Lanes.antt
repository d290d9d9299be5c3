-- Seats in a list of lanes, one after another.
use Rattle.std.proofs.Common.{◌≡◌, Option, Some, None, MatchOption, List, [], ◌∙◌}
use mathlib.Core.List.{IsPrefix}
use Rattle.turn_desk.proofs.Prefixes.{prefix_trans}
use Rattle.turn_desk.specs.Calls.{TableId, SeatFacts, IsSameSeat}

-- a seat of this desk that nothing was joined into, with nothing to spare
abbrev pub IsPlain : {E B : Type 0} → TableId → Option (SeatFacts E B) → Type 0
IsPlain t p = MatchOption p ⊥ (λ s. (s.desk ≡ t) × (s.ended ≡ []) × (s.spare ≡ []))

-- a seat that was served is as plain as it was
pub served_plain : {E B : Type 0} (t : TableId) (p q : Option (SeatFacts E B)) → IsPlain t p → MatchOption p ⊥ (λ s. MatchOption q ⊥ (λ u. IsSameSeat s u)) → IsPlain t q
served_plain t None q plain same = absurd plain
served_plain t (Some s) None plain same = absurd same
served_plain t (Some s) (Some u) plain same = (same.0 ∙ plain.0, same.4 ∙ plain.1, same.5 ∙ plain.2)

-- what a seat had seen begins all that goes on from it
pub lane_behind : {E B : Type 0} (p : Option (SeatFacts E B)) (xs ys : List E) → IsPrefix xs ys → MatchOption p ⊥ (λ s. IsPrefix s.seen xs) → MatchOption p ⊥ (λ s. IsPrefix s.seen ys)
lane_behind None xs ys more h = absurd h
lane_behind (Some s) xs ys more h = prefix_trans s.seen xs ys h more
