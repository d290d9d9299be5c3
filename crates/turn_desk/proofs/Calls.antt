-- What one call comes to, from its parts.
use Rattle.std.proofs.Common.{◌≡◌, ℕ, List, [], ◌∷◌, ◌++◌, Some, ap, sym, ◌∙◌, subst}
use Rattle.std.specs.Prelude.{IfOk, IfErr, is_ok}
use Rattle.std.proofs.Common.{Result, Ok, Err}
use mathlib.Core.List.{IsPrefix}
use Rattle.turn_desk.specs.declared.view.Known.{Known}
use Rattle.turn_desk.specs.Entries.{entries_of, Grows}
use Rattle.turn_desk.specs.Views.{at_history}
use Rattle.turn_desk.specs.Calls.{TableId, SeatFacts, Taken, NotTaken, facts_of}
use Rattle.turn_desk.proofs.Keeps.{entries_own}

-- what a step of the machine says of the history
pub grows_from : {E B V R F : Type 0} (seat_of : E → ℕ) (event_of : E → V) (answers : B → List E → E → R → Type 0) (refuses : B → List E → ℕ → V → F → Type 0) (n : ℕ) (base : B) (found now : List E) (event : V) (r : Result R F)
    → IfOk r (λ x. (e : E) × (now ≡ found ++ e ∷ []) × (seat_of e ≡ n) × (event_of e ≡ event) × answers base found e x) → IfErr r (λ f. (now ≡ found) × refuses base found n event f) → Grows seat_of n (is_ok r) found now
grows_from seat_of event_of answers refuses n base found now event (Ok x) ok err = (ok.0, ok.1, ok.2)
grows_from seat_of event_of answers refuses n base found now event (Err f) ok err = err.0

pub taken_from : {E B V R : Type 0} (seat_of : E → ℕ) (event_of : E → V) (answers : B → List E → E → R → Type 0) (desk now_desk : TableId) (k l : Known E B) (before now : List E) (base : B) (event : V) (r : R)
    → k.base ≡ Some base → IsPrefix k.seen before → k.mine ≡ entries_of seat_of k.number before → l ≡ at_history seat_of now k
    → (e : E) × (now ≡ before ++ e ∷ []) × (seat_of e ≡ k.number) × (event_of e ≡ event) × answers base before e r → Taken seat_of event_of answers (facts_of desk k) (facts_of now_desk l) event r
taken_from seat_of event_of answers desk now_desk k l before now base event r based after own is t = record {
  before = before;
  entry = t.0;
  base = base;
  based = based;
  after = after;
  seen = ap (λ x. x.seen) is ∙ t.1;
  mine = ap (λ x. x.mine) is ∙ (ap (entries_of seat_of k.number) t.1 ∙ (entries_own seat_of before t.0 k.number t.2 ∙ ap (λ m. m ++ t.0 ∷ []) (sym own)));
  seat = t.2;
  event = t.3;
  reply = t.4;
}

pub not_taken_from : {E B V F : Type 0} (seat_of : E → ℕ) (refuses : B → List E → ℕ → V → F → Type 0) (desk now_desk : TableId) (k l : Known E B) (before now : List E) (base : B) (event : V) (f : F)
    → k.base ≡ Some base → IsPrefix k.seen before → k.mine ≡ entries_of seat_of k.number before → l ≡ at_history seat_of now k
    → (now ≡ before) × refuses base before k.number event f → NotTaken refuses (facts_of desk k) (facts_of now_desk l) event f
not_taken_from seat_of refuses desk now_desk k l before now base event f based after own is t =
    let seen : l.seen ≡ before = ap (λ x. x.seen) is ∙ t.0 in record {
      base = base;
      based = based;
      after = subst (IsPrefix k.seen) (sym seen) after;
      mine = ap (λ x. x.mine) is ∙ (ap (entries_of seat_of k.number) t.0 ∙ sym own);
      fault = subst (λ s. refuses base s k.number event f) (sym seen) t.1;
    }

module _ {E B : Type 0} where
  -- a seat of this desk fits its table
  pub at_desk : (t u : TableId) (k : Known E B) (seat : SeatFacts E B) (desk : TableId) → facts_of t k ≡ seat → u ≡ desk → seat.desk ≡ desk → t ≡ u
  at_desk t u k seat desk is table fits = ap (λ s. s.desk) is ∙ (fits ∙ sym table)
