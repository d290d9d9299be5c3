-- What a lane did stands in the closed history.
use Rattle.std.proofs.Common.{◌≡◌, ℕ, ◌+◌, List, [], ◌∷◌, ◌++◌, length, Option, Some, None, IfSome, ap, sym, ◌∙◌, subst, refl, arith, length-append}
use mathlib.Core.List.{IsPrefix}
use Rattle.book_rules.specs.History.{Base}
use Rattle.book_rules.specs.declared.events.Entry.{Entry}
use Rattle.gate_session.specs.Posts.{Seat, Served, IsFresh}
use Rattle.gate_session.specs.Sessions.{LaneDid}
use Rattle.gate_walk.specs.Acts.{Stand, entries_of, made_by}
use Rattle.gate_walk.specs.Lanes.{acts_of_all}
use Rattle.gate_walk.specs.declared.ended.LaneEnd.{LaneEnd}
use Rattle.gate_walk.proofs.Standing.{entries_both, stand_longer}
use Rattle.outside_core.specs.Told.{LaneTold}
use Rattle.turn_desk.specs.Calls.{TableId}

nothing_more : {A : Type 0} (xs more : List A) → xs ≡ xs ++ more → more ≡ []
nothing_more xs [] e = refl
nothing_more xs (y ∷ ys) e = absurd (longer (ap length e ∙ length-append xs (y ∷ ys)))
  where
    longer : length xs ≡ length xs + length (y ∷ ys) → ⊥
    longer h = omega (arith, h)

-- the history goes on from what the seat had seen without an entry of its number
none_behind : (number : ℕ) (seen more history mine : List Entry) → seen ++ more ≡ history → mine ≡ entries_of number seen → mine ≡ entries_of number history → entries_of number more ≡ []
none_behind number seen more history mine goes own all = nothing_more (entries_of number seen) (entries_of number more) (sym own ∙ all ∙ ap (entries_of number) (sym goes) ∙ entries_both number seen more)

pub based : (base : Base) (told : Option Base) (Holds : Base → Type 0) → told ≡ Some base → IfSome told Holds → Holds base
based base told Holds is h = subst (λ x. IfSome x Holds) is h

-- what a lane did by its own seat, which was fresh, it did in the closed history
pub lane_did : (desk : TableId) (base : Base) (number : ℕ) (s t : Seat) (old new : LaneTold) (end : LaneEnd) (history : List Entry)
    → IsFresh desk base number s → Served s t old new end → t.mine ≡ entries_of t.number history → IsPrefix t.seen history → LaneDid base number old new end history
lane_did desk base number s t old new end history fresh served all behind =
    let acts = acts_of_all served.visits in
    let number_is : t.number ≡ number = served.did.same.2 ∙ fresh.number_is in
    let whole : t.mine ≡ entries_of number history = subst (λ n. t.mine ≡ entries_of n history) number_is all in
    let own : t.mine ≡ entries_of number t.seen = subst (λ n. t.mine ≡ entries_of n t.seen) number_is served.did.own in
    let free = none_behind number t.seen behind.0 history t.mine behind.1 own whole in
    let stand : Stand base s.number s.seen acts t.seen = based base s.base (λ b. Stand b s.number s.seen acts t.seen) fresh.based served.did.stand in
    let from_none : Stand base number [] acts t.seen = subst (λ n. Stand base n [] acts t.seen) fresh.number_is (subst (λ x. Stand base s.number x acts t.seen) fresh.seen stand) in
    let made : t.mine ≡ made_by number acts = served.did.mine ∙ ap (λ x. x ++ made_by s.number acts) fresh.mine ∙ ap (λ n. made_by n acts) fresh.number_is in
    record {
      visits = served.visits;
      tells = served.tells;
      stand = subst (λ x. Stand base number [] acts x) behind.1 (stand_longer base number acts [] t.seen behind.0 from_none free);
      entries = sym whole ∙ made;
    }

pub some_same : {A : Type 0} {x y : A} → Some x ≡ Some y → x ≡ y
some_same {A} {x} e = ap (λ o. in_some o) e
  where
    in_some : Option A → A
    in_some None = x
    in_some (Some z) = z
