-- Sessions that were held so far, and one more.
use Rattle.std.proofs.Common.{◌≡◌, ℕ, Bool, true, false, not, ◌&&◌, List, [], ◌∷◌, ◌++◌, Option, Some, None, ap, sym, ◌∙◌, subst, refl, append-nil, append_assoc}
use Rattle.std.specs.Io.KnownBytes.{Appends}
use Rattle.std.proofs.KnownBytes.{Appends-nil, Appends-trans}
use Rattle.std.proofs.lemmas.List.{flat_map_more, map-append}
use Rattle.std.specs.List.{list_any}
use Rattle.backend_core.specs.Exchanges.{gained}
use Rattle.book_rules.specs.History.{Base}
use Rattle.book_rules.specs.declared.events.Entry.{Entry}
use Rattle.book_rules.specs.declared.events.Limits.{Limits}
use Rattle.gate_session.specs.Line.{session_line}
use Rattle.gate_walk.specs.declared.ended.LaneEnd.{LaneEnd}
use Rattle.gw_base.specs.Whole.{AppendsFront}
use Rattle.outside_core.specs.Lending.{gained_all}
use Rattle.outside_core.specs.Told.{LaneTold}
use Rattle.session_chain.specs.Chains.{Begins, Chain, HeldSession, Lead, WasHeld, histories_of, lines_of}
use Rattle.session_chain.specs.Ends.{has_next, has_port_fault, is_full, shuts_at, wants_memory}
use Rattle.session_chain.proofs.Fronts.{cut_second}

gained_none : {A : Type 0} (told : Option (List A)) → told ≡ gained_all told []
gained_none None = refl
gained_none (Some before) = ap Some (sym (append-nil before))

gained_more : {A : Type 0} (told : Option (List A)) (items : List A) (item : A) → gained (gained_all told items) item ≡ gained_all told (items ++ item ∷ [])
gained_more None items item = refl
gained_more (Some before) items item = ap Some (append_assoc before items (item ∷ []))

lead_more : (limits : Limits) (base : Base) (lanes : List LaneTold) (full : List HeldSession) (s : HeldSession) (next : Base) → Lead limits base lanes full s.base s.before
    → WasHeld s → has_next s.ends s.history ≡ true → Begins limits s.base s.history s.keeper next → Lead limits base lanes (full ++ s ∷ []) next s.now
lead_more limits base lanes [] s next l held has b = (l.0, l.1, held, has, (next, b, (refl, refl)))
lead_more limits base lanes (f ∷ full) s next l held has b = (l.0, l.1, l.2, l.3, (l.4.0, l.4.1, lead_more limits l.4.0 f.now full s next l.4.2 held has b))

histories_more : (full : List HeldSession) (s : HeldSession) → histories_of (full ++ s ∷ []) ≡ histories_of full ++ s.history ∷ []
histories_more full s = map-append (λ (h : HeldSession). h.history) full (s ∷ [])

lines_more : (full : List HeldSession) (s : HeldSession) → lines_of full ++ session_line s.base.opening s.history ≡ lines_of (full ++ s ∷ [])
lines_more full s = flat_map_more (λ (h : HeldSession). session_line h.base.opening h.history) [] full s

-- full sessions led to this book over these lanes; their lines were written, and their histories handed on
pub record Going (limits : Limits) (base : Base) (lent : List LaneTold) (archived : Option (List (List Entry))) (written : Option (List ℕ)) (full : List HeldSession)
    (next : Base) (rest : List LaneTold) (archive : Option (List (List Entry))) (now : Option (List ℕ)) : Type 0 where
  pub lead : Lead limits base lent full next rest
  pub handed_on : archive ≡ gained_all archived (histories_of full)
  pub lines : Appends written now (lines_of full)

pub going_first : (limits : Limits) (base : Base) (lent : List LaneTold) (archived : Option (List (List Entry))) (written : Option (List ℕ)) → Going limits base lent archived written [] base lent archived written
going_first limits base lent archived written = record { lead = (refl, refl); handed_on = gained_none archived; lines = Appends-nil written }

handed_more : (archived archive archive' : Option (List (List Entry))) (full : List HeldSession) (s : HeldSession) → archive ≡ gained_all archived (histories_of full) → archive' ≡ gained archive s.history
    → archive' ≡ gained_all archived (histories_of (full ++ s ∷ []))
handed_more archived archive archive' full s so is =
    is ∙ ap (λ a. gained a s.history) so ∙ gained_more archived (histories_of full) s.history ∙ ap (gained_all archived) (sym (histories_more full s))

written_more : (written now now' : Option (List ℕ)) (full : List HeldSession) (s : HeldSession) → Appends written now (lines_of full) → Appends now now' (session_line s.base.opening s.history) → Appends written now' (lines_of (full ++ s ∷ []))
written_more written now now' full s so line = subst (Appends written now') (lines_more full s) (Appends-trans written now now' (lines_of full) (session_line s.base.opening s.history) so line)

module _ (limits : Limits) (base : Base) (lent : List LaneTold) (archived : Option (List (List Entry))) (written : Option (List ℕ)) (full : List HeldSession) (s : HeldSession)
    (archive archive' : Option (List (List Entry))) (now now' : Option (List ℕ)) (going : Going limits base lent archived written full s.base s.before archive now) (held : WasHeld s)
    (handed : archive' ≡ gained archive s.history) where
  -- one that is full, and the next begins
  pub going_on : has_next s.ends s.history ≡ true → (next : Base) → Begins limits s.base s.history s.keeper next → Appends now now' (session_line s.base.opening s.history)
      → Going limits base lent archived written (full ++ s ∷ []) next s.now archive' now'
  going_on has next begins line = record {
    lead = lead_more limits base lent full s next going.lead held has begins;
    handed_on = handed_more archived archive archive' full s going.handed_on handed;
    lines = written_more written now now' full s going.lines line;
  }

  -- the last one
  pub chain_of : Chain limits base lent s.now archived archive' full s
  chain_of = record { lead = going.lead; held = held; left = refl; handed_on = handed_more archived archive archive' full s going.handed_on handed }

  pub lines_with : Appends now now' (session_line s.base.opening s.history) → Appends written now' (lines_of (full ++ s ∷ []))
  lines_with line = written_more written now now' full s going.lines line

  pub lines_cut : AppendsFront now now' (session_line s.base.opening s.history) → AppendsFront written now' (lines_of (full ++ s ∷ []))
  lines_cut line = subst (AppendsFront written now') (lines_more full s) (cut_second written now now' (lines_of full) (session_line s.base.opening s.history) going.lines line)

-- a session that has a next one: no Shutdown stands in its history
pub none_shuts : (ends : List LaneEnd) (history : List Entry) → has_next ends history ≡ true → list_any shuts_at history ≡ false
none_shuts ends history has = last (list_any is_full ends) (list_any has_port_fault ends) (list_any wants_memory ends) (list_any shuts_at history) has
  where
    differ : false ≡ true → ⊥
    differ e = cc

    last : (a b c d : Bool) → (a && (not b && (not c && not d))) ≡ true → d ≡ false
    last true false false false e = refl
    last true false false true e = absurd (differ e)
    last true false true d e = absurd (differ e)
    last true true c d e = absurd (differ e)
    last false b c d e = absurd (differ e)
