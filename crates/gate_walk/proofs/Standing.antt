-- Acts in a row, and longer histories.
use Rattle.std.proofs.Common.{◌≡◌, ℕ, ◌==◌, Bool, true, false, cond, ◌||◌, List, [], ◌∷◌, ◌++◌, ap, sym, ◌∙◌, append-nil, append_assoc, subst, refl}
use Rattle.book_rules.specs.History.{Base}
use Rattle.book_rules.specs.declared.events.Entry.{Entry}
use Rattle.gate_walk.specs.Acts.{Act, took, refused, sent, entry_of, entries_of, WentOn, Stand, made_by, sent_by, given_to, tell_closing, tells_closing}

with_one : (b : Bool) (x : Entry) (xs ys both : List Entry) → both ≡ xs ++ ys → cond b (x ∷ both) both ≡ cond b (x ∷ xs) xs ++ ys
with_one true x xs ys both e = ap (λ l. x ∷ l) e
with_one false x xs ys both e = e

pub entries_both : (n : ℕ) (xs ys : List Entry) → entries_of n (xs ++ ys) ≡ entries_of n xs ++ entries_of n ys
entries_both n [] ys = refl
entries_both n (x ∷ xs) ys = with_one (x.seat == n) x (entries_of n xs) (entries_of n ys) (entries_of n (xs ++ ys)) (entries_both n xs ys)

both_none : (n : ℕ) (xs ys : List Entry) → entries_of n xs ≡ [] → entries_of n ys ≡ [] → entries_of n (xs ++ ys) ≡ []
both_none n xs ys e f = entries_both n xs ys ∙ ap (λ l. l ++ entries_of n ys) e ∙ f

pub stays : (n : ℕ) (before : List Entry) → WentOn n before before
stays n before = ([], sym (append-nil before), refl)

pub goes_on : (n : ℕ) (before here more : List Entry) → WentOn n before here → entries_of n more ≡ [] → WentOn n before (here ++ more)
goes_on n before here more w free = (w.0 ++ more, ap (λ l. l ++ more) w.1 ∙ append_assoc before w.0 more, both_none n w.0 more w.2 free)

-- from before to mid and on to here
pub goes_far : (n : ℕ) (before mid here : List Entry) → WentOn n before mid → WentOn n mid here → WentOn n before here
goes_far n before mid here w v = subst (WentOn n before) (sym v.1) (goes_on n before mid v.0 w v.2)

-- acts that stand in a history stand in a longer one, where the seat has no further entry
pub stand_longer : (base : Base) (n : ℕ) (acts : List Act) (before after more : List Entry) → Stand base n before acts after → entries_of n more ≡ [] → Stand base n before acts (after ++ more)
stand_longer base n [] before after more s free = goes_on n before after more s free
stand_longer base n (took event kept reply ∷ acts) before after more s free = (s.0, s.1, s.2, stand_longer base n acts _ after more s.3 free)
stand_longer base n (refused event full ∷ acts) before after more s free = (s.0, s.1, s.2, stand_longer base n acts _ after more s.3 free)
stand_longer base n (sent request outcome ∷ acts) before after more s free = stand_longer base n acts before after more s free

-- the history may have gone on before the first of them
pub stand_from : (base : Base) (n : ℕ) (acts : List Act) (before mid after : List Entry) → WentOn n before mid → Stand base n mid acts after → Stand base n before acts after
stand_from base n [] before mid after w s = goes_far n before mid after w s
stand_from base n (took event kept reply ∷ acts) before mid after w s = (s.0, goes_far n before mid s.0 w s.1, s.2, s.3)
stand_from base n (refused event full ∷ acts) before mid after w s = (s.0, goes_far n before mid s.0 w s.1, s.2, s.3)
stand_from base n (sent request outcome ∷ acts) before mid after w s = stand_from base n acts before mid after w s

-- acts in a row stand one behind the other
pub stand_both : (base : Base) (n : ℕ) (acts next : List Act) (before mid after : List Entry) → Stand base n before acts mid → Stand base n mid next after → Stand base n before (acts ++ next) after
stand_both base n [] next before mid after s t = stand_from base n next before mid after s t
stand_both base n (took event kept reply ∷ acts) next before mid after s t = (s.0, s.1, s.2, stand_both base n acts next _ mid after s.3 t)
stand_both base n (refused event full ∷ acts) next before mid after s t = (s.0, s.1, s.2, stand_both base n acts next _ mid after s.3 t)
stand_both base n (sent request outcome ∷ acts) next before mid after s t = stand_both base n acts next before mid after s t

pub made_both : (n : ℕ) (acts next : List Act) → made_by n (acts ++ next) ≡ made_by n acts ++ made_by n next
made_both n [] next = refl
made_both n (took event kept reply ∷ acts) next = ap (λ l. entry_of n event kept ∷ l) (made_both n acts next)
made_both n (refused event full ∷ acts) next = made_both n acts next
made_both n (sent request outcome ∷ acts) next = made_both n acts next

pub sent_both : (acts next : List Act) → sent_by (acts ++ next) ≡ sent_by acts ++ sent_by next
sent_both [] next = refl
sent_both (took event kept reply ∷ acts) next = sent_both acts next
sent_both (refused event full ∷ acts) next = sent_both acts next
sent_both (sent request outcome ∷ acts) next = ap (λ l. request ∷ l) (sent_both acts next)

pub given_both : (acts next : List Act) → given_to (acts ++ next) ≡ given_to acts ++ given_to next
given_both [] next = refl
given_both (took event kept reply ∷ acts) next = given_both acts next
given_both (refused event full ∷ acts) next = given_both acts next
given_both (sent request outcome ∷ acts) next = ap (λ l. outcome ∷ l) (given_both acts next)

or_assoc : (a b c : Bool) → (a || (b || c)) ≡ ((a || b) || c)
or_assoc true b c = refl
or_assoc false b c = refl

pub closing_both : (acts next : List Act) → tell_closing (acts ++ next) ≡ (tell_closing acts || tell_closing next)
closing_both [] next = refl
closing_both (act ∷ acts) next = ap (λ b. tells_closing act || b) (closing_both acts next) ∙ or_assoc (tells_closing act) (tell_closing acts) (tell_closing next)
