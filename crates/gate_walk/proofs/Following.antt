-- Acts of a seat that is alone: they follow each other in the history.
use Rattle.std.proofs.Common.{◌≡◌, ◌≢◌, ℕ, ◌+◌, ◌≤◌, ◌==◌, Bool, true, false, cond, List, [], ◌∷◌, ◌++◌, length, ap, sym, ◌∙◌, append-nil, append_assoc, length-append, subst, refl, arith}
use Rattle.std.proofs.lemmas.List.{append_cancel_left}
use Rattle.book_rules.specs.History.{Base, Answers}
use Rattle.book_rules.specs.declared.events.Entry.{Entry}
use Rattle.gate_walk.specs.Acts.{Act, took, refused, sent, WentOn, IsFullAt, Stand, entry_of, entries_of}
use Rattle.gate_walk.specs.Told.{IsAlone}
use Rattle.gate_walk.proofs.Standing.{entries_both}

-- each step was taken, or refused, where the one before it left the history
abbrev pub Follow : Base → ℕ → List Entry → List Act → List Entry → Type 0
Follow base n before [] after = after ≡ before
Follow base n before (took event kept reply ∷ acts) after = Answers base before (entry_of n event kept) reply × Follow base n (before ++ entry_of n event kept ∷ []) acts after
Follow base n before (refused event full ∷ acts) after = IsFullAt base before event full × Follow base n before acts after
Follow base n before (sent request outcome ∷ acts) after = Follow base n before acts after

few : (n : ℕ) (x : Entry) (xs : List Entry) (b : Bool) → length (entries_of n xs) ≤ length xs → length (cond b (x ∷ entries_of n xs) (entries_of n xs)) ≤ length (x ∷ xs)
few n x xs true h = omega (arith, h)
few n x xs false h = omega (arith, h)

no_more_than_all : (n : ℕ) (xs : List Entry) → length (entries_of n xs) ≤ length xs
no_more_than_all n [] = omega (arith)
no_more_than_all n (x ∷ xs) = few n x xs (x.seat == n) (no_more_than_all n xs)

empty : (xs : List Entry) → length xs ≤ 0 → xs ≡ []
empty [] h = refl
empty (x ∷ xs) h = absurd (past h)
  where
    past : length (x ∷ xs) ≤ 0 → ⊥
    past h = omega (arith, h)

-- where the seat is alone, no part of the history is without an entry of it
none_between : (n : ℕ) (xs ys zs : List Entry) → IsAlone n (xs ++ (ys ++ zs)) → entries_of n ys ≡ [] → ys ≡ []
none_between n xs ys zs alone free =
    let parts : entries_of n (xs ++ (ys ++ zs)) ≡ entries_of n xs ++ entries_of n zs =
    entries_both n xs (ys ++ zs) ∙ ap (λ l. entries_of n xs ++ l) (entries_both n ys zs ∙ ap (λ l. l ++ entries_of n zs) free) in
    let whole : length xs + (length ys + length zs) ≡ length (entries_of n xs) + length (entries_of n zs) =
    ap (λ k. length xs + k) (sym (length-append ys zs)) ∙ sym (length-append xs (ys ++ zs)) ∙ ap length (sym alone ∙ parts) ∙ length-append (entries_of n xs) (entries_of n zs) in
    empty ys (omega (arith, whole, no_more_than_all n xs, no_more_than_all n zs))

-- a history goes on from where acts begin
begins : (base : Base) (n : ℕ) (acts : List Act) (before after : List Entry) → Stand base n before acts after → (more : List Entry) × (after ≡ before ++ more)
begins base n [] before after s = (s.0, s.1)
begins base n (took event kept reply ∷ acts) before after (here, went, answers, then) =
    let later = begins base n acts (here ++ entry_of n event kept ∷ []) after then in (
      went.0 ++ (entry_of n event kept ∷ [] ++ later.0),
      later.1 ∙ append_assoc here (entry_of n event kept ∷ []) later.0 ∙ ap (λ l. l ++ (entry_of n event kept ∷ [] ++ later.0)) went.1 ∙ append_assoc before went.0 (entry_of n event kept ∷ [] ++ later.0),
    )
begins base n (refused event full ∷ acts) before after (here, went, full_there, then) =
    let later = begins base n acts here after then in
    (went.0 ++ later.0, later.1 ∙ ap (λ l. l ++ later.0) went.1 ∙ append_assoc before went.0 later.0)
begins base n (sent request outcome ∷ acts) before after s = begins base n acts before after s

-- it did not go on between two acts
stays_at : (n : ℕ) (before here after more : List Entry) → IsAlone n after → after ≡ here ++ more → WentOn n before here → here ≡ before
stays_at n before here after more alone is went =
    let apart : after ≡ before ++ (went.0 ++ more) = is ∙ ap (λ l. l ++ more) went.1 ∙ append_assoc before went.0 more in
    let none = none_between n before went.0 more (subst (IsAlone n) apart alone) went.2 in
    went.1 ∙ ap (λ l. before ++ l) none ∙ append-nil before

pub follows : (base : Base) (n : ℕ) (acts : List Act) (before after : List Entry) → IsAlone n after → Stand base n before acts after → Follow base n before acts after
follows base n [] before after alone s = stays_at n before after after [] alone (sym (append-nil after)) s
follows base n (took event kept reply ∷ acts) before after alone (here, went, answers, then) =
    let e = entry_of n event kept in
    let later = begins base n acts (here ++ e ∷ []) after then in
    let same = stays_at n before here after (e ∷ [] ++ later.0) alone (later.1 ∙ append_assoc here (e ∷ []) later.0) went in (
      subst (λ h. Answers base h e reply) same answers,
      subst (λ h. Follow base n (h ++ e ∷ []) acts after) same (follows base n acts (here ++ e ∷ []) after alone then),
    )
follows base n (refused event full ∷ acts) before after alone (here, went, full_there, then) =
    let later = begins base n acts here after then in
    let same = stays_at n before here after later.0 alone later.1 went in (
      subst (λ h. IsFullAt base h event full) same full_there,
      subst (λ h. Follow base n h acts after) same (follows base n acts here after alone then),
    )
follows base n (sent request outcome ∷ acts) before after alone s = follows base n acts before after alone s

-- acts lead to one history
pub one_after : (base : Base) (n : ℕ) (acts : List Act) (before a b : List Entry) → Follow base n before acts a → Follow base n before acts b → a ≡ b
one_after base n [] before a b f g = f ∙ sym g
one_after base n (took event kept reply ∷ acts) before a b f g = one_after base n acts (before ++ entry_of n event kept ∷ []) a b f.1 g.1
one_after base n (refused event full ∷ acts) before a b f g = one_after base n acts before a b f.1 g.1
one_after base n (sent request outcome ∷ acts) before a b f g = one_after base n acts before a b f g

-- acts in a row follow one behind the other
pub apart : (base : Base) (n : ℕ) (acts next : List Act) (before after : List Entry) → Follow base n before (acts ++ next) after
    → (mid : List Entry) × Follow base n before acts mid × Follow base n mid next after
apart base n [] next before after f = (before, refl, f)
apart base n (took event kept reply ∷ acts) next before after f =
    let then = apart base n acts next (before ++ entry_of n event kept ∷ []) after f.1 in (then.0, (f.0, then.1), then.2)
apart base n (refused event full ∷ acts) next before after f = let then = apart base n acts next before after f.1 in (then.0, (f.0, then.1), then.2)
apart base n (sent request outcome ∷ acts) next before after f = apart base n acts next before after f
