-- How lines are carried out, one by one.
use Rattle.std.proofs.Common.{◌≡◌, ◌⊎◌, inl, inr, ℕ, ◌+◌, List, [], ◌∷◌, ◌++◌, Option, Some, None, refl, sym, ap, ◌∙◌, append_assoc, append-nil, subst, Result, Ok, Err, OnErr}
use Rattle.std.specs.Borrow.{Bor}
use Rattle.std.specs.Io.KnownBytes.{Appends}
use Rattle.std.proofs.KnownBytes.{Appends-nil, Appends-trans}
use Rattle.book_rules.specs.declared.events.Entry.{Entry}
use Rattle.book_rules.specs.History.{Base}
use Rattle.script_records.specs.Coding.{lines_left}
use Rattle.play_script.specs.Play.{Turn, IsFront, SaysFront, status_at}
use Rattle.play_script.specs.declared.turns.End.{End}
use Rattle.admin_command.specs.Administering.{Administers, CarriedOut, Came, before, IsTurn, GoesOn}

-- what holds, where an answer is an error
pub on_err_of : {T E : Type 0} (r : Result T E) (P : Type 0) → P → OnErr r P
on_err_of (Ok v) P h = tt
on_err_of (Err e) P h = h

-- before anything of a line was written
pub cut_before : (base : Base) (number : ℕ) (history after : List Entry) (line : List ℕ) (a : Option (List ℕ))
    → (after ≡ history) ⊎ ((now : Turn) × IsTurn base number history line now × (after ≡ now.history))
    → SaysFront a a (λ front. ((front ≡ []) × (after ≡ history)) ⊎ ((now : Turn) × IsTurn base number history line now × (after ≡ now.history) × IsFront front now.text))
cut_before base number history after line a (inl same) = ([], inl (refl, same), Appends-nil a)
cut_before base number history after line a (inr (now, turn, left)) = ([], inr (now, turn, left, (now.text, refl)), Appends-nil a)

-- So much was written, and behind it comes what the lines print: together that is what all lines print.
pub record Carrying (base : Base) (all : List (List ℕ)) (old now : Option (List ℕ)) (number : ℕ) (history : List Entry) (lines : List (List ℕ)) : Type 0 where
  pub so_far : List ℕ
  pub wrote : Appends old now so_far
  pub goes : (rest : Came) → Administers base number history lines rest → Administers base 1 [] all (before so_far rest)
  pub cuts : (front : List ℕ) (after : List Entry) → CarriedOut base number history lines front after → CarriedOut base 1 [] all (so_far ++ front) after

pub begins : (base : Base) (all : List (List ℕ)) (a : Option (List ℕ)) (history : List Entry) → history ≡ [] → Carrying base all a a 1 history all
begins base all a history none = subst (λ (h : List Entry). Carrying base all a a 1 h all) (sym none) (record { so_far = []; wrote = Appends-nil a; goes = λ rest administers. administers; cuts = λ front after cut. cut })

-- nothing of the lines was carried out
none_carried : (base : Base) (number : ℕ) (history : List Entry) (lines : List (List ℕ)) → CarriedOut base number history lines [] history
none_carried base number history lines = record {
  first = [];
  rest = lines;
  parted = refl;
  came = record { history = history; text = []; status = 0 };
  come = refl;
  left = refl;
  is_front = ([], refl);
}

-- a line alone, whether more would follow it or not
alone : (ends : Option End) (base : Base) (number : ℕ) (now : Turn) → (came : Came) × GoesOn ends now (Administers base (number + 1) now.history []) came × (came.history ≡ now.history) × (came.text ≡ now.text)
alone None base number now =
    (record { history = now.history; text = now.text ++ []; status = 0 }, ((record { history = now.history; text = []; status = 0 }), refl, refl), refl, append-nil now.text)
alone (Some end) base number now = (record { history = now.history; text = now.text; status = status_at end }, refl, refl, refl)

-- the first line was, and a front of what it prints was written
one_carried : (base : Base) (number : ℕ) (history : List Entry) (line : List ℕ) (lines : List (List ℕ)) (now : Turn) (front : List ℕ) (after : List Entry)
    → IsTurn base number history line now → after ≡ now.history → IsFront front now.text → CarriedOut base number history (line ∷ lines) front after
one_carried base number history line lines now front after turn left is =
    let came = alone now.ends base number now in
    record {
      first = line ∷ [];
      rest = lines;
      parted = refl;
      came = came.0;
      come = (now, turn, came.1);
      left = left ∙ sym came.2;
      is_front = subst (IsFront front) (sym came.3) is;
    }

front_behind : (text front whole : List ℕ) → IsFront front whole → IsFront (text ++ front) (text ++ whole)
front_behind text front whole is = (is.0, append_assoc text front is.0 ∙ ap (λ w. text ++ w) is.1)

module _ (base : Base) (all : List (List ℕ)) (a b c : Option (List ℕ)) (number : ℕ) (history : List Entry) (line : List ℕ) (lines : List (List ℕ)) where
  -- such a front of a line, and what it leaves
  abbrev CutShort : List Entry → List ℕ → Type 0
  CutShort after front = ((front ≡ []) × (after ≡ history)) ⊎ ((now : Turn) × IsTurn base number history line now × (after ≡ now.history) × IsFront front now.text)

  carried : (after : List Entry) (front : List ℕ) → CutShort after front → CarriedOut base number history (line ∷ lines) front after
  carried after front (inl none) =
      subst (λ f. CarriedOut base number history (line ∷ lines) f after) (sym none.0)
      (subst (λ (h : List Entry). CarriedOut base number history (line ∷ lines) [] h) (sym none.1) (none_carried base number history (line ∷ lines)))
  carried after front (inr (now, turn, left, is)) = one_carried base number history line lines now front after turn left is

  -- a front of what a line prints was written
  pub cut_short : (after : List Entry) → Carrying base all a b number history (line ∷ lines) → SaysFront b c (CutShort after)
      → (front : List ℕ) × CarriedOut base 1 [] all front after × Appends a c front
  cut_short after p (front, is, wrote) = (p.so_far ++ front, p.cuts front after (carried after front is), Appends-trans a b c p.so_far front p.wrote wrote)

  -- a line was said, and it was the last
  pub stopped : (text : List ℕ) (after : List Entry) (end : End) → Carrying base all a b number history (line ∷ lines) → Appends b c text
      → IsTurn base number history line (record { history = after; text = text; ends = Some end })
      → (came : Came) × Administers base 1 [] all came × (after ≡ came.history) × (status_at end ≡ came.status) × Appends a c came.text
  stopped text after end p wrote turn = (
    record { history = after; text = p.so_far ++ text; status = status_at end },
    p.goes (record { history = after; text = text; status = status_at end }) (record { history = after; text = text; ends = Some end }, turn, refl),
    refl,
    refl,
    Appends-trans a b c p.so_far text p.wrote wrote,
  )

  -- one more line stands in front of those that were carried out
  one_more : (text : List ℕ) (after : List Entry) (front : List ℕ) (last : List Entry) → IsTurn base number history line (record { history = after; text = text; ends = None })
      → CarriedOut base (number + 1) after lines front last → CarriedOut base number history (line ∷ lines) (text ++ front) last
  one_more text after front last turn out = record {
    first = line ∷ out.first;
    rest = out.rest;
    parted = ap (λ ls. line ∷ ls) out.parted;
    came = before text out.came;
    come = (record { history = after; text = text; ends = None }, turn, (out.came, out.come, refl));
    left = out.left;
    is_front = front_behind text front out.came.text out.is_front;
  }

  -- a line was said, and the next is reached
  pub said : (text : List ℕ) (after : List Entry) → Carrying base all a b number history (line ∷ lines) → Appends b c text
      → IsTurn base number history line (record { history = after; text = text; ends = None }) → Carrying base all a c (number + 1) after lines
  said text after p wrote turn = record {
    so_far = p.so_far ++ text;
    wrote = Appends-trans a b c p.so_far text p.wrote wrote;
    goes = λ rest administers. subst (Administers base 1 [] all) (ap (λ t. record { history = rest.history; text = t; status = rest.status }) (sym (append_assoc p.so_far text rest.text)))
        (p.goes (before text rest) (record { history = after; text = text; ends = None }, turn, (rest, administers, refl)));
    cuts = λ front last out. subst (λ f. CarriedOut base 1 [] all f last) (sym (append_assoc p.so_far text front))
        (p.cuts (text ++ front) last (one_more text after front last turn out));
  }

-- the lines of what is left, where it is known what is left
pub then_left : (left : List (List ℕ)) (line : List ℕ) (more known : Option (Bor (List ℕ))) → left ≡ line ∷ lines_left more → more ≡ known → left ≡ line ∷ lines_left known
then_left left line more known first is = first ∙ ap (λ o. line ∷ lines_left o) is

-- no line is left
pub finished : (base : Base) (all : List (List ℕ)) (a b : Option (List ℕ)) (number : ℕ) (history : List Entry) → Carrying base all a b number history []
    → (came : Came) × Administers base 1 [] all came × (history ≡ came.history) × (0 ≡ came.status) × Appends a b came.text
finished base all a b number history p = (
  record { history = history; text = p.so_far ++ []; status = 0 },
  p.goes (record { history = history; text = []; status = 0 }) refl,
  refl,
  refl,
  subst (Appends a b) (sym (append-nil p.so_far)) p.wrote,
)

-- the same where the book tells the base, and the lines are those of what is left
module _ (base told : Base) (same : told ≡ base) (all : List (List ℕ)) (a b c : Option (List ℕ)) (number : ℕ) (history : List Entry) (line : List ℕ) (left lines : List (List ℕ)) (first : left ≡ line ∷ lines) (p : Carrying base all a b number history left) where
  at_line : Carrying base all a b number history (line ∷ lines)
  at_line = subst (Carrying base all a b number history) first p

  pub cut_short_at : (after : List Entry)
      → SaysFront b c (λ front. ((front ≡ []) × (after ≡ history)) ⊎ ((now : Turn) × IsTurn told number history line now × (after ≡ now.history) × IsFront front now.text))
      → (front : List ℕ) × CarriedOut base 1 [] all front after × Appends a c front
  cut_short_at after says =
      cut_short base all a b c number history line lines after at_line
      (subst (λ (l : Base). SaysFront b c (λ front. ((front ≡ []) × (after ≡ history)) ⊎ ((now : Turn) × IsTurn l number history line now × (after ≡ now.history) × IsFront front now.text))) same says)

  pub stopped_at : (after : List Entry) (ends : Option End) (end : End) → ends ≡ Some end
      → (text : List ℕ) × IsTurn told number history line (record { history = after; text = text; ends = ends }) × Appends b c text
      → (came : Came) × Administers base 1 [] all came × (after ≡ came.history) × (status_at end ≡ came.status) × Appends a c came.text
  stopped_at after ends end is (text, turn, wrote) =
      stopped base all a b c number history line lines text after end at_line wrote
      (subst (λ (l : Base). IsTurn l number history line (record { history = after; text = text; ends = Some end })) same
      (subst (λ o. IsTurn told number history line (record { history = after; text = text; ends = o })) is turn))

  pub said_at : (after : List Entry) (ends : Option End) → ends ≡ None
      → (text : List ℕ) × IsTurn told number history line (record { history = after; text = text; ends = ends }) × Appends b c text
      → Carrying base all a c (number + 1) after lines
  said_at after ends is (text, turn, wrote) =
      said base all a b c number history line lines text after at_line wrote
      (subst (λ (l : Base). IsTurn l number history line (record { history = after; text = text; ends = None })) same
      (subst (λ o. IsTurn told number history line (record { history = after; text = text; ends = o })) is turn))
