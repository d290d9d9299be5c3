-- How a play goes on, line by line.
use Rattle.std.proofs.Common.{◌≡◌, ◌⊎◌, inl, inr, ℕ, ◌+◌, Bool, true, false, List, [], ◌∷◌, ◌++◌, Option, Some, None, refl, sym, ap, ◌∙◌, append_assoc, append-nil, subst, drop, get_or, Result, Ok, Err, IfOk, OnErr}
use Rattle.std.specs.Borrow.{Bor}
use Rattle.std.specs.Io.KnownBytes.{Appends}
use Rattle.std.proofs.KnownBytes.{Appends-nil, Appends-trans}
use Rattle.gw_base.specs.Whole.{AppendsFront}
use Rattle.book_rules.specs.declared.events.Entry.{Entry}
use Rattle.book_rules.specs.History.{Base}
use Rattle.script_records.specs.Coding.{lines_left}
use Rattle.book_rules.specs.declared.events.Limits.{Limits}
use Rattle.play_session.specs.Sessions.{base_of}
use Rattle.play_script.specs.Gathered.{Gathers}
use Rattle.play_script.specs.Play.{GoesOn, GoesOnInFront, Opening, names_load, OpenedFrontBy, OpenedFront, Output, Turn, before, IsTurn, IsFront, Plays, PlaysFront, SaysFront, status_at}
use Rattle.play_script.specs.declared.turns.End.{End}

-- what holds, where an answer is an error
pub on_err_of : {T E : Type 0} (r : Result T E) (P : Type 0) → P → OnErr r P
on_err_of (Ok v) P h = tt
on_err_of (Err e) P h = h

-- nothing is a front of all
pub nothing_front : (base : Base) (number : ℕ) (history : List Entry) (lines : List (List ℕ)) → PlaysFront base number history lines []
nothing_front base number history [] = refl
nothing_front base number history (line ∷ lines) = inl refl

pub says_nothing : (a : Option (List ℕ)) (Front : List ℕ → Type 0) → Front [] → SaysFront a a Front
says_nothing a Front none = ([], none, Appends-nil a)

-- nothing was written
pub nothing : (a : Option (List ℕ)) (text : List ℕ) → AppendsFront a a text
nothing a text = (text, ([], refl, Appends-nil a))

-- what was written of a text is a front of it
pub says_front : (a b : Option (List ℕ)) (text : List ℕ) → AppendsFront a b text → SaysFront a b (λ front. IsFront front text)
says_front a b text h = (h.1.0, (h.0, sym h.1.1), h.1.2)

-- where a front of a text and what follows it make this and more, they part at the end of the text
parted : (front rest text more : List ℕ) → front ++ rest ≡ text ++ more → IsFront front text ⊎ ((behind : List ℕ) × (front ≡ text ++ behind) × IsFront behind more)
parted [] rest text more is = inl (text, refl)
parted (x ∷ front) rest [] more is = inr (x ∷ front, refl, (rest, is))
parted (x ∷ front) rest (y ∷ text) more is = longer (parted front rest text more (ap (drop 1) is))
  where
    same : (tail : List ℕ) → front ≡ tail → x ∷ front ≡ y ∷ tail
    same tail tails = ap (λ h. h ∷ front) (ap (λ l. get_or l 0 x) is) ∙ ap (λ t. y ∷ t) tails

    longer : IsFront front text ⊎ ((behind : List ℕ) × (front ≡ text ++ behind) × IsFront behind more)
        → IsFront (x ∷ front) (y ∷ text) ⊎ ((behind : List ℕ) × (x ∷ front ≡ (y ∷ text) ++ behind) × IsFront behind more)
    longer (inl (left, both)) = inl (left, ap (λ h. h ∷ front ++ left) (ap (λ l. get_or l 0 x) is) ∙ ap (λ t. y ∷ t) both)
    longer (inr (behind, both, further)) = inr (behind, same (text ++ behind) both, further)

none_before : (front rest : List ℕ) → front ++ rest ≡ [] → front ≡ []
none_before [] rest none = refl
none_before (x ∷ front) rest none = absurd cc

-- a front of a front of what lines print is one too
pub front_of_front : (base : Base) (number : ℕ) (history : List Entry) (lines : List (List ℕ)) (text front : List ℕ)
    → PlaysFront base number history lines text → IsFront front text → PlaysFront base number history lines front
front_of_front base number history [] text front none (rest, is) = none_before front rest (is ∙ none)
front_of_front base number history (line ∷ lines) text front (inl none) (rest, is) = inl (none_before front rest (is ∙ none))
front_of_front base number history (line ∷ lines) text front (inr (now, turn, inl (left, both))) (rest, is) =
    inr (now, turn, inl (rest ++ left, sym (append_assoc front rest left) ∙ ap (λ t. t ++ left) is ∙ both))
front_of_front base number history (line ∷ lines) text front (inr (now, turn, inr goes)) (rest, is) =
    inr (now, turn, go (λ more behind. front_of_front base (number + 1) now.history lines more behind) now.ends goes)
  where
    go : ((more behind : List ℕ) → PlaysFront base (number + 1) now.history lines more → IsFront behind more → PlaysFront base (number + 1) now.history lines behind)
        → (ends : Option End) → GoesOnInFront ends now.text (PlaysFront base (number + 1) now.history lines) text
        → IsFront front now.text ⊎ GoesOnInFront ends now.text (PlaysFront base (number + 1) now.history lines) front
    go shorter None (more, further, both) = pick (parted front rest now.text more (is ∙ both))
      where
        pick : IsFront front now.text ⊎ ((behind : List ℕ) × (front ≡ now.text ++ behind) × IsFront behind more)
            → IsFront front now.text ⊎ GoesOnInFront None now.text (PlaysFront base (number + 1) now.history lines) front
        pick (inl within) = inl within
        pick (inr (behind, whole, short)) = inr (behind, shorter more behind further short, whole)
    go shorter (Some end) never = absurd never

-- all that lines print is a front of it
pub all_is_front : (base : Base) (number : ℕ) (history : List Entry) (lines : List (List ℕ)) (output : Output)
    → Plays base number history lines output → PlaysFront base number history lines output.text
all_is_front base number history [] output is = ap (λ (o : Output). o.text) is
all_is_front base number history (line ∷ lines) output (now, turn, goes) =
    inr (now, turn, go (λ rest. all_is_front base (number + 1) now.history lines rest) now.ends goes)
  where
    go : ((rest : Output) → Plays base (number + 1) now.history lines rest → PlaysFront base (number + 1) now.history lines rest.text)
        → (ends : Option End) → GoesOn ends now.text (Plays base (number + 1) now.history lines) output
        → IsFront output.text now.text ⊎ GoesOnInFront ends now.text (PlaysFront base (number + 1) now.history lines) output.text
    go whole None (rest, further, is) = inr (rest.text, whole rest further, ap (λ (o : Output). o.text) is)
    go whole (Some end) is = inl ([], append-nil output.text ∙ ap (λ (o : Output). o.text) is)

-- where nothing is gathered, nothing was written
pub gathers_none : (a : Option (List ℕ)) (gathered : List ℕ) → gathered ≡ [] → Gathers a a gathered []
gathers_none a gathered none = ([], Appends-nil a, sym none)

module _ (a b c : Option (List ℕ)) (gathered : List ℕ) where
  -- what is gathered is written: that is the whole text
  pub all_written : (text : List ℕ) → Gathers a b gathered text → Appends b c gathered → Appends a c text
  all_written text (wrote, first, is) then = subst (Appends a c) (sym is) (Appends-trans a b c wrote gathered first then)

  -- some of what is gathered is written, and of that nothing stays behind but what is gathered then
  written_on : (text after : List ℕ) → Gathers a b gathered text → Gathers b c after gathered → Gathers a c after text
  written_on text after (wrote, first, is) (more, then, parts) =
      (wrote ++ more, Appends-trans a b c wrote more first then, is ∙ ap (λ t. wrote ++ t) parts ∙ sym (append_assoc wrote more after))

  -- a front of what is gathered is written: that is a front of the text
  cut_off : (text : List ℕ) → Gathers a b gathered text → AppendsFront b c gathered → (front : List ℕ) × IsFront front text × Appends a c front
  cut_off text (wrote, first, is) (rest, (front, parts, then)) =
      (wrote ++ front, (rest, append_assoc wrote front rest ∙ sym (ap (λ t. wrote ++ t) parts) ∙ sym is), Appends-trans a b c wrote front first then)

  pub says_front_of : (base : Base) (number : ℕ) (history : List Entry) (lines : List (List ℕ))
      → (text : List ℕ) × PlaysFront base number history lines text × Gathers a b gathered text → AppendsFront b c gathered
      → SaysFront a c (PlaysFront base number history lines)
  says_front_of base number history lines (text, plays, kept) wrote = short (cut_off text kept wrote)
    where
      short : (front : List ℕ) × IsFront front text × Appends a c front → SaysFront a c (PlaysFront base number history lines)
      short (front, is, all) = (front, front_of_front base number history lines text front plays is, all)

  pub says_all_of : (base : Base) (number : ℕ) (history : List Entry) (lines : List (List ℕ))
      → (text : List ℕ) × PlaysFront base number history lines text × Gathers a b gathered text → Appends b c gathered
      → SaysFront a c (PlaysFront base number history lines)
  says_all_of base number history lines (text, plays, kept) wrote = (text, plays, all_written text kept wrote)

-- whether a play ended or memory was wanting, of a front of what it prints some is written, and the rest is gathered
pub is_left : {E : Type 0} (base : Base) (number : ℕ) (lines : List (List ℕ)) (a b : Option (List ℕ)) (gathered : List ℕ) (played : Result ℕ E)
    → IfOk played (λ status. (text : List ℕ) × Plays base number [] lines (record { text = text; status = status }) × Gathers a b gathered text)
    → OnErr played ((front : List ℕ) × PlaysFront base number [] lines front × Gathers a b gathered front)
    → (front : List ℕ) × PlaysFront base number [] lines front × Gathers a b gathered front
is_left base number lines a b gathered (Ok status) (text, plays, kept) wanting = (text, all_is_front base number [] lines (record { text = text; status = status }) plays, kept)
is_left base number lines a b gathered (Err e) all wanting = wanting

-- So much is printed, of which some may be gathered only, and behind it comes what the lines print: together that is what
-- all lines print.
pub record Playing (base : Base) (begin : ℕ) (all : List (List ℕ)) (old now : Option (List ℕ)) (gathered : List ℕ) (number : ℕ) (history : List Entry) (lines : List (List ℕ)) : Type 0 where
  pub so_far : List ℕ
  pub kept : Gathers old now gathered so_far
  pub goes : (rest : Output) → Plays base number history lines rest → Plays base begin [] all (before so_far rest)
  pub fronts : (front : List ℕ) → PlaysFront base number history lines front → PlaysFront base begin [] all (so_far ++ front)

pub begins : (base : Base) (begin : ℕ) (all : List (List ℕ)) (a : Option (List ℕ)) (gathered : List ℕ) (history : List Entry) → gathered ≡ [] → history ≡ [] → Playing base begin all a a gathered begin history all
begins base begin all a gathered history empty none =
    subst (λ (h : List Entry). Playing base begin all a a gathered begin h all) (sym none) (record { so_far = []; kept = gathers_none a gathered empty; goes = λ rest plays. plays; fronts = λ front plays. plays })

module _ (base : Base) (begin : ℕ) (all : List (List ℕ)) (a b : Option (List ℕ)) (gathered : List ℕ) (number : ℕ) (history : List Entry) (lines : List (List ℕ)) (p : Playing base begin all a b gathered number history lines) where
  -- what is gathered is written, or stays
  pub goes_on : (c : Option (List ℕ)) (after : List ℕ) → Gathers b c after gathered → Playing base begin all a c after number history lines
  goes_on c after wrote = record { so_far = p.so_far; kept = written_on a b c gathered p.so_far after p.kept wrote; goes = p.goes; fronts = p.fronts }

  -- the play ends here for want of memory
  pub wants : (text : List ℕ) × PlaysFront base begin [] all text × Gathers a b gathered text
  wants = (p.so_far, subst (PlaysFront base begin [] all) (append-nil p.so_far) (p.fronts [] (nothing_front base number history lines)), p.kept)

  -- a front of what is gathered was written
  pub breaks : (c : Option (List ℕ)) → AppendsFront b c gathered → SaysFront a c (PlaysFront base begin [] all)
  breaks c wrote = says_front_of a b c gathered base begin [] all wants wrote

module _ (base : Base) (begin : ℕ) (all : List (List ℕ)) (a b : Option (List ℕ)) (gathered : List ℕ) (number : ℕ) (history : List Entry) (line : List ℕ) (lines : List (List ℕ)) (text : List ℕ) (after : List Entry) (p : Playing base begin all a b gathered number history (line ∷ lines)) where
  -- what a line says is gathered too
  longer : Gathers a b (gathered ++ text) (p.so_far ++ text)
  longer = (p.kept.0, p.kept.1, ap (λ t. t ++ text) p.kept.2 ∙ append_assoc p.kept.0 gathered text)

  -- a line was said, and it was the last
  pub stopped : (end : End) → IsTurn base number history line (record { history = after; text = text; ends = Some end })
      → (all_text : List ℕ) × Plays base begin [] all (record { text = all_text; status = status_at end }) × Gathers a b (gathered ++ text) all_text
  stopped end turn = (
    p.so_far ++ text,
    p.goes (record { text = text; status = status_at end }) (record { history = after; text = text; ends = Some end }, turn, refl),
    longer,
  )

  -- a line was said, and the next is reached
  pub said : IsTurn base number history line (record { history = after; text = text; ends = None }) → Playing base begin all a b (gathered ++ text) (number + 1) after lines
  said turn = record {
    so_far = p.so_far ++ text;
    kept = longer;
    goes = λ rest plays. subst (Plays base begin [] all) (ap (λ t. record { text = t; status = rest.status }) (sym (append_assoc p.so_far text rest.text)))
        (p.goes (before text rest) (record { history = after; text = text; ends = None }, turn, (rest, plays, refl)));
    fronts = λ front plays. subst (PlaysFront base begin [] all) (sym (append_assoc p.so_far text front))
        (p.fronts (text ++ front) (inr (record { history = after; text = text; ends = None }, turn, inr (front, plays, refl))));
  }

-- the lines of what is left, where it is known what is left
pub then_left : (left : List (List ℕ)) (line : List ℕ) (more known : Option (Bor (List ℕ))) → left ≡ line ∷ lines_left more → more ≡ known → left ≡ line ∷ lines_left known
then_left left line more known first is = first ∙ ap (λ o. line ∷ lines_left o) is

-- no line is left
pub finished : (base : Base) (begin : ℕ) (all : List (List ℕ)) (a b : Option (List ℕ)) (gathered : List ℕ) (number : ℕ) (history : List Entry) → Playing base begin all a b gathered number history []
    → (text : List ℕ) × Plays base begin [] all (record { text = text; status = 0 }) × Gathers a b gathered text
finished base begin all a b gathered number history p = (
  p.so_far ++ [],
  p.goes (record { text = []; status = 0 }) refl,
  subst (Gathers a b gathered) (sym (append-nil p.so_far)) p.kept,
)

-- what is gathered stays
pub kept_at : (base : Base) (begin : ℕ) (all : List (List ℕ)) (a b : Option (List ℕ)) (gathered now : List ℕ) (number : ℕ) (history : List Entry) (lines : List (List ℕ)) → now ≡ gathered
    → Playing base begin all a b gathered number history lines → Playing base begin all a b now number history lines
kept_at base begin all a b gathered now number history lines same p = subst (λ (g : List ℕ). Playing base begin all a b g number history lines) (sym same) p

-- the same where the session tells the base, the lines are those of what is left, and what is gathered is told

module _ (base told : Base) (same : told ≡ base) (begin : ℕ) (all : List (List ℕ)) (a b : Option (List ℕ)) (gathered now : List ℕ) (number : ℕ) (history : List Entry) (line : List ℕ) (left lines : List (List ℕ)) (first : left ≡ line ∷ lines) (p : Playing base begin all a b gathered number history left) where
  at_line : Playing base begin all a b gathered number history (line ∷ lines)
  at_line = subst (Playing base begin all a b gathered number history) first p

  pub stopped_at : (after : List Entry) (ends : Option End) (end : End) → ends ≡ Some end
      → (text : List ℕ) × IsTurn told number history line (record { history = after; text = text; ends = ends }) × (now ≡ gathered ++ text)
      → (all_text : List ℕ) × Plays base begin [] all (record { text = all_text; status = status_at end }) × Gathers a b now all_text
  stopped_at after ends end is (text, turn, both) =
      subst (λ (g : List ℕ). (all_text : List ℕ) × Plays base begin [] all (record { text = all_text; status = status_at end }) × Gathers a b g all_text) (sym both)
      (stopped base begin all a b gathered number history line lines text after at_line end
      (subst (λ (l : Base). IsTurn l number history line (record { history = after; text = text; ends = Some end })) same
      (subst (λ o. IsTurn told number history line (record { history = after; text = text; ends = o })) is turn)))

  pub said_at : (after : List Entry) (ends : Option End) → ends ≡ None
      → (text : List ℕ) × IsTurn told number history line (record { history = after; text = text; ends = ends }) × (now ≡ gathered ++ text)
      → Playing base begin all a b now (number + 1) after lines
  said_at after ends is (text, turn, both) =
      subst (λ (g : List ℕ). Playing base begin all a b g (number + 1) after lines) (sym both)
      (said base begin all a b gathered number history line lines text after at_line
      (subst (λ (l : Base). IsTurn l number history line (record { history = after; text = text; ends = None })) same
      (subst (λ o. IsTurn told number history line (record { history = after; text = text; ends = o })) is turn)))

-- where no line is left, nothing is printed
pub plays_none : (base : Base) (number : ℕ) (left : Option (Bor (List ℕ))) (a : Option (List ℕ)) → left ≡ None
    → (text : List ℕ) × Plays base number [] (lines_left left) (record { text = text; status = 0 }) × Appends a a text
plays_none base number None a none = ([], refl, Appends-nil a)
plays_none base number (Some lines) a none = absurd cc

-- nothing is a front of what a session prints, however it opens
pub opened_nothing : (limits : Limits) (opening : Opening) (named : Bool) → OpenedFrontBy named limits opening []
opened_nothing limits opening true = refl
opened_nothing limits opening false = nothing_front (base_of limits opening.fails) opening.number [] opening.lines

pub says_none_opened : (limits : Limits) (opening : Opening) (a : Option (List ℕ)) → SaysFront a a (OpenedFront limits opening)
says_none_opened limits opening a = says_nothing a _ (opened_nothing limits opening (names_load opening))
