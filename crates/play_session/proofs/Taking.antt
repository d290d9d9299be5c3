-- What an event of the one seat comes to.
use Rattle.std.proofs.Common.{◌≡◌, ℕ, Bool, true, false, not, ◌||◌, cond, List, [], ◌∷◌, ◌++◌, length, ◌≤◌, Option, Some, None, Result, Ok, Err, IfSome, refl, sym, ap, ◌∙◌, subst, arith}
use Rattle.gw_base.specs.Feed.{is_listed}
use Rattle.keeper_core.specs.Lists.{no_rows}
use Rattle.keeper_core.specs.Keeping.{KeeperFacts, MemFacts, Planned, IsPlanned, told_by, one_more}
use Rattle.book_rules.specs.History.{Base, Answers, IsAsPlanned, is_changing, is_full, reply, total_size}
use Rattle.book_rules.specs.Times.{IsInTime}
use Rattle.book_rules.specs.declared.events.Entry.{Entry}
use Rattle.book_rules.specs.declared.events.Event.{Event}
use Rattle.book_rules.specs.declared.events.Limits.{Limits}
use Rattle.book_rules.specs.declared.replies.Reply.{Reply}
use Rattle.book_rules.specs.Good.{bad_row}
use Rattle.book_core.specs.Books.{Refuses}
use Rattle.book_core.specs.Starts.{HasStarted, StartFails, FailsAt}
use Rattle.book_core.specs.declared.book.StepFault.{StepFault}
use Rattle.book_core.specs.declared.book.StepFault.TheVariants.{SessionFull}
use Rattle.book_core.specs.declared.start.StartFault.{StartFault}
use Rattle.book_core.specs.declared.start.StartFault.TheVariants.{BadStore}
use Rattle.keeper_core.specs.declared.table.Table.{Table}
use Rattle.gate_walk.specs.declared.ended.SessionFull.{SessionFull as Full}
use Rattle.gate_walk.specs.Told.{entry_at, is_kept, is_planned, numbers_of, reply_at, taken}
use Rattle.play_session.specs.Sessions.{IsOfPlay, base_of}

kept_by : (changing kept planned : Bool) → (changing ≡ false → kept ≡ true) → (changing ≡ true → kept ≡ planned) → kept ≡ (not changing || planned)
kept_by true kept planned else_kept as_planned = as_planned refl
kept_by false kept planned else_kept as_planned = else_kept refl

kept_at : (base : Base) (history : List Entry) (entry : Entry) (planned : Option Planned) (plan : Planned) → planned ≡ Some plan
    → (is_changing base.opening history entry.event ≡ false → entry.kept ≡ true) → IsAsPlanned base history entry planned
    → entry.kept ≡ (not (is_changing base.opening history entry.event) || is_planned base history entry.event planned)
kept_at base history entry None plan told else_kept as_planned = absurd cc
kept_at base history entry (Some known) plan told else_kept as_planned = kept_by (is_changing base.opening history entry.event) entry.kept (is_planned base history entry.event (Some known)) else_kept as_planned

is_the_entry : (base : Base) (history : List Entry) (entry : Entry) (event : Event) → entry.seat ≡ 0 → entry.event ≡ event → entry.kept ≡ is_kept base history entry.event → entry ≡ entry_at 0 base history event
is_the_entry base history entry event seat same kept =
    ap (λ n. record { seat = n; event = entry.event; kept = entry.kept }) seat
    ∙ ap (λ k. record { seat = 0; event = entry.event; kept = k }) kept
    ∙ ap (entry_at 0 base history) same

module _ (base : Base) (history : List Entry) (event : Event) (of_play : IsOfPlay base) where
  -- it was taken: the history goes on by its entry, and the reply is the machine's there
  pub is_taken : (after : List Entry) (entry : Entry) (answer : Reply) → after ≡ history ++ entry ∷ [] → entry.seat ≡ 0 → entry.event ≡ event → Answers base history entry answer
      → (answer ≡ reply_at base history event) × IsInTime answer × (taken 0 base history event ≡ Ok after)
  is_taken after entry answer goes seat same answers =
      let kept : entry.kept ≡ is_kept base history entry.event =
      kept_at base history entry base.start.planned _ (ap (λ b. b.start.planned) of_play.2) answers.else_kept answers.planned in
      let here : entry ≡ entry_at 0 base history event = is_the_entry base history entry event seat same kept in
      let is : answer ≡ reply_at base history event = answers.reply ∙ ap (λ e. reply base.opening history e.event e.kept) here in
      let room : is_full base.limits history event ≡ false = ap (is_full base.limits history) (sym same) ∙ answers.room in (
        is,
        answers.in_time,
        ap (λ b. cond b (Err (numbers_of history)) (Ok (history ++ entry_at 0 base history event ∷ []))) room
            ∙ ap (λ e. Ok (history ++ e ∷ [])) (sym here) ∙ ap Ok (sym goes),
      )

  -- it was refused, since the history is full
  pub is_refused : (entries bytes : ℕ) → is_full base.limits history event ≡ true → entries ≡ length history → bytes ≡ total_size history
      → taken 0 base history event ≡ Err (record { entries = entries; bytes = bytes })
  is_refused entries bytes full n m =
      ap (λ b. cond b (Err (numbers_of history)) (Ok (history ++ entry_at 0 base history event ∷ []))) full
      ∙ ap (λ k. Err record { entries = k; bytes = total_size history }) (sym n) ∙ ap (λ k. Err record { entries = entries; bytes = k }) (sym m)

  pub is_full_at : (fault : StepFault) (full : Full) → fault ≡ SessionFull full.entries full.bytes → Refuses base history 0 event fault → taken 0 base history event ≡ Err full
  is_full_at fault full is refuses =
      let r = subst (Refuses base history 0 event) is refuses in
      is_refused full.entries full.bytes r.0 r.1 r.2

-- a keeper in memory without rows, before its first call
abbrev pub fresh : List ℕ → MemFacts
fresh fails = record { lists = no_rows; staged = []; faults = 0; loads = 0; planned = record { fails = fails; calls = 0 } }

-- what the keeper shows behind its load
loaded_is : (fails : List ℕ) (limits : Limits) (base : Base) (entries : List Entry) (now : KeeperFacts) → HasStarted (told_by (fresh fails)) limits base entries now → now ≡ (base_of limits fails).start
loaded_is fails limits base entries now h =
    ap (λ t. record { tables = t; staged = now.staged; faults = now.faults; loads = now.loads; planned = now.planned }) h.tables
    ∙ ap (λ s. record { tables = Some no_rows; staged = s; faults = now.faults; loads = now.loads; planned = now.planned }) h.staged
    ∙ ap (λ n. record { tables = Some no_rows; staged = []; faults = n; loads = now.loads; planned = now.planned }) h.faults
    ∙ ap (λ n. record { tables = Some no_rows; staged = []; faults = 0; loads = n; planned = now.planned }) h.loads
    ∙ ap (λ p. record { tables = Some no_rows; staged = []; faults = 0; loads = 0; planned = p }) h.planned.counts

starts_over : (fails : List ℕ) (limits : Limits) (base : Base) (entries : List Entry) (now : KeeperFacts) → HasStarted (told_by (fresh fails)) limits base entries now → base ≡ base_of limits fails
starts_over fails limits base entries now h =
    ap (λ o. record { opening = o; limits = base.limits; start = base.start }) h.opening
    ∙ ap (λ l. record { opening = no_rows; limits = l; start = base.start }) h.limits
    ∙ ap (λ s. record { opening = no_rows; limits = limits; start = s }) (h.start ∙ loaded_is fails limits base entries now h)

-- a book over it
pub started_is : (fails : List ℕ) (limits : Limits) (keeper : MemFacts) (base : Base) (entries : List Entry) (now : KeeperFacts) → keeper ≡ fresh fails
    → HasStarted (told_by keeper) limits base entries now → base ≡ base_of limits fails
started_is fails limits keeper base entries now is h = starts_over fails limits base entries now (subst (λ k. HasStarted (told_by k) limits base entries now) is h)

pub fails_as_told : (fails : List ℕ) (keeper : MemFacts) (failed : Bool) → keeper ≡ fresh fails → FailsAt (told_by keeper).planned failed → is_listed fails 0 ≡ failed
fails_as_told fails keeper failed is h = sym (subst (λ k. FailsAt (told_by k).planned failed) is h)

no_rows_are_good : bad_row no_rows ≡ None
unfolding bad_row
no_rows_are_good = refl

none_some : {X : Type 0} {x : X} → None ≡ Some x → ⊥
none_some e = cc

-- no row is named of tables that have none
pub none_is_named : (fails : List ℕ) (keeper : MemFacts) (fault : StartFault) (table : Table) (row : ℕ) (now : KeeperFacts) → keeper ≡ fresh fails → fault ≡ BadStore table row
    → StartFails (told_by keeper) fault now → ⊥
none_is_named fails keeper fault table row now is named failed =
    let told = subst (λ k. StartFails (told_by k) (BadStore table row) now) is (subst (λ f. StartFails (told_by keeper) f now) named failed) in
    none_some (sym no_rows_are_good ∙ told)
