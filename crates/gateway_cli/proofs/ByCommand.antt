-- What is printed of a command.
use Rattle.std.proofs.Common.{◌≡◌, inl, ℕ, Bool, true, false, List, [], Option, Some, None, Result, Err, IfOk, OnErr, refl, sym, ◌∙◌, subst}
use Rattle.command_words.specs.declared.commands.Command.{Command}
use Rattle.command_words.specs.declared.commands.Command.TheVariants.{Help, Version, Play, Render, Check, Serve, Admin, Load}
use Rattle.load_command.specs.Loading.{LoadedFront, LoadedWithin}
use Rattle.gateway_cli.specs.Commands.{is_play, is_plain, served, administered, over_files, Outcome, OutcomeFront, TellsLoadToFail}
use Rattle.outside_core.specs.Files.{Files}
use Rattle.play_script.specs.Play.{Output, Played, PlayedFront, IsFront, SaysFront, session_limits}
use Rattle.gw_base.specs.Whole.{AppendsFront}
use Rattle.gateway_cli.specs.Top.{OfTold, Answered, Says}
use Rattle.gateway_cli.proofs.Inputs.{of_any, of_each, if_ok_map, on_err_map, on_err_of, on_err_is}
use Rattle.play_script.proofs.Playing.{says_front, says_nothing}
use Rattle.gateway_cli.proofs.Scripts.{none_played}

-- a command that prints what its files give, or the usage
abbrev pub is_fixed : Option Command → Bool
is_fixed (Some Play) = false
is_fixed (Some (Load seed calls)) = false
is_fixed other = true

pub played_is : (command : Option Command) (script : List ℕ) (files : Files) (output : Output) → is_play command ≡ true → Played script output → Outcome command script files output
unfolding Outcome
played_is (Some Play) script files output h p = p
played_is other script files output h p = absurd cc

pub front_is : (command : Option Command) (script : List ℕ) (files : Files) (front : List ℕ) → is_play command ≡ true → PlayedFront script front → OutcomeFront command script files front
unfolding OutcomeFront
front_is (Some Play) script files front h p = p
front_is other script files front h p = absurd cc

pub loaded_is : (seed calls : ℕ) (script : List ℕ) (files : Files) (output : Output) → LoadedWithin session_limits seed calls output → Outcome (Some (Load seed calls)) script files output
unfolding Outcome
loaded_is seed calls script files output loads = loads

pub loaded_front : (seed calls : ℕ) (script : List ℕ) (files : Files) (front : List ℕ) → LoadedFront session_limits seed calls front → OutcomeFront (Some (Load seed calls)) script files front
unfolding OutcomeFront
loaded_front seed calls script files front loads = loads

pub other_is : (command : Option Command) (script : List ℕ) (files : Files) → is_fixed command ≡ true → Outcome command script files (over_files files command)
unfolding Outcome
other_is (Some Play) script files h = absurd cc
other_is (Some (Load seed calls)) script files h = absurd cc
other_is other script files h = refl

pub other_front : (command : Option Command) (script : List ℕ) (files : Files) (front : List ℕ) → is_fixed command ≡ true → IsFront front (over_files files command).text
    → OutcomeFront command script files front
unfolding OutcomeFront
other_front (Some Play) script files front h is = absurd cc
other_front (Some (Load seed calls)) script files front h is = absurd cc
other_front other script files front h is = is

-- nothing is a front of all
none_is : (command : Option Command) (script : List ℕ) (files : Files) → OutcomeFront command script files []
unfolding OutcomeFront
none_is (Some Play) script files = none_played script
none_is (Some (Load seed calls)) script files = inl refl
none_is other script files = ((over_files files other).text, refl)

-- where nothing else is asked for, no command is
pub none_asked : (command : Option Command) → is_plain command ≡ false → None ≡ served command → None ≡ administered command → command ≡ None
none_asked None plain serves admins = refl
none_asked (Some Help) plain serves admins = absurd cc
none_asked (Some Version) plain serves admins = absurd cc
none_asked (Some Play) plain serves admins = absurd cc
none_asked (Some (Render template body)) plain serves admins = absurd cc
none_asked (Some (Check name)) plain serves admins = absurd cc
none_asked (Some (Load seed calls)) plain serves admins = absurd cc
none_asked (Some (Serve store port lanes)) plain serves admins = absurd cc
none_asked (Some (Admin store)) plain serves admins = absurd cc

differ : false ≡ true → ⊥
differ e = cc

module _ (left : Option (List ℕ)) (told : Option Files) (command : Option Command) (a b : Option (List ℕ)) where
  -- what is answered, of the input and the files that are told
  abbrev pub Answers : ℕ → Type 0
  Answers status = OfTold left (λ script. OfTold told (λ files. Says a b (Outcome command script files) status))

  abbrev pub Fronts : Type 0
  Fronts = OfTold left (λ script. OfTold told (λ files. SaysFront a b (OutcomeFront command script files)))

  pub of_nothing : a ≡ b → Fronts
  of_nothing same =
      subst (λ x. OfTold left (λ script. OfTold told (λ files. SaysFront a x (OutcomeFront command script files)))) same
      (of_any [] left _ (λ script. of_any [] told _ (λ files. says_nothing a _ (none_is command script files))))

  pub of_play : (status : ℕ) → is_play command ≡ true → OfTold left (λ script. Says a b (Played script) status) → Answers status
  of_play status h holds =
      of_each left _ _ (λ script says. of_any [] told _ (λ files. (says.0, played_is command script files says.0 h says.1, says.2))) holds

  pub of_play_front : is_play command ≡ true → OfTold left (λ script. SaysFront a b (PlayedFront script)) → Fronts
  of_play_front h holds =
      of_each left _ _ (λ script says. of_any [] told _ (λ files. (says.0, front_is command script files says.0 h says.1, says.2))) holds

  -- what is printed of a load
  pub of_load : {E : Type 0} (seed calls : ℕ) (r : Result ℕ E) → command ≡ Some (Load seed calls) → IfOk r (Says a b (LoadedWithin session_limits seed calls)) → IfOk r Answers
  of_load seed calls r is holds =
      if_ok_map r (Says a b (LoadedWithin session_limits seed calls)) Answers
      (λ status says. of_any [] left _ (λ script. of_any [] told _
      (λ files. (says.0, subst (λ asked. Outcome asked script files says.0) (sym is) (loaded_is seed calls script files says.0 says.1), says.2)))) holds

  pub of_load_front : {E : Type 0} (seed calls : ℕ) (r : Result ℕ E) → command ≡ Some (Load seed calls) → OnErr r (SaysFront a b (LoadedFront session_limits seed calls)) → OnErr r Fronts
  of_load_front seed calls r is holds =
      on_err_map r (SaysFront a b (LoadedFront session_limits seed calls)) Fronts
      (λ says. of_any [] left _ (λ script. of_any [] told _
      (λ files. (says.0, subst (λ asked. OutcomeFront asked script files says.0) (sym is) (loaded_front seed calls script files says.0 says.1), says.2)))) holds

  -- what is printed of other commands
  pub of_other : {E : Type 0} (r : Result ℕ E) {printed : Files → Output} → IfOk r (λ status. OfTold told (λ files. Answered a b (printed files) status))
      → ((files : Files) → over_files files command ≡ printed files) → is_fixed command ≡ true → IfOk r Answers
  of_other r {printed} holds is h =
      if_ok_map r (λ status. OfTold told (λ files. Answered a b (printed files) status)) Answers
      (λ status answers. of_any [] left _ (λ script. of_each told _ _
      (λ files answered. (printed files, subst (Outcome command script files) (is files) (other_is command script files h), answered)) answers)) holds

  pub of_other_front : {E : Type 0} (r : Result ℕ E) {text : Files → List ℕ} → OnErr r (OfTold told (λ files. AppendsFront a b (text files)))
      → ((files : Files) → (over_files files command).text ≡ text files) → is_fixed command ≡ true → OnErr r Fronts
  of_other_front r {text} holds is h =
      on_err_map r (OfTold told (λ files. AppendsFront a b (text files))) Fronts
      (λ fronts. of_any [] left _ (λ script. of_each told _ _
      (λ files front. let says = says_front a b (text files) front in
      (says.0, other_front command script files says.0 h (subst (IsFront says.0) (sym (is files)) says.1), says.2)) fronts)) holds

  -- and where that is one text, whatever the files are
  pub of_text : {E : Type 0} (r : Result ℕ E) (shown : Output) → IfOk r (λ status. Answered a b shown status)
      → ((files : Files) → over_files files command ≡ shown) → is_fixed command ≡ true → IfOk r Answers
  of_text r shown holds is h =
      of_other r {printed = λ files. shown}
      (if_ok_map r (λ status. Answered a b shown status) (λ status. OfTold told (λ files. Answered a b shown status)) (λ status answered. of_any [] told _ (λ files. answered)) holds) is h

  pub of_text_front : {E : Type 0} (r : Result ℕ E) (shown : Output) → AppendsFront a b shown.text
      → ((files : Files) → (over_files files command).text ≡ shown.text) → is_fixed command ≡ true → OnErr r Fronts
  of_text_front r shown front is h = of_other_front r {text = λ files. shown.text} (on_err_of r _ (of_any [] told _ (λ files. front))) is h

  -- a command that plays nothing tells no load to fail
  pub of_unloaded : {E : Type 0} (r : Result ℕ E) (e : E) → r ≡ Err e → OnErr r Fronts → is_play command ≡ false
      → OfTold left (λ script. OfTold told (λ files. (TellsLoadToFail command script → ⊥) × SaysFront a b (OutcomeFront command script files)))
  of_unloaded r e is fronts h =
      of_each left _ _ (λ script. of_each told _ _ (λ files front. ((λ tells. differ (sym h ∙ tells.0)), front))) (on_err_is r Fronts e is fronts)
