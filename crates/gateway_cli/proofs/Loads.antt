-- A load within the limits of a session.
use Rattle.std.proofs.Common.{◌≡◌, ℕ, List, Option, refl, subst}
use Rattle.std.specs.Io.KnownBytes.{Appends}
use Rattle.book_rules.specs.declared.events.Limits.{Limits}
use Rattle.gateway_cli.specs.Top.{Says}
use Rattle.load_command.specs.Loading.{LoadedFront, LoadedWithin}
use Rattle.play_script.specs.Play.{Output, SaysFront, session_limits}

pub loads_says : (seed calls : ℕ) (limits : Limits) (a b : Option (List ℕ)) (status : ℕ) → limits ≡ session_limits
    → (text : List ℕ) × LoadedWithin limits seed calls (record { text = text; status = status }) × Appends a b text → Says a b (LoadedWithin session_limits seed calls) status
loads_says seed calls limits a b status same (text, loads, wrote) =
    let output : Output = record { text = text; status = status } in
    (output, subst (λ (l : Limits). LoadedWithin l seed calls output) same loads, (refl, wrote))

pub loads_front : (seed calls : ℕ) (limits : Limits) (a b : Option (List ℕ)) → limits ≡ session_limits → SaysFront a b (LoadedFront limits seed calls)
    → SaysFront a b (LoadedFront session_limits seed calls)
loads_front seed calls limits a b same (text, loads, wrote) = (text, subst (λ (l : Limits). LoadedFront l seed calls text) same loads, wrote)
