-- What `clap` reads in the words of each row: no word that is an argument is looked into.
use Rattle.std.proofs.Common.{◌≡◌, ℕ, ◌==◌, true, false, [], ◌∷◌, codes, Some, refl}
use Rattle.std.specs.Option.{option_map, option_zip}
use Rattle.clap.specs.Words.{Text, subcommand_of, takes}
use Rattle.clap.proofs.OnLiterals.{clap_on_literals}
use Rattle.record_fields.specs.Numbers.{number_of}
use Rattle.command_words.specs.Commands.{asked_of, load_of, number_to, serve_of}
use Rattle.command_words.specs.Grammar.{gateway}
use Rattle.command_words.specs.Reading.{read_in}
use Rattle.command_words.specs.declared.commands.Command.TheVariants.{Play, Render, Check, Admin}

pub play_taken : takes gateway (codes "play" ∷ []) ≡ true
unfolding clap_on_literals
play_taken = refl

pub play_read : read_in (subcommand_of gateway (codes "play" ∷ [])) ≡ Some Play
unfolding clap_on_literals
play_read = refl

pub check_taken : (x : ℕ) (a : Text) → (x == 45) ≡ false → takes gateway (codes "check" ∷ (x ∷ a) ∷ []) ≡ true
unfolding clap_on_literals
check_taken x a e = rw e (rw e refl)

pub check_read : (x : ℕ) (a : Text) → (x == 45) ≡ false → read_in (subcommand_of gateway (codes "check" ∷ (x ∷ a) ∷ [])) ≡ Some (Check (x ∷ a))
unfolding clap_on_literals
check_read x a e = rw e (rw e refl)

pub admin_taken : (x : ℕ) (a : Text) → (x == 45) ≡ false → takes gateway (codes "admin" ∷ (x ∷ a) ∷ []) ≡ true
unfolding clap_on_literals
admin_taken x a e = rw e (rw e refl)

pub admin_read : (x : ℕ) (a : Text) → (x == 45) ≡ false → read_in (subcommand_of gateway (codes "admin" ∷ (x ∷ a) ∷ [])) ≡ Some (Admin (x ∷ a))
unfolding clap_on_literals
admin_read x a e = rw e (rw e refl)

pub render_taken : (x y : ℕ) (a b : Text) → (x == 45) ≡ false → (y == 45) ≡ false → takes gateway (codes "render" ∷ (x ∷ a) ∷ (y ∷ b) ∷ []) ≡ true
unfolding clap_on_literals
render_taken x y a b e f = rw e (rw e (rw f (rw f refl)))

pub render_read : (x y : ℕ) (a b : Text) → (x == 45) ≡ false → (y == 45) ≡ false
    → read_in (subcommand_of gateway (codes "render" ∷ (x ∷ a) ∷ (y ∷ b) ∷ [])) ≡ Some (Render (x ∷ a) (y ∷ b))
unfolding clap_on_literals
render_read x y a b e f = rw e (rw e (rw f (rw f refl)))

pub serve_taken : (x y z : ℕ) (a b c : Text) → (x == 45) ≡ false → (y == 45) ≡ false → (z == 45) ≡ false
    → takes gateway (codes "serve" ∷ (x ∷ a) ∷ (y ∷ b) ∷ (z ∷ c) ∷ []) ≡ true
unfolding clap_on_literals
serve_taken x y z a b c e f g = rw e (rw e (rw f (rw f (rw g (rw g refl)))))

pub serve_read : (x y z : ℕ) (a b c : Text) → (x == 45) ≡ false → (y == 45) ≡ false → (z == 45) ≡ false
    → read_in (subcommand_of gateway (codes "serve" ∷ (x ∷ a) ∷ (y ∷ b) ∷ (z ∷ c) ∷ []))
    ≡ option_map serve_of (asked_of (x ∷ a) (number_to 65535 (y ∷ b)) (number_to 8 (z ∷ c)))
unfolding clap_on_literals
serve_read x y z a b c e f g = rw e (rw e (rw f (rw f (rw g (rw g refl)))))

pub load_taken : (x y : ℕ) (a b : Text) → (x == 45) ≡ false → (y == 45) ≡ false → takes gateway (codes "load" ∷ (x ∷ a) ∷ (y ∷ b) ∷ []) ≡ true
unfolding clap_on_literals
load_taken x y a b e f = rw e (rw e (rw f (rw f refl)))

pub load_read : (x y : ℕ) (a b : Text) → (x == 45) ≡ false → (y == 45) ≡ false
    → read_in (subcommand_of gateway (codes "load" ∷ (x ∷ a) ∷ (y ∷ b) ∷ []))
    ≡ option_map load_of (option_zip (number_of 64 (x ∷ a)) (number_to 300000 (y ∷ b)))
unfolding clap_on_literals
load_read x y a b e f = rw e (rw e (rw f (rw f refl)))
