-- Rows show their ledgers.
use Rattle.std.proofs.Common.{◌≡◌, ◌∙◌, sym, refl, ℕ, List, Option, Some, None, option_map, reverse}
use Rattle.keeper_core.specs.Lists.{Lists}
use Rattle.usage_plans.specs.Deeds.{Account}
use Rattle.book_rules.specs.declared.events.Entry.{Entry}
use Rattle.book_ledgers.specs.Ledgers.{Ledger, balance, ledger_by, RowsFollowTheirLedgers}
use Rattle.book_ledgers.specs.Laws.{CountsAreConserved, IsHeld, IsNow, LevelsAreLeast, NoPeriodIsOverused}
use Rattle.session_quotas.specs.Quotas.{QuotasAreConserved, ShowsItsLedger}

-- an account has a ledger
pub has_ledger : (ledger : Option Ledger) (account : Account) → Some account ≡ option_map balance ledger → (l : Ledger) × (ledger ≡ Some l)
has_ledger None account e = absurd cc
has_ledger (Some l) account e = (l, refl)

pub shows : RowsFollowTheirLedgers → LevelsAreLeast → CountsAreConserved → NoPeriodIsOverused
    → (opening : Lists) (history : List Entry) (plan key : List ℕ) (account : Account) (t : ℕ)
    → IsNow opening history t → IsHeld opening history plan key account → ShowsItsLedger opening history plan key account t
shows follow levels counts within opening history plan key account t now held =
    let l = has_ledger (ledger_by opening (reverse history) plan key) account (sym held ∙ follow opening history plan key now.good) in
    record {
      ledger = l.0;
      its = l.1;
      level = levels opening history plan key account l.0 t now held l.1;
      counts = counts opening history plan key account l.0 t now held l.1;
      within = λ p. within opening history plan key l.0 p now.good l.1;
    }

pub quotas_conserved : RowsFollowTheirLedgers → LevelsAreLeast → CountsAreConserved → NoPeriodIsOverused → QuotasAreConserved
quotas_conserved follow levels counts within base before now ends history earlier later plan key account t session place at held =
    shows follow levels counts within base.opening earlier plan key account t at held
