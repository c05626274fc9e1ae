-- What a text claims, by its lines.
use Rattle.std.proofs.Common.{◌≡◌, ◌∙◌, List, ℕ, sym, subst}
use Rattle.spot_terms.specs.Report.{Line}
use Rattle.spot_terms.specs.declared.command.Command.{Command}
use Rattle.spot_terms.specs.declared.scenario.Scenario.{Scenario}
use Rattle.spot_terms.proofs.ReportText.{texts_tell}
use Rattle.spot_claims.specs.Headline.{Claims}
use Rattle.spot_run.specs.Tells.{ClaimsIn, HasClaims}

-- a text has its lines alone
pub has_claims : (s : Scenario) (c : Command) (text : List ℕ) → ClaimsIn s c text → HasClaims s c text
has_claims s c text h lines same =
    let one : h.lines ≡ lines = texts_tell h.lines lines (sym h.text_is ∙ same) in
    subst (λ (ls : List Line). Claims s c ls) one h.claims
