-- What loading a scenario from a source answers.
use Rattle.std.specs.Prelude.{◌≡◌, ◌<◌, ◌≤◌, List, ℕ, [], length, Option, Some, Result, Ok, Err}
use Rattle.spot_terms.specs.declared.limits.TheConstants.{MOST_BYTES}
use Rattle.spot_terms.specs.Causes.{Takes}
use Rattle.spot_terms.specs.declared.scenario.Scenario.{Scenario}
use Rattle.spot_terms.specs.declared.status.Status.{Status}
use Rattle.spot_terms.specs.declared.status.Status.TheVariants.{Refused, Limit, ReadFault, Memory}
use Rattle.spot_terms.specs.declared.status.Code.TheVariants.{NotJson, NotTree}
use Rattle.spot_terms.specs.declared.status.Which.TheVariants.{TooLong}
use Rattle.spot_claims.specs.Tree.{Element, IsNoJson, HasFaultAt}
use Rattle.spot_claims.specs.Profile.{IsRefused}
use Rattle.spot_claims.specs.Scenario.{IsScenarioOf}
use Rattle.spot_claims.specs.Answers.{IsRefusedAt, IsOfCheck}

-- all of the told bytes were read, and they are few enough
abbrev pub IsReadWhole : List ℕ → Option (List ℕ) → Type 0
IsReadWhole bytes left = (length bytes ≤ MOST_BYTES) × (left ≡ Some [])

-- of told bytes: their scenario, or why there is none
abbrev pub Loads : List ℕ → Option (List ℕ) → Result Scenario Status → Type 0
Loads bytes left (Ok s) = IsReadWhole bytes left × IsScenarioOf bytes s
Loads bytes left (Err ReadFault) = Unit {0}
Loads bytes left (Err Memory) = Unit {0}
Loads bytes left (Err (Limit TooLong step count)) = (MOST_BYTES < length bytes) × Takes 67108865 bytes left
Loads bytes left (Err (Refused NotJson place)) = IsReadWhole bytes left × IsNoJson bytes
Loads bytes left (Err (Refused NotTree place)) = IsReadWhole bytes left × HasFaultAt bytes place
Loads bytes left (Err (Refused code place)) = IsReadWhole bytes left × IsRefusedAt bytes code place
Loads bytes left (Err status) = ⊥

-- the answers that loading may give in place of a scenario
abbrev pub IsLoadFault : Status → Type 0
IsLoadFault ReadFault = Unit {0}
IsLoadFault Memory = Unit {0}
IsLoadFault (Limit TooLong step count) = (step ≡ 0) × (count ≡ 67108865)
IsLoadFault (Refused NotJson place) = place ≡ 0
IsLoadFault (Refused NotTree place) = Unit {0}
IsLoadFault (Refused code place) = IsOfCheck code
IsLoadFault status = ⊥

-- of a tree: why it has no scenario
abbrev pub HasNone : List Element → Status → Type 0
HasNone tree Memory = Unit {0}
HasNone tree (Refused NotJson place) = ⊥
HasNone tree (Refused NotTree place) = ⊥
HasNone tree (Refused code place) = IsOfCheck code × IsRefused tree place code
HasNone tree status = ⊥
