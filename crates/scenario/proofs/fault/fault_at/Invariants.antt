use Rattle.std.proofs.Common.{ℕ, ◌<◌, get_or}
use Rattle.spot_claims.specs.Profile.{FailsAt}
use Rattle.scenario.specs.Table.{check_of}
use Rattle.scenario.specs.declared.table.Check.TheVariants.{WrongRoot}
use Rattle.scenario.proofs.fault.fault_at.Given as goal

abbrev pub invariant-loop-number : goal.invariant-loop-number
invariant-loop-number l = (k : ℕ) → k < l.number → FailsAt l.tree l.e (check_of (get_or l.checks k WrongRoot)) → ⊥
