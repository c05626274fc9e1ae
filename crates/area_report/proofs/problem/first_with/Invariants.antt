use Rattle.std.proofs.Common.{◌≡◌, ◌==◌, find, drop}
use Rattle.spot_terms.specs.declared.scenario.Problem.{Problem}
use Rattle.area_report.proofs.problem.first_with.Given as goal

-- the problem is looked for among those that are left
abbrev pub invariant-loop-p : goal.invariant-loop-p
invariant-loop-p l = find (λ (p : Problem). p.id == l.id) l.problems ≡ find (λ (p : Problem). p.id == l.id) (drop l.p-index l.problems)
