use Rattle.std.proofs.Common.{arith, subst, ◌∙◌, ℕ, List}
use Rattle.spot_claims.specs.Paths.{walk}
use Rattle.scenario.specs.Table.{path_of}
use Rattle.scenario.specs.Fault.{ElementsFail, Least}
use Rattle.scenario.proofs.Faults.{one_step, one_end}
use Rattle.scenario.proofs.fault.fault_along.Goals as goal

pub loop-way-preserved : goal.loop-way-preserved
loop-way-preserved c =
    let P : List ℕ → Type 0 = λ es. Least (ElementsFail c.args.tree.now c.args.line.now.checks.now es) c.fault_among.result in
    one_step (λ way. ElementsFail c.args.tree.now c.args.line.now.checks.now (walk c.args.tree.now (path_of way) c.args.elements.now)) c.args.line.now.ways.now c.loop-way.way-index _ c.loop-way.first c.fault_among.result c.first_of-first.result c.loop-way-test.true c.loop-way.invariant
    (subst P (c.deref.ensures.value ∙ c.in_ok-found.ensures.found) c.fault_among.ensures) c.first_of-first.ensures

pub returns : goal.returns
returns c = one_end (λ way. ElementsFail c.args.tree.now c.args.line.now.checks.now (walk c.args.tree.now (path_of way) c.args.elements.now)) c.args.line.now.ways.now c.loop-way.way-index c.loop-way.first (omega arith) c.loop-way.invariant
