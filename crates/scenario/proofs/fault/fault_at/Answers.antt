use Rattle.std.proofs.Common.{below_more, arith}
use Rattle.scenario.specs.declared.table.Check.TheVariants.{WrongRoot}
use Rattle.scenario.proofs.Faults.{check_found, no_check}
use Rattle.scenario.proofs.fault.fault_at.Goals as goal

pub returns-then-fails : goal.returns-then-fails
returns-then-fails c = check_found c.args.tree.now c.args.checks.now c.args.e c.loop-number.number WrongRoot c.code.result c.loop-number-test.true (c.fails.ensures.0 c.if-fails.true) c.code.ensures c.loop-number.invariant

pub loop-number-preserved : goal.loop-number-preserved
loop-number-preserved c = below_more _ _ c.loop-number.invariant (λ k. let t = c.fails.ensures.1 k in cc)

pub returns : goal.returns
returns c = no_check c.args.tree.now c.args.checks.now c.args.e WrongRoot (λ k h. c.loop-number.invariant k (omega arith))
