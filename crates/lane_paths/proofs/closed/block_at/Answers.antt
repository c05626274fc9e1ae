use Rattle.std.proofs.Common.{arith, ap, length}
use Rattle.std.proofs.lemmas.List.{length-drop, take_rest}
use Rattle.lane_paths.specs.declared.closed.TheConstants.{BLOCK}
use Rattle.lane_paths.proofs.ClosedLaws.{block_fits, block_rest}
use Rattle.lane_paths.proofs.closed.block_at.Goals as goal

pub returns-then-rest-lt-BLOCK-clause-is : goal.returns-then-rest-lt-BLOCK-clause-is
returns-then-rest-lt-BLOCK-clause-is c =
    let rest = ap length (take_rest c.args.class.now c.args.first) in
    let many = length-drop c.args.first c.args.class.now in
    block_rest c.args.first c.args.class.now (omega (arith, c.if-rest-lt-BLOCK.true, rest, many))

pub returns-else-rest-lt-BLOCK-clause-within : goal.returns-else-rest-lt-BLOCK-clause-within
returns-else-rest-lt-BLOCK-clause-within c = block_fits BLOCK c.args.first c.args.class.now c.requires
