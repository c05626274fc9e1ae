use Rattle.std.proofs.Common.{length}
use Rattle.convex_poly.proofs.Trims.{IsTrimmed}
use Rattle.convex_poly.proofs.chain.extend.Given as goal

abbrev pub invariant-loop-chain : goal.invariant-loop-chain
invariant-loop-chain g l = IsTrimmed l.initial.chain.items l.next l.chain.items

abbrev pub decreases-loop-chain : goal.decreases-loop-chain
decreases-loop-chain g l = length l.chain.items
