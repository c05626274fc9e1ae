use Rattle.propagate.proofs.Spans.{AreWaysUpTo}
use Rattle.propagate.proofs.ways.ways_of.Given as goal

abbrev pub invariant-loop-i : goal.invariant-loop-i
invariant-loop-i l = AreWaysUpTo l.k l.corners l.i l.ways
