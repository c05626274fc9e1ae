use Rattle.std.proofs.Common.{◌≡◌, ◌++◌, ◌≤◌, ℕ, suc, List, Option, Some, None, vec_capacity}
use Rattle.carve.specs.Linked.{AreLinked}
use Rattle.carve.specs.declared.runs.Span.{Span}
use Rattle.carve.proofs.Linking.{after}
use Rattle.carve.proofs.linked.list_spans.Given as goal

-- the spans so far come first, and the rest is linked from here on
abbrev pub invariant-loop-at : goal.invariant-loop-at
invariant-loop-at l = record {
  rest : (rest : List Span) × AreLinked l.links l.at rest × AreLinked l.links l.fn.from (l.spans.items ++ rest);
  capacity : vec_capacity l.fn.spans ≤ vec_capacity l.spans;
}

abbrev pub decreases-loop-at : goal.decreases-loop-at
decreases-loop-at l = after l.at
