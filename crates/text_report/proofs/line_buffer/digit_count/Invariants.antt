use Rattle.std.proofs.Common.{◌≡◌, ◌+◌, ◌≤◌, length}
use Rattle.std.specs.Prelude.{decimal}
use Rattle.text_report.proofs.line_buffer.digit_count.Given as goal

-- the digits that are counted and those of the rest are the number's
abbrev pub invariant-loop-rest : goal.invariant-loop-rest
invariant-loop-rest l = record {
  all : l.count + length (decimal l.rest) ≡ length (decimal l.n);
  within : l.rest ≤ l.n;
}

abbrev pub decreases-loop-rest : goal.decreases-loop-rest
decreases-loop-rest l = l.rest
