use Rattle.std.proofs.Common.{◌≡◌, ◌+◌, ◌*◌, ◌≤◌, ◌++◌, length, take}
use Rattle.spot_terms.specs.Drawings.{points_text}
use Rattle.svg_report.proofs.lines.put_points.Given as goal

-- the corners so far are appended
abbrev pub invariant-loop-i : goal.invariant-loop-i
invariant-loop-i l = record {
  bytes : l.line ≡ l.fn.line ++ points_text (take l.i l.corners);
  short : length l.line ≤ length l.fn.line + 42 * l.i;
}
