use Rattle.std.proofs.Common.{◌≡◌, ◌≤◌, ◌++◌, take, vec_capacity}
use Rattle.area_run.proofs.rows.push_row.Given as goal

-- the runs so far are added
abbrev pub invariant-loop-run : goal.invariant-loop-run
invariant-loop-run l = record {
  items : l.free.items ≡ l.fn.free.items ++ take l.run-index l.runs;
  capacity : vec_capacity l.fn.free ≤ vec_capacity l.free;
}
