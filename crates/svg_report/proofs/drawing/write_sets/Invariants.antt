use Rattle.std.proofs.Common.{drop}
use Rattle.std.specs.List.{flat_map}
use Rattle.spot_terms.specs.Drawings.{set_line}
use Rattle.base_sets.specs.Values.{value_of}
use Rattle.spot_io.proofs.Writing.{WritesUpTo}
use Rattle.svg_report.proofs.drawing.write_sets.Given as goal

-- the sets so far are written
abbrev pub invariant-loop-b : goal.invariant-loop-b
invariant-loop-b g l =
    WritesUpTo g.K.Sink l.fn.sink l.sink (flat_map (λ b. set_line (value_of b)) l.sets) (flat_map (λ b. set_line (value_of b)) (drop l.b-index l.sets))
