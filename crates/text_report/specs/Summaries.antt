-- The values and the first three lines of a summary.
use Rattle.std.specs.Prelude.{[], ◌∷◌, decimal, codes}
use Rattle.spot_terms.specs.Report.{Text, spaced}
use Rattle.spot_terms.specs.Summaries as terms
use Rattle.text_report.specs.declared.summary.Summary.{Summary}

abbrev pub value_of : Summary → terms.Summary
value_of s = record { seed = s.seed; lanes = s.lanes; movers = s.movers; bytes = s.bytes; cells = s.cells; polygons = s.polygons; sets = s.sets; end = s.end }

abbrev pub made_line : Summary → Text
made_line s = spaced (codes "sample" ∷ decimal s.seed ∷ decimal s.lanes ∷ decimal s.movers ∷ decimal s.bytes ∷ [])

abbrev pub lanes_line : Summary → Text
lanes_line s = spaced (codes "cells" ∷ decimal s.cells ∷ codes "lanes" ∷ decimal s.polygons ∷ [])

abbrev pub sets_line : Summary → Text
sets_line s = spaced (codes "sets" ∷ decimal s.sets ∷ [])
