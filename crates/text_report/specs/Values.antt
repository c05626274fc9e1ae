-- The ego's line in the words of the report.
use Rattle.spot_terms.specs.Report.{EgoValue}
use Rattle.text_report.specs.declared.ego_line.EgoLine.{EgoLine}

abbrev pub ego_value : EgoLine → EgoValue
ego_value e = record { problem = e.problem; a = e.e.a; v = e.e.v; w = e.grid.w; g = e.grid.g; p = e.s.p; b = e.s.b }
