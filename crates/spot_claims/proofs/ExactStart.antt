-- The start that an exact line tells.
use Rattle.std.proofs.Common.{ap}
use Rattle.spot_terms.specs.Participants.{IsStartOf}
use Rattle.spot_terms.specs.declared.lines.MoverLine.{MoverLine}
use Rattle.spot_terms.specs.declared.plain.Pt.{Pt}
use Rattle.spot_terms.specs.declared.scenario.Mover.{Mover}
use Rattle.spot_terms.specs.declared.scenario.Scenario.{Scenario}
use Rattle.spot_claims.specs.ReportOf.{start_of, IsExactMover}

pub exact_start : (s : Scenario) (m : Mover) (v : MoverLine) → IsExactMover s m v → IsStartOf m (start_of v) v.s
exact_start s m v h = let is = h.line_is in record {
  x = ap (λ (p : Pt). p.x) is.p;
  y = ap (λ (p : Pt). p.y) is.p;
  b = h.box;
  speed_is = is.s;
  type = is.type;
  type_is = is.type_is;
  a = is.a;
  v = is.v;
  r = is.r;
}
