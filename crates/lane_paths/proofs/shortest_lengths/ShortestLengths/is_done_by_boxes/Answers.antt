use Rattle.std.proofs.Common.{ℕ, ◌+◌, List, subst, sym}
use Rattle.spot_terms.specs.Gaps.{IsGap}
use Rattle.spot_terms.specs.declared.plain.Pt.{Pt}
use Rattle.lane_paths.specs.GapBounds.{IsGapBound}
use Rattle.lane_paths.specs.Relaxations.{IsDone}
use Rattle.lane_paths.proofs.GapBounds.{bound_one}
use Rattle.lane_paths.proofs.RelaxLaws.{not_lesser}
use Rattle.lane_paths.proofs.shortest_lengths.ShortestLengths.is_done_by_boxes.Goals as goal

pub returns-else-is_done-clause-yes : goal.returns-else-is_done-clause-yes
returns-else-is_done-clause-yes c = λ yes.
    not_lesser c.args.self.now c.args.from.now c.args.to c.args.points.now c.gap_at_least.result
    (λ g k. c.gap_at_least.ensures.least g (subst (λ (l : List Pt). IsGap l c.args.points.now g) (sym c.corners.ensures.items) k))
    (c.is_done-else-is_done.ensures.0 yes)

pub returns-else-is_done-clause-no : goal.returns-else-is_done-clause-no
returns-else-is_done-clause-no c = λ n bound done.
    c.is_done-else-is_done.ensures.1 (subst (λ (m : ℕ). IsDone c.args.self.now (c.args.from.now.length + m) c.args.to)
    (bound_one c.args.from.now.shape c.args.points.now n c.gap_at_least.result bound (subst (λ (l : List Pt). IsGapBound l c.args.points.now c.gap_at_least.result) c.corners.ensures.items c.gap_at_least.ensures.bound)) done)
