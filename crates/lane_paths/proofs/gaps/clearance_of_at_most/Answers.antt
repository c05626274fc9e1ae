use Rattle.std.proofs.Common.{◌∙◌, ◌<◌, List, length, rules, slice_index_or, subst, sym}
use Rattle.spot_terms.specs.declared.plain.Pt.{Pt}
use Rattle.spot_terms.proofs.ListLemmas.{includes_at}
use Rattle.convex_poly.proofs.Corners.{origin}
use Rattle.lane_paths.specs.Clearances.{IsLeastClearance}
use Rattle.lane_paths.proofs.DifferenceLists.{differences_all, differences_more, differences_room, differences_some}
use Rattle.lane_paths.proofs.GapSteps.{near_ways, near_differences}
use Rattle.lane_paths.proofs.gaps.clearance_of_at_most.Goals as goal

pub push_differences-requires : goal.push_differences-requires
push_differences-requires g c = (
  search rules,
  (
    differences_room c.loop-p.vectors.items c.args.a.now c.args.b.now c.loop-p.p-index g.row.N c.loop-p-test.true c.requires.room c.loop-p.invariant,
    near_ways c.args.a.now c.args.b.now (slice_index_or c.args.a.now c.loop-p.p-index origin) c.requires.near (includes_at c.args.a.now c.loop-p.p-index origin c.loop-p-test.true),
  ),
)

pub loop-p-preserved : goal.loop-p-preserved
loop-p-preserved g c = differences_more c.loop-p.vectors.items c.push_differences.new.vectors.items c.args.a.now c.args.b.now c.loop-p.p-index origin c.loop-p-test.true c.loop-p.invariant c.push_differences.ensures

pub least_clearance-requires-clause-some : goal.least_clearance-requires-clause-some
least_clearance-requires-clause-some g c =
    subst (λ (l : List Pt). 0 < length l) (sym (c.as_slice.ensures.value ∙ differences_all c.loop-p.vectors.items c.args.a.now c.args.b.now c.loop-p.p-index c.loop-p-test.false c.loop-p.invariant))
    (differences_some c.args.a.now c.args.b.now c.requires.a_some c.requires.b_some)

pub least_clearance-requires-clause-small : goal.least_clearance-requires-clause-small
least_clearance-requires-clause-small g c = near_differences c.args.a.now c.args.b.now c.as_slice.result.now
    (c.as_slice.ensures.value ∙ differences_all c.loop-p.vectors.items c.args.a.now c.args.b.now c.loop-p.p-index c.loop-p-test.false c.loop-p.invariant) c.requires.near

pub returns-clause-is : goal.returns-clause-is
returns-clause-is g c =
    subst (λ (l : List Pt). IsLeastClearance l c.least_clearance.result) (c.as_slice.ensures.value ∙ differences_all c.loop-p.vectors.items c.args.a.now c.args.b.now c.loop-p.p-index c.loop-p-test.false c.loop-p.invariant) c.least_clearance.ensures.is
