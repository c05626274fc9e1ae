use Rattle.std.proofs.Common.{◌<◌, List, length, refl, subst, arith}
use Rattle.spot_terms.specs.declared.plain.Pt.{Pt}
use Rattle.lane_paths.specs.Relaxations.{IsNotLesser}
use Rattle.lane_paths.proofs.FrontierLists.{end_step}
use Rattle.lane_paths.proofs.RelaxLaws.{step_less, step_none}
use Rattle.lane_paths.proofs.shortest_lengths.ShortestLengths.reach_end.Goals as goal

pub returns-then-is_done_by_boxes : goal.returns-then-is_done_by_boxes
returns-then-is_done_by_boxes c = λ i. step_none i c.args.c c.args.from.now.length c.args.from.now.shape c.args.shape.now c.args.self.now
    (subst (λ (l : List Pt). IsNotLesser c.args.self.now c.args.from.now c.args.c l) c.corners.ensures.items (c.is_done_by_boxes.ensures.yes c.if-is_done_by_boxes.true))

pub returns-in_ok-set : goal.returns-in_ok-set
returns-in_ok-set c = λ i.
    let less = c.in-Some.ensures.some in
    let inside : c.args.c < length c.args.self.now.lengths = omega (arith, c.requires.within, c.requires.many) in
    step_less i c.args.c c.args.from.now.length c.in-Some.n less.gap c.args.from.now.shape c.args.shape.now c.args.self.now _ (end_step c.args.c c.in-Some.n c.args.self.now _ c.requires.within refl refl c.in_ok-set.ensures refl) inside less.gap_is less.sum less.low less.above

pub returns-in_default : goal.returns-in_default
returns-in_default c = λ i. step_none i c.args.c c.args.from.now.length c.args.from.now.shape c.args.shape.now c.args.self.now c.in_default.ensures.none
