use Rattle.std.proofs.Common.{◌+◌, ◌<◌, length, refl, arith}
use Rattle.lane_paths.proofs.FrontierLists.{entry_step}
use Rattle.lane_paths.proofs.RelaxLaws.{step_less, step_none}
use Rattle.lane_paths.proofs.shortest_lengths.ShortestLengths.reach_entry.Goals as goal

pub returns-in_ok-push : goal.returns-in_ok-push
returns-in_ok-push c = λ i.
    let less = c.in-Some.ensures.some in
    let inside : c.args.self.now.count + c.args.d < length c.args.self.now.lengths = omega (arith, c.requires.within, c.requires.many) in
    step_less i (c.args.self.now.count + c.args.d) c.args.from.now.length c.in-Some.n less.gap c.args.from.now.shape c.args.shape.now c.args.self.now _
    (entry_step c.args.d c.in-Some.n c.args.self.now _ c.requires.within refl refl c.in_ok-set.ensures c.in_ok-push.ensures) inside less.gap_is less.sum less.low less.above

pub returns-in_default : goal.returns-in_default
returns-in_default c = λ i. step_none i (c.args.self.now.count + c.args.d) c.args.from.now.length c.args.from.now.shape c.args.shape.now c.args.self.now c.in_default.ensures.none
