use Rattle.std.proofs.Common.{◌≡◌, ◌∙◌, ◌+◌, arith, ap, length}
use Rattle.std.proofs.lemmas.List.{length_push}
use Rattle.merge_sets.proofs.PlaneLists.{planes_more}
use Rattle.merge_sets.proofs.planes.Planes.open.Goals as goal

pub loop-preserved : goal.loop-preserved
loop-preserved c = record {
  count = ap length c.in_ok-push.ensures.items ∙ length_push c.loop.ys.items c.zero_plane.result ∙ ap (λ n. n + 1) c.loop.invariant.count;
  planes = planes_more c.args.k c.loop.ys.items c.push.new.self.items c.zero_plane.result c.loop.invariant.planes c.zero_plane.ensures c.in_ok-push.ensures.items;
}
