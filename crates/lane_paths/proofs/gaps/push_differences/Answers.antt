use Rattle.std.proofs.Common.{rules, slice_index_or}
use Rattle.spot_terms.proofs.ListLemmas.{includes_at}
use Rattle.convex_poly.proofs.Corners.{origin}
use Rattle.lane_paths.proofs.DifferenceLists.{each_more, each_room}
use Rattle.lane_paths.proofs.gaps.push_differences.Goals as goal

pub short_minus-requires : goal.short_minus-requires
short_minus-requires g c = c.requires.near (slice_index_or c.args.b.now c.loop-q.q-index origin) (includes_at c.args.b.now c.loop-q.q-index origin c.loop-q-test.true)

pub push-requires : goal.push-requires
push-requires g c = (search rules, each_room c.args.vectors.now.items c.loop-q.vectors.items c.args.p.now c.args.b.now c.loop-q.q-index g.row.N c.loop-q-test.true c.loop-q.invariant c.requires.room)

pub loop-q-preserved : goal.loop-q-preserved
loop-q-preserved g c = each_more c.args.vectors.now.items c.loop-q.vectors.items c.push.new.self.items c.args.p.now c.args.b.now c.loop-q.q-index origin c.short_minus.result c.loop-q-test.true c.loop-q.invariant c.short_minus.ensures c.push.ensures.items
