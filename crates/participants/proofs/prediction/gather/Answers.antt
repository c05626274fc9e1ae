use Rattle.std.proofs.Common.{arith}
use Rattle.participants.proofs.Starts.{gathered_more, gathered_full, gathered_same}
use Rattle.participants.proofs.prediction.gather.Goals as goal
use Rattle.participants.proofs.prediction.gather.Goals.{then-m-eq0+in_ok-outset+in-Some-1, then-pairs-le-MOST_LANE_POLYGONS+in_ok-participant_of+in_ok-push, else-pairs-le-MOST_LANE_POLYGONS, then-m-eq0+in_ok-outset+in-None-1, else-m-eq0}

pub loop-m-preserved : goal.loop-m-preserved
loop-m-preserved c =
    let is = c.list-m-items.ensures in
    let gathered = c.loop-m.invariant.gathered in
    elim c.if-m-eq0.branch [
      | then-m-eq0+in_ok-outset+in-Some-1 w ↦ elim w.if-pairs-le-MOST_LANE_POLYGONS.branch [
        | then-pairs-le-MOST_LANE_POLYGONS+in_ok-participant_of+in_ok-push x ↦ record {
          gathered = rw (w.pairs-is, w.participants-is, x.participants-is, x.in_ok-push.ensures.items, w.from.ensures) (gathered_more _ _ _ _ _ _ _ _ _ _ _ is c.loop-m-test.true c.m-item.is w.if-m-eq0.true gathered w.in_ok-outset.ensures.count x.in_ok-participant_of.ensures);
          size = omega (arith, w.from.ensures, w.in_ok-outset.ensures.small);
        }
        | else-pairs-le-MOST_LANE_POLYGONS x ↦ record {
          gathered = rw (w.pairs-is, w.participants-is, x.participants-is, w.from.ensures) (gathered_full _ _ _ _ _ _ _ _ _ _ is c.loop-m-test.true c.m-item.is w.if-m-eq0.true gathered w.in_ok-outset.ensures.count (omega arith));
          size = omega (arith, w.from.ensures, w.in_ok-outset.ensures.small);
        }
      ]
      | then-m-eq0+in_ok-outset+in-None-1 w ↦ elim w.if-pairs-le-MOST_LANE_POLYGONS.branch [
        | then-pairs-le-MOST_LANE_POLYGONS+in_ok-participant_of+in_ok-push x ↦ record {
          gathered = rw (w.pairs-is, w.participants-is, x.participants-is, x.in_ok-push.ensures.items, w.from.ensures) (gathered_more _ _ _ _ _ _ _ _ _ _ _ is c.loop-m-test.true c.m-item.is w.if-m-eq0.true gathered w.in_ok-outset.ensures.count x.in_ok-participant_of.ensures);
          size = omega (arith, w.from.ensures, w.in_ok-outset.ensures.small);
        }
        | else-pairs-le-MOST_LANE_POLYGONS x ↦ record {
          gathered = rw (w.pairs-is, w.participants-is, x.participants-is, w.from.ensures) (gathered_full _ _ _ _ _ _ _ _ _ _ is c.loop-m-test.true c.m-item.is w.if-m-eq0.true gathered w.in_ok-outset.ensures.count (omega arith));
          size = omega (arith, w.from.ensures, w.in_ok-outset.ensures.small);
        }
      ]
      | else-m-eq0 w ↦ record {
        gathered = rw (w.pairs-is, w.participants-is) (gathered_same _ _ _ _ _ _ _ _ _ is c.loop-m-test.true c.m-item.is w.if-m-eq0.false gathered);
        size = omega arith;
      }
    ]
