use Rattle.lane_paths.proofs.ClosedLaws.{padded}
use Rattle.lane_paths.proofs.closed.GreatestLengths.close.Goals as goal

pub loop-self-preserved : goal.loop-self-preserved
loop-self-preserved c = padded c.args.self.now.greatest.items c.loop-self.self.greatest.items c.push.new.self.items c.loop-self.invariant c.in_ok-push.ensures.items
