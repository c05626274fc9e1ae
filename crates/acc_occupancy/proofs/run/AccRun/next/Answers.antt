use Rattle.std.proofs.Common.{◌≡◌, ◌<◌, ◌∙◌}
use Rattle.spot_terms.specs.Reach.{interval_numbers}
use Rattle.acc_occupancy.proofs.Bodies.{numbers_hold, numbers_within}
use Rattle.acc_occupancy.proofs.Ends.{line_numbers-are}
use Rattle.acc_occupancy.proofs.run.AccRun.next.Goals as goal
use Rattle.acc_occupancy.proofs.run.AccRun.next.Goals.{After-octagon-numbers}

numbers : (c : After-octagon-numbers) → c.octagon-numbers.result.n ≡ interval_numbers c.self.inside.start c.self.inside.ticks c.self.inside.interval
numbers c = c.octagon-numbers.ensures ∙ line_numbers-are c.self.inside.start c.self.inside.lines c.self.inside.ticks c.self.inside.interval c.self.invariant.3 c.self.invariant.4

pub returns-clause-value : goal.returns-clause-value
returns-clause-value c = rw (← c.self.view_is) (numbers ((goal.at.returns-clause-value c).After-octagon-numbers))

pub returns-clause-bodies : goal.returns-clause-bodies
returns-clause-bodies c = rw (← c.self.view_is) (numbers_hold _ _ _ _ (numbers ((goal.at.returns-clause-bodies c).After-octagon-numbers)) c.self.invariant.0)

pub returns-clause-small : goal.returns-clause-small
returns-clause-small c =
    let before : c.self.inside.interval < 100 = rw (← c.self.view_is) at c.requires in
    numbers_within _ _ _ _ (numbers ((goal.at.returns-clause-small c).After-octagon-numbers)) c.self.invariant.0 before c.self.invariant.1
