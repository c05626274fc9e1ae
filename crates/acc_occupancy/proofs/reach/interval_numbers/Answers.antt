use Rattle.std.proofs.Common.{◌∙◌}
use Rattle.acc_occupancy.proofs.Bodies.{numbers_hold, numbers_within}
use Rattle.acc_occupancy.proofs.Ends.{line_numbers-are}
use Rattle.acc_occupancy.proofs.reach.interval_numbers.Goals as goal

pub returns-clause-value : goal.returns-clause-value
returns-clause-value c = c.octagon.ensures ∙ line_numbers-are c.args.s.now _ c.args.k c.args.i c.lines_of.ensures.of_start c.lines_of.ensures.range

pub returns-clause-bodies : goal.returns-clause-bodies
returns-clause-bodies c = numbers_hold c.args.s.now c.args.k c.args.i _ (returns-clause-value c) c.requires.start

pub returns-clause-small : goal.returns-clause-small
returns-clause-small c = numbers_within c.args.s.now c.args.k c.args.i _ (returns-clause-value c) c.requires.start c.requires.interval c.requires.ticks
