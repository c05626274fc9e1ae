use Rattle.std.proofs.Common.{rules}
use Rattle.spot_terms.specs.Reach.{normal_at}
use Rattle.spot_terms.proofs.Normals.{normal_at-included}
use Rattle.acc_occupancy.proofs.Starts.{line_in_range}
use Rattle.acc_occupancy.proofs.line.Line.of.Goals as goal

pub returns-clause-of_start : goal.returns-clause-of_start
returns-clause-of_start c = search rules

pub returns-clause-range : goal.returns-clause-range
returns-clause-range c = line_in_range c.args.s.now (normal_at c.args.normal) _ c.requires.start (normal_at-included c.args.normal c.requires.normal) (returns-clause-of_start c)
