use Rattle.std.proofs.Common.{rules}
use Rattle.lanelets.proofs.BoxLists.{within_wider}
use Rattle.lanelets.proofs.boxes.around_both.Goals as goal

pub returns-clause-first : goal.returns-clause-first
returns-clause-first c = λ p i. (within_wider _ _ _ _ p.x (search rules) (search rules) i.0, within_wider _ _ _ _ p.y (search rules) (search rules) i.1)

pub returns-clause-second : goal.returns-clause-second
returns-clause-second c = λ p i. (within_wider _ _ _ _ p.x (search rules) (search rules) i.0, within_wider _ _ _ _ p.y (search rules) (search rules) i.1)
