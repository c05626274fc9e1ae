use Rattle.merge_sets.proofs.Collections.{merged_sets_hold as law}
use Rattle.merge_sets.proofs.merged_sets_hold.Goals as goal

pub returns : goal.returns
returns c = law
