use Rattle.merge_sets.proofs.Excess.{merged_sets_exceed as law}
use Rattle.merge_sets.proofs.merged_sets_exceed.Goals as goal

pub returns : goal.returns
returns c = law
