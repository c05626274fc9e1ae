use Rattle.scenario.proofs.OneRefusal.{one_refusal}
use Rattle.scenario.proofs.a_tree_has_one_refusal.Goals as goal

pub returns : goal.returns
returns c = one_refusal
