use Rattle.spot_num.proofs.Newton.{step_above}
use Rattle.spot_num.proofs.nearer_root.Goals as goal

pub returns-clause-above : goal.returns-clause-above
returns-clause-above c = step_above _ _ c.requires.some
