use Rattle.spot_terms.proofs.Roots.{roots_are}
use Rattle.spot_terms.proofs.roots_are.Goals as goal

pub returns : goal.returns
returns c = roots_are
