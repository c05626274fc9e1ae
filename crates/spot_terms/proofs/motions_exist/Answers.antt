use Rattle.spot_terms.proofs.SomeMotions.{motions_exist}
use Rattle.spot_terms.proofs.motions_exist.Goals as goal

pub returns : goal.returns
returns c = motions_exist
