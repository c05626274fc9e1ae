use Rattle.spot_terms.proofs.HullLaws.{hull_laws}
use Rattle.spot_terms.proofs.hulls_keep_their_laws.Goals as goal

pub returns : goal.returns
returns c = hull_laws
