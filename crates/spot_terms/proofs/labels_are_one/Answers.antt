use Rattle.spot_terms.proofs.OneLabel.{labels_are_one}
use Rattle.spot_terms.proofs.labels_are_one.Goals as goal

pub returns : goal.returns
returns c = labels_are_one
