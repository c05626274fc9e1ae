use Rattle.propagate.proofs.Growths.{growths_bound}
use Rattle.propagate.proofs.numbers.growths_bound_steps.Goals as goal

pub returns : goal.returns
returns c = growths_bound
